-- A ROM read by a job, by a board and rows as lent.
use Rattle.std.specs.Prelude.{ℕ, List}
use Rattle.board.specs.declared.Board.{Board}
use Rattle.info.specs.Lent.{lent_by}
use Rattle.info.specs.Reads.{RomRead, Reply}
use Rattle.jobs.specs.Jobs.{job_read}

abbrev pub board_read : Board → (sets roms : List ℕ) → (job : ℕ) → (counts : List ℕ) → RomRead → List ℕ → Reply
board_read b sets roms job counts r x = job_read b.flash_base b.cs0_base (lent_by b sets roms) job counts r x
