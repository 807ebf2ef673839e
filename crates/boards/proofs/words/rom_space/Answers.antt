use Rattle.std.proofs.Common.{ℕ, ◌*◌, sym}
use Rattle.std.proofs.lemmas.List.{length-replicate}
use Rattle.rows.specs.LentRows.{rom_row_length}
use Rattle.boards.proofs.words.rom_space.Goals as goal

pub returns : goal.returns
returns c = sym (length-replicate {0} {A = ℕ} (65536 * rom_row_length) 0)
