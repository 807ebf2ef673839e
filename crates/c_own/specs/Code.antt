-- The byte by the set's own ROMs on one count, by a report handed back, altered or not. With a count for each job: c_job_reads.
use Rattle.std.specs.Prelude.{ℕ, List}
use Rattle.info.specs.Lent.{lent_by}
use Rattle.info.specs.Reads.{own, rom_read}
use Rattle.byte_reads.specs.declared.ByteRead.{ByteRead}
use Rattle.byte_reads.specs.Calls.{byte_of}
use Rattle.c_report.specs.declared.OneromReport.{OneromReport}
use Rattle.c_handed.specs.Handed.{board_in}
use Rattle.c_board.specs.Board.{levels_from}

unfoldable pub own_on_count : (flash_base cs0_base : ℕ) → OneromReport → (sets roms : List ℕ) → (set address : ℕ) → (levels : List ℕ) → (count : ℕ) → List ℕ → ByteRead
own_on_count flash_base cs0_base report sets roms set address levels count x =
    byte_of (rom_read flash_base cs0_base (lent_by (board_in flash_base cs0_base report) sets roms) count (own set address (levels_from levels)) x)
