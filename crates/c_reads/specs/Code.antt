-- ROM data and the byte reads on one count, by a report handed back, altered or not. With a count for each job: c_job_reads.
use Rattle.std.specs.Prelude.{ℕ, Bool, List, []}
use Rattle.info.specs.Lent.{lent_by}
use Rattle.info.specs.Reads.{range, byte, Reply, rom_read}
use Rattle.byte_reads.specs.declared.ByteRead.{ByteRead}
use Rattle.byte_reads.specs.Calls.{byte_of}
use Rattle.c_report.specs.declared.OneromReport.{OneromReport}
use Rattle.c_handed.specs.Handed.{board_in}
use Rattle.c_board.specs.Board.{address_from}

-- ROM data looks at no ROM row
unfoldable pub data_on_count : (flash_base cs0_base : ℕ) → OneromReport → (sets : List ℕ) → (set offset n count : ℕ) → List ℕ → Reply
data_on_count flash_base cs0_base report sets set offset n count x =
    rom_read flash_base cs0_base (lent_by (board_in flash_base cs0_base report) sets []) count (range set offset n) x

unfoldable pub byte_on_count : (demangled : Bool) → (flash_base cs0_base : ℕ) → OneromReport → (sets roms : List ℕ) → (set logical address : ℕ) → (levels : List ℕ) → (count : ℕ) → List ℕ → ByteRead
byte_on_count demangled flash_base cs0_base report sets roms set logical address levels count x =
    byte_of (rom_read flash_base cs0_base (lent_by (board_in flash_base cs0_base report) sets roms) count (byte set (address_from logical address levels) demangled) x)
