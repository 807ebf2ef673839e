-- The ROM reads of a job as C and Rust call them: by a report handed back, altered or not.
use Rattle.std.specs.Prelude.{ℕ, Bool, List, []}
use Rattle.info.specs.Lent.{lent_by}
use Rattle.info.specs.Reads.{range, byte, own, Reply}
use Rattle.jobs.specs.Jobs.{job_read}
use Rattle.c_report.specs.declared.OneromReport.{OneromReport}
use Rattle.c_handed.specs.Handed.{board_in}
use Rattle.c_board.specs.Board.{levels_from, address_from}

-- ROM data looks at no ROM row
unfoldable pub data_call : (flash_base cs0_base : ℕ) → OneromReport → (sets : List ℕ) → (set offset n job : ℕ) → (counts x : List ℕ) → Reply
data_call flash_base cs0_base report sets set offset n job counts x =
    job_read flash_base cs0_base (lent_by (board_in flash_base cs0_base report) sets []) job counts (range set offset n) x

unfoldable pub byte_call : (demangled : Bool) → (flash_base cs0_base : ℕ) → OneromReport → (sets roms : List ℕ) → (set logical address : ℕ) → (levels : List ℕ) → (job : ℕ) → (counts x : List ℕ) → Reply
byte_call demangled flash_base cs0_base report sets roms set logical address levels job counts x =
    job_read flash_base cs0_base (lent_by (board_in flash_base cs0_base report) sets roms) job counts (byte set (address_from logical address levels) demangled) x

-- document 02, wish 1
unfoldable pub own_call : (flash_base cs0_base : ℕ) → OneromReport → (sets roms : List ℕ) → (set address : ℕ) → (levels : List ℕ) → (job : ℕ) → (counts x : List ℕ) → Reply
own_call flash_base cs0_base report sets roms set address levels job counts x =
    job_read flash_base cs0_base (lent_by (board_in flash_base cs0_base report) sets roms) job counts (own set address (levels_from levels)) x
