-- Document 02, wish 4, for the calls that C and Rust make: a history of reads, each by any report, rows and image, altered or not, that lends each read
-- the eight counts as the last has left them.
-- Assumes nothing.
use Rattle.std.specs.Prelude.{ℕ, ◌+◌, ◌≡◌, Bool, List, [], ◌∷◌, eqb, length}
use Rattle.base.specs.Choice.{pick}
use Rattle.info.specs.Lent.{lent_by}
use Rattle.info.specs.Reads.{range, byte, own, Reply, buffer_left}
use Rattle.job_counts.specs.Counts.{count_of}
use Rattle.jobs.specs.Jobs.{counts_left}
use Rattle.jobs.specs.Histories.{JobCall, jobs_by}
use Rattle.c_board.specs.Board.{levels_from, address_from}
use Rattle.c_report.specs.declared.OneromReport.{OneromReport}
use Rattle.c_handed.specs.Handed.{board_in}
use Rattle.c_job_reads.specs.Reads.{data_call, byte_call, own_call}

-- a call of `onerom_read_rom_set_data`, of a byte read, or of the one by the set's own ROMs; all that is lent but the counts, with what the lent
-- buffer or byte holds before
pub data Call : Type 0 where
  data_read : (flash_base cs0_base : ℕ) → OneromReport → (sets : List ℕ) → (set offset : ℕ) → (buffer : List ℕ) → (job : ℕ) → (image : List ℕ) → Call
  byte_read : (demangled : Bool) → (flash_base cs0_base : ℕ) → OneromReport → (sets roms : List ℕ) → (set logical address : ℕ) → (levels : List ℕ) → (job value : ℕ) → (image : List ℕ) → Call
  own_read : (flash_base cs0_base : ℕ) → OneromReport → (sets roms : List ℕ) → (set address : ℕ) → (levels : List ℕ) → (job value : ℕ) → (image : List ℕ) → Call

-- what answers it, as the statements say
abbrev pub answer_to : Call → (counts : List ℕ) → Reply
answer_to (data_read f c report sets set offset buffer job x) counts = data_call f c report sets set offset (length buffer) job counts x
answer_to (byte_read d f c report sets roms set logical address levels job value x) counts = byte_call d f c report sets roms set logical address levels job counts x
answer_to (own_read f c report sets roms set address levels job value x) counts = own_call f c report sets roms set address levels job counts x

-- the read that it is
abbrev pub read_is : Call → JobCall
read_is (data_read f c report sets set offset buffer job x) =
    record { flash_base = f; cs0_base = c; lent = lent_by (board_in f c report) sets []; job = job; read = range set offset (length buffer); buffer = buffer; image = x }
read_is (byte_read d f c report sets roms set logical address levels job value x) =
    record { flash_base = f; cs0_base = c; lent = lent_by (board_in f c report) sets roms; job = job; read = byte set (address_from logical address levels) d; buffer = value ∷ []; image = x }
read_is (own_read f c report sets roms set address levels job value x) =
    record { flash_base = f; cs0_base = c; lent = lent_by (board_in f c report) sets roms; job = job; read = own set address (levels_from levels); buffer = value ∷ []; image = x }

-- the bytes that it asks for
abbrev pub bytes_of : Call → ℕ
bytes_of (data_read f c report sets set offset buffer job x) = length buffer
bytes_of (byte_read d f c report sets roms set logical address levels job value x) = 1
bytes_of (own_read f c report sets roms set address levels job value x) = 1

-- those of a job's accepted calls, added up along a history
unfoldable pub accepted_bytes : (job : ℕ) → (counts : List ℕ) → List Call → ℕ
accepted_bytes job counts [] = 0
accepted_bytes job counts (c ∷ cs) =
    pick (eqb (read_is c).job job) (pick (eqb (answer_to c counts).number 0) (bytes_of c) 0) 0
    + accepted_bytes job (counts_left (read_is c).job counts (answer_to c counts)) cs

-- What the machine of histories gives to a call is what its statement says: the number, the buffer or the lent byte, all eight counts; and the count in
-- its reply is the job's own of these.
pub record AsStated (c : Call) (counts : List ℕ) : Type 0 where
  pub number : ((jobs_by read_is).reply c counts).number ≡ (answer_to c counts).number
  pub buffer : ((jobs_by read_is).reply c counts).buffer ≡ buffer_left (answer_to c counts) (read_is c).buffer
  pub counts_left_is : (jobs_by read_is).next c counts ≡ counts_left (read_is c).job counts (answer_to c counts)
  pub its_count : length counts ≡ 8 → ((jobs_by read_is).reply c counts).count ≡ count_of (read_is c).job (counts_left (read_is c).job counts (answer_to c counts))
