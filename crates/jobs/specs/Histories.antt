-- Document 02, wish 4: a history of ROM reads by jobs, one after the other. Each gets the counts that the last has left.
use Rattle.std.specs.Prelude.{ℕ, Bool, List, eqb}
use Rattle.base.specs.Choice.{pick}
use Rattle.machine.specs.Machine.{Machine}
use Rattle.info.specs.Lent.{Lent}
use Rattle.info.specs.Reads.{RomRead, Reply, rom_read, buffer_left, accepted_length}
use Rattle.jobs.specs.Jobs.{job_read, counts_left}

-- A ROM read by a job, and all that it is lent but the counts: settings, report and rows, as opened or altered, the image, and what the buffer
-- holds, of a byte read the lent byte. (That the buffer is as long as the read says no law needs.)
pub record JobCall : Type 0 where
  pub flash_base : ℕ
  pub cs0_base : ℕ
  pub lent : Lent
  pub job : ℕ
  pub read : RomRead
  pub buffer : List ℕ
  pub image : List ℕ

abbrev pub read_reply_of : JobCall → (counts : List ℕ) → Reply
read_reply_of c counts = job_read c.flash_base c.cs0_base c.lent c.job counts c.read c.image

abbrev pub one_reply_of : JobCall → (count : ℕ) → Reply
one_reply_of c count = rom_read c.flash_base c.cs0_base c.lent count c.read c.image

-- what its job gets: the number, the buffer's final contents, its own count afterwards
pub record JobReply : Type 0 where
  pub number : ℕ
  pub buffer : List ℕ
  pub count : ℕ

abbrev pub job_reply : JobCall → Reply → JobReply
job_reply c t = record { number = t.number; buffer = buffer_left t c.buffer; count = t.count }

-- the machine: its state is the eight counts; `call` says of each of its calls which read it is
abbrev pub jobs_by : {C : Type 0} → (C → JobCall) → Machine C (List ℕ) JobReply
jobs_by call = record {
  reply = λ c counts. job_reply (call c) (read_reply_of (call c) counts);
  next = λ c counts. counts_left (call c).job counts (read_reply_of (call c) counts);
}

-- beside it document 01's reads on one count, which know of no job
abbrev pub on_one_count : {C : Type 0} → (C → JobCall) → Machine C ℕ JobReply
on_one_count call = record {
  reply = λ c count. job_reply (call c) (one_reply_of (call c) count);
  next = λ c count. (one_reply_of (call c) count).count;
}

-- the calls of a job
abbrev pub of_job : {C : Type 0} → (C → JobCall) → (job : ℕ) → C → Bool
of_job call job c = eqb (call c).job job

-- what a call adds to a job's count: its length, if it is that job's and accepted
abbrev pub gain_of : {C : Type 0} → (C → JobCall) → (job : ℕ) → C → JobReply → ℕ
gain_of call job c t = pick (of_job call job c) (accepted_length t.number (call c).read) 0
