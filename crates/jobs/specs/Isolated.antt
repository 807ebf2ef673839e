-- Document 02, wish 4: "Whatever the other jobs read, a job gets the replies and count that its calls, in their order, would have had by
-- themselves." `isolated` in proofs/Laws/History proves it for every history, from any eight counts, zeros among them.
use Rattle.std.specs.Prelude.{ℕ, ◌+◌, ◌≡◌, List}
use Rattle.machine.specs.Machine.{state_after, replies, replies_of, gained, calls_of}
use Rattle.job_counts.specs.Counts.{count_of, no_job_number}
use Rattle.jobs.specs.Jobs.{counts_left}
use Rattle.jobs.specs.Histories.{JobCall, read_reply_of, job_reply, jobs_by, of_job, gain_of}

-- Of job j, 0 to 7, in the history h, which starts from the eight `counts`.
pub record Isolated {C : Type 0} (call : C → JobCall) (counts : List ℕ) (h : List C) (j : ℕ) : Type 0 where
  -- of all replies in h those to its calls are, one by one, the replies that its calls get by themselves
  pub replies_alone : replies_of (of_job call j) h (replies (jobs_by call) counts h) ≡ replies (jobs_by call) counts (calls_of (of_job call j) h)
  -- and its count at the end is the one that they leave by themselves:
  pub count_alone : count_of j (state_after (jobs_by call) counts h) ≡ count_of j (state_after (jobs_by call) counts (calls_of (of_job call j) h))
  -- what it was at the start, and the lengths of its accepted calls
  pub count_sums : count_of j (state_after (jobs_by call) counts h) ≡ count_of j counts + gained (jobs_by call) (gain_of call j) counts h

-- A call by no job, 8 or more: it answers 1 or 83, and leaves its buffer and all counts.
pub record ByNoJob (c : JobCall) (counts : List ℕ) : Type 0 where
  pub number : (read_reply_of c counts).number ≡ no_job_number c.flash_base c.cs0_base c.image
  pub buffer_kept : (job_reply c (read_reply_of c counts)).buffer ≡ c.buffer
  pub counts_kept : counts_left c.job counts (read_reply_of c counts) ≡ counts
