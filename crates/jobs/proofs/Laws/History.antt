-- Document 02, wish 4, over histories: what is promised of every job, from any eight counts; within 32 bits; and a call by no job.
-- Assumes nothing.
use Rattle.std.specs.Prelude.{ℕ, ◌+◌, ◌≤◌, ◌<◌, ◌≡◌, List, eqb, length}
use Rattle.std.proofs.Common.{arith, sym, ap, ◌∙◌, eqb-true, add-zero, get_or-set_same}
use Rattle.base.specs.Laws.{cases}
use Rattle.machine.specs.Machine.{state_after}
use Rattle.machine.proofs.Laws.Component.{component_replies, component_part}
use Rattle.machine.proofs.Laws.Along.{along}
use Rattle.info.specs.Reads.{Reply}
use Rattle.info.proofs.Laws.Count.{count_step, count_fits}
use Rattle.job_counts.specs.Counts.{count_of}
use Rattle.jobs.specs.Histories.{JobCall, read_reply_of, jobs_by, gain_of}
use Rattle.jobs.specs.Isolated.{Isolated, ByNoJob}
use Rattle.jobs.proofs.Laws.Steps.{no_job_read, no_job_left, no_job_buffer, job_read_is, job_left}
use Rattle.jobs.proofs.Laws.OneCall.{left_length, other_left, job_component}

-- a call by no job
pub by_no_job : (c : JobCall) (counts : List ℕ) → 8 ≤ c.job → ByNoJob c counts
by_no_job c counts h = record {
  number = ap (λ (t : Reply). t.number) (no_job_read c.flash_base c.cs0_base c.lent c.job counts c.read c.image h);
  buffer_kept = no_job_buffer c.flash_base c.cs0_base c.lent c.job counts c.read c.image c.buffer h;
  counts_kept = no_job_left c.flash_base c.cs0_base c.lent c.job counts c.read c.image h;
}

module _ {C : Type 0} (call : C → JobCall) where
  abbrev next : C → List ℕ → List ℕ
  next = (jobs_by call).next

  pub eight_stay : (c : C) (counts : List ℕ) → length counts ≡ 8 → length (next c counts) ≡ 8
  eight_stay c counts e = left_length (call c).job counts (read_reply_of (call c) counts) ∙ e

  module _ (j : ℕ) (below : j < 8) where
    -- what a call leaves of the count of its own job
    pub left_own : (c : C) (counts : List ℕ) → length counts ≡ 8 → (call c).job ≡ j → count_of j (next c counts) ≡ (read_reply_of (call c) counts).count
    left_own c counts e own =
        let d = call c in
        let here : d.job < length counts = rw (own, e) below in
        rw (← own, job_left d.flash_base d.cs0_base d.lent d.job counts d.read d.image (rw own below), job_read_is d.flash_base d.cs0_base d.lent d.job counts d.read d.image (rw own below))
        (get_or-set_same counts d.job _ 0 here)

    -- a call adds to it the length that was accepted, if it is the job's
    pub one_gain : (c : C) (counts : List ℕ) → length counts ≡ 8 → count_of j (next c counts) ≡ count_of j counts + gain_of call j c ((jobs_by call).reply c counts)
    one_gain c counts e =
        let d = call c in
        cases (eqb d.job j)
        (λ h.
        let own = eqb-true d.job j h in
        left_own c counts e own ∙ rw (h, job_read_is d.flash_base d.cs0_base d.lent d.job counts d.read d.image (rw own below), ← own) (count_step d.flash_base d.cs0_base d.lent d.image (count_of d.job counts) d.read))
        (λ h. other_left d.job counts (read_reply_of d counts) j h ∙ rw h (sym (add-zero (count_of j counts))))

    pub isolated : (counts : List ℕ) → length counts ≡ 8 → (h : List C) → Isolated call counts h j
    isolated counts e h = record {
      replies_alone = component_replies (job_component call j) counts h;
      count_alone = ap (λ (p : ℕ × ℕ). p.1) (component_part (job_component call j) counts h);
      count_sums = along (jobs_by call) (gain_of call j) (λ s. length s ≡ 8) (λ c s k. eight_stay c s k) (λ s n t. count_of j t ≡ count_of j s + n) (λ s. sym (add-zero (count_of j s))) (λ s t u a b p q. omega arith) (λ c s k. one_gain c s k) counts h e;
    }

    -- its count stays within 32 bits
    pub count_within : (counts : List ℕ) → length counts ≡ 8 → count_of j counts ≤ 4294967295 → (h : List C) → count_of j (state_after (jobs_by call) counts h) ≤ 4294967295
    count_within counts e fits h =
        along (jobs_by call) (gain_of call j) (λ s. length s ≡ 8) (λ c s k. eight_stay c s k) (λ s n t. count_of j s ≤ 4294967295 → count_of j t ≤ 4294967295)
        (λ s k. k) (λ s t u a b p q k. q (p k)) (λ c s k. one_fits c s k) counts h e fits
      where
        one_fits : (c : C) (s : List ℕ) → length s ≡ 8 → count_of j s ≤ 4294967295 → count_of j (next c s) ≤ 4294967295
        one_fits c s e fits =
            let d = call c in
            cases (eqb d.job j)
            (λ k.
            let own = eqb-true d.job j k in
            rw (left_own c s e own, job_read_is d.flash_base d.cs0_base d.lent d.job s d.read d.image (rw own below))
            (count_fits d.flash_base d.cs0_base d.lent d.image (count_of d.job s) d.read (rw own fits)))
            (λ k. rw (other_left d.job s (read_reply_of d s) j k) fits)
