-- Document 02, wish 4, beside document 01: a job's replies and its count are those of the reads on one count, which know of no job; and what these
-- count over a history.
-- Assumes nothing.
use Rattle.std.specs.Prelude.{ℕ, ◌+◌, ◌≤◌, ◌<◌, ◌≡◌, refl, true, List, length}
use Rattle.std.proofs.Common.{arith, sym, ap, ◌∙◌, eqb-true, add-zero}
use Rattle.machine.specs.Machine.{state_after, replies, replies_of, gained, calls_of}
use Rattle.machine.proofs.Laws.Follow.{Follows, follow_replies, follow_after}
use Rattle.machine.proofs.Laws.Along.{along}
use Rattle.info.specs.Reads.{Reply, accepted_length}
use Rattle.info.proofs.Laws.Count.{count_step, count_fits}
use Rattle.job_counts.specs.Counts.{count_of}
use Rattle.jobs.specs.Histories.{JobCall, JobReply, read_reply_of, one_reply_of, job_reply, jobs_by, on_one_count, of_job}
use Rattle.jobs.proofs.Laws.Steps.{job_read_is}
use Rattle.jobs.proofs.Laws.OneCall.{other_left}
use Rattle.jobs.proofs.Laws.History.{eight_stay, left_own}

module _ {C : Type 0} (call : C → JobCall) where
  module _ (j : ℕ) (below : j < 8) where
    -- there are eight counts, and the job's is the one
    record Its (counts : List ℕ) (count : ℕ) : Type 0 where
      eight : length counts ≡ 8
      its : count_of j counts ≡ count

    job_follows : Follows (jobs_by call) (on_one_count call) (of_job call j) Its
    job_follows = record {
      others_keep = λ c s n e a. record { eight = eight_stay call c s a.eight; its = other_left (call c).job s (read_reply_of (call c) s) j e ∙ a.its };
      same_reply = λ c s n e a. ap (job_reply (call c)) (same c s n e a);
      own_keep = λ c s n e a. record { eight = eight_stay call c s a.eight; its = left_own call j below c s a.eight (eqb-true (call c).job j e) ∙ ap (λ (t : Reply). t.count) (same c s n e a) };
    }
      where
        same : (c : C) (s : List ℕ) (n : ℕ) → of_job call j c ≡ true → Its s n → read_reply_of (call c) s ≡ one_reply_of (call c) n
        same c s n e a =
            let own = eqb-true (call c).job j e in
            job_read_is (call c).flash_base (call c).cs0_base (call c).lent (call c).job s (call c).read (call c).image (rw own below)
            ∙ ap (one_reply_of (call c)) (rw own a.its)

    pub as_on_one_count : (counts : List ℕ) → length counts ≡ 8 → (h : List C)
        → replies_of (of_job call j) h (replies (jobs_by call) counts h) ≡ replies (on_one_count call) (count_of j counts) (calls_of (of_job call j) h)
    as_on_one_count counts e h = follow_replies job_follows counts (count_of j counts) h (record { eight = e; its = refl })

    pub count_as_one : (counts : List ℕ) → length counts ≡ 8 → (h : List C)
        → count_of j (state_after (jobs_by call) counts h) ≡ state_after (on_one_count call) (count_of j counts) (calls_of (of_job call j) h)
    count_as_one counts e h = (follow_after job_follows counts (count_of j counts) h (record { eight = e; its = refl })).its

  -- ---- document 01, "ROM data": over any history of reads on one count

  abbrev accepted : C → JobReply → ℕ
  accepted c t = accepted_length t.number (call c).read

  -- the count grows by the lengths of the reads that were accepted
  pub one_count_sums : (count : ℕ) (h : List C) → state_after (on_one_count call) count h ≡ count + gained (on_one_count call) accepted count h
  one_count_sums count h =
      along (on_one_count call) accepted (λ s. Unit {0}) (λ c s k. k) (λ s n t. t ≡ s + n) (λ s. sym (add-zero s)) (λ s t u a b p q. omega arith)
      (λ c s k. count_step (call c).flash_base (call c).cs0_base (call c).lent (call c).image s (call c).read) count h tt

  -- and stays within 32 bits
  pub one_count_fits : (count : ℕ) → count ≤ 4294967295 → (h : List C) → state_after (on_one_count call) count h ≤ 4294967295
  one_count_fits count fits h =
      along (on_one_count call) accepted (λ s. Unit {0}) (λ c s k. k) (λ s n t. s ≤ 4294967295 → t ≤ 4294967295) (λ s k. k) (λ s t u a b p q k. q (p k))
      (λ c s k. count_fits (call c).flash_base (call c).cs0_base (call c).lent (call c).image s (call c).read) count h tt fits
