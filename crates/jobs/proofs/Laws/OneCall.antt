-- Document 02, wish 4, call by call: whose count a call changes, and by which it is answered.
-- Assumes nothing.
use Rattle.std.specs.Prelude.{ℕ, ◌≡◌, refl, Bool, true, false, List, set, eqb, ltb, length, get_or}
use Rattle.std.proofs.Common.{sym, ap, ap₂, ◌∙◌, eqb-true, length-set, get_or-set_same, get_or-set_other}
use Rattle.std.proofs.lemmas.Bool.{eqb-false, ltb-true, ltb-false}
use Rattle.std.proofs.lemmas.List.{get_or_past}
use Rattle.base.specs.Laws.{cases}
use Rattle.base.specs.Choice.{pick}
use Rattle.machine.specs.Laws.Component.{Component}
use Rattle.info.specs.Reads.{Reply}
use Rattle.job_counts.specs.Counts.{count_of}
use Rattle.jobs.specs.Jobs.{job_read, counts_left}
use Rattle.jobs.specs.Histories.{JobCall, read_reply_of, job_reply, jobs_by, of_job}

-- ---- the counts afterwards

pub left_length : (job : ℕ) (counts : List ℕ) (t : Reply) → length (counts_left job counts t) ≡ length counts
unfolding counts_left
left_length job counts t = go (eqb t.number 0)
  where
    go : (b : Bool) → length (pick b (set counts job t.count) counts) ≡ length counts
    go true = length-set counts job t.count
    go false = refl

-- a call of another job leaves the count
pub other_left : (job : ℕ) (counts : List ℕ) (t : Reply) (j : ℕ) → eqb job j ≡ false → count_of j (counts_left job counts t) ≡ count_of j counts
unfolding counts_left
other_left job counts t j e = go (eqb t.number 0)
  where
    go : (b : Bool) → get_or (pick b (set counts job t.count) counts) j 0 ≡ get_or counts j 0
    go true = get_or-set_other counts job j t.count 0 (λ (h : j ≡ job). eqb-false job j e (sym h))
    go false = refl

-- what a call of the job leaves of it goes by that count alone, and by how many there are
pub left_by_its_count : (job : ℕ) (s u : List ℕ) (t : Reply) → length s ≡ length u → count_of job s ≡ count_of job u → count_of job (counts_left job s t) ≡ count_of job (counts_left job u t)
unfolding counts_left
left_by_its_count job s u t long same = go (eqb t.number 0)
  where
    stored : get_or (set s job t.count) job 0 ≡ get_or (set u job t.count) job 0
    stored =
        cases (ltb job (length s))
        (λ h. get_or-set_same s job t.count 0 (ltb-true job (length s) h) ∙ sym (get_or-set_same u job t.count 0 (rw long at (ltb-true job (length s) h))))
        (λ h.
        let past = ltb-false job (length s) h in
        get_or_past (set s job t.count) job 0 (rw (length-set s job t.count) past)
        ∙ sym (get_or_past (set u job t.count) job 0 (rw (length-set u job t.count, ← long) past)))

    go : (b : Bool) → get_or (pick b (set s job t.count) s) job 0 ≡ get_or (pick b (set u job t.count) u) job 0
    go true = stored
    go false = same

-- the reply goes by the job's own count alone
pub reply_by_own : (c : JobCall) (s u : List ℕ) → count_of c.job s ≡ count_of c.job u → read_reply_of c s ≡ read_reply_of c u
unfolding job_read
reply_by_own c s u e = rw e refl

-- ---- a job as a component: its calls, and its count

module _ {C : Type 0} (call : C → JobCall) (j : ℕ) where
  -- how many counts there are, and its own
  abbrev pub job_part : List ℕ → ℕ × ℕ
  job_part counts = (length counts, count_of j counts)

  pub job_component : Component (jobs_by call) (of_job call j) job_part
  job_component = record {
    others_leave = λ c s e. both (left_length (call c).job s (read_reply_of (call c) s)) (other_left (call c).job s (read_reply_of (call c) s) j e);
    reply_by_part = λ c s u own e. ap (job_reply (call c)) (same_reply c s u own e);
    next_by_part = λ c s u own e.
        both
        (left_length (call c).job s (read_reply_of (call c) s) ∙ ap (λ (p : ℕ × ℕ). p.0) e ∙ sym (left_length (call c).job u (read_reply_of (call c) u)))
        (own_kept c s u own e);
  }
    where
      both : {a b c d : ℕ} → a ≡ c → b ≡ d → ◌≡◌ {A = ℕ × ℕ} (a, b) (c, d)
      both e f = ap₂ {C = ℕ × ℕ} (λ (p q : ℕ). (p, q)) e f

      its_count : (c : C) (s u : List ℕ) → of_job call j c ≡ true → job_part s ≡ job_part u → count_of (call c).job s ≡ count_of (call c).job u
      its_count c s u own e = rw (eqb-true (call c).job j own) (ap (λ (p : ℕ × ℕ). p.1) e)

      same_reply : (c : C) (s u : List ℕ) → of_job call j c ≡ true → job_part s ≡ job_part u → read_reply_of (call c) s ≡ read_reply_of (call c) u
      same_reply c s u own e = reply_by_own (call c) s u (its_count c s u own e)

      own_kept : (c : C) (s u : List ℕ) → of_job call j c ≡ true → job_part s ≡ job_part u
          → count_of j (counts_left (call c).job s (read_reply_of (call c) s)) ≡ count_of j (counts_left (call c).job u (read_reply_of (call c) u))
      own_kept c s u own e =
          let k : (call c).job ≡ j = eqb-true (call c).job j own in
          rw (← k, same_reply c s u own e) (left_by_its_count (call c).job s u (read_reply_of (call c) u) (ap (λ (p : ℕ × ℕ). p.0) e) (its_count c s u own e))
