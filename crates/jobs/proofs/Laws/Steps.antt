-- One read by a job, outcome by outcome.
-- Assumes nothing.
use Rattle.std.specs.Prelude.{ℕ, ◌+◌, ◌≤◌, ◌<◌, ◌≡◌, refl, Bool, true, false, List, set, eqb, leb, length}
use Rattle.std.proofs.Common.{arith, sym, ap, ◌∙◌, eq-eqb, ne_eqb, add-zero, get_or-set_same}
use Rattle.std.proofs.lemmas.Bool.{le-leb, lt-leb, leb-true, leb-false}
use Rattle.std.proofs.lemmas.List.{set-get_or}
use Rattle.base.specs.Laws.{cases}
use Rattle.base.specs.Choice.{pick}
use Rattle.window.specs.Window.{beyond_window}
use Rattle.info.specs.Lent.{Lent}
use Rattle.info.specs.Reads.{RomRead, length_of, Reply, refused_reply, rom_read, buffer_left}
use Rattle.info.proofs.Laws.Calls.{read_beyond}
use Rattle.info.proofs.Laws.Count.{count_step}
use Rattle.job_counts.specs.Counts.{count_of, no_job_number}
use Rattle.jobs.specs.Jobs.{job_read, counts_left}

-- a refused read changes no count
pub refused_left : (job : ℕ) (counts : List ℕ) (t : Reply) → (t.number ≡ 0 → ⊥) → counts_left job counts t ≡ counts
unfolding counts_left
refused_left job counts t h = rw (ne_eqb t.number 0 h)

module _ (flash_base cs0_base : ℕ) (l : Lent) (job : ℕ) (counts : List ℕ) (r : RomRead) (x : List ℕ) where
  -- ---- a job of 8 or more: 1 or 83, and nothing else

  pub no_job_read : 8 ≤ job → job_read flash_base cs0_base l job counts r x ≡ refused_reply (no_job_number flash_base cs0_base x) (count_of job counts)
  unfolding job_read
  no_job_read h = rw (le-leb 8 job h) (go (beyond_window flash_base cs0_base x))
    where
      go : (b : Bool) → pick b (refused_reply 1 (count_of job counts)) (refused_reply 83 (count_of job counts)) ≡ refused_reply (pick b 1 83) (count_of job counts)
      go true = refl
      go false = refl

  pub no_job_refused : no_job_number flash_base cs0_base x ≡ 0 → ⊥
  no_job_refused e = go (beyond_window flash_base cs0_base x) e
    where
      go : (b : Bool) → pick {A = ℕ} b 1 83 ≡ 0 → ⊥
      go true h = omega arith
      go false h = omega arith

  -- so an accepted read is one by a job from 0 to 7
  pub accepted_job : (job_read flash_base cs0_base l job counts r x).number ≡ 0 → job < 8
  accepted_job e =
      cases (leb 8 job)
      (λ h. absurd (no_job_refused (ap (λ (t : Reply). t.number) (sym (no_job_read (leb-true 8 job h))) ∙ e)))
      (λ h. leb-false 8 job h)

  pub no_job_left : 8 ≤ job → counts_left job counts (job_read flash_base cs0_base l job counts r x) ≡ counts
  no_job_left h = rw (no_job_read h) (refused_left job counts (refused_reply (no_job_number flash_base cs0_base x) (count_of job counts)) no_job_refused)

  pub no_job_buffer : (lent : List ℕ) → 8 ≤ job → buffer_left (job_read flash_base cs0_base l job counts r x) lent ≡ lent
  no_job_buffer lent h = rw (no_job_read h, ne_eqb (no_job_number flash_base cs0_base x) 0 no_job_refused)

  -- ---- a job from 0 to 7: the read on its own count, which alone may change

  pub job_read_is : job < 8 → job_read flash_base cs0_base l job counts r x ≡ rom_read flash_base cs0_base l (count_of job counts) r x
  unfolding job_read
  job_read_is h =
      cases (beyond_window flash_base cs0_base x)
      (λ e. rw e (sym (read_beyond flash_base cs0_base l (count_of job counts) x r e)))
      (λ e. rw (e, lt-leb 8 job h) refl)

  -- the count that a refused read leaves is the one that stands there
  pub job_left : job < 8 → counts_left job counts (job_read flash_base cs0_base l job counts r x) ≡ set counts job (rom_read flash_base cs0_base l (count_of job counts) r x).count
  unfolding counts_left
  job_left h = rw (job_read_is h) (go (eqb t.number 0) refl)
    where
      t : Reply
      t = rom_read flash_base cs0_base l (count_of job counts) r x

      go : (b : Bool) → eqb t.number 0 ≡ b → pick b (set counts job t.count) counts ≡ set counts job t.count
      go true e = refl
      go false e =
          let kept : t.count ≡ count_of job counts = rw e at (count_step flash_base cs0_base l x (count_of job counts) r) ∙ add-zero (count_of job counts) in
          sym (rw kept (set-get_or counts job 0))

  -- an accepted read: its job's count grows by the length, the other seven stay
  pub accepted_left : (job_read flash_base cs0_base l job counts r x).number ≡ 0
      → counts_left job counts (job_read flash_base cs0_base l job counts r x) ≡ set counts job (count_of job counts + length_of r)
  accepted_left e =
      let below = accepted_job e in
      let same = job_read_is below in
      let number : (rom_read flash_base cs0_base l (count_of job counts) r x).number ≡ 0 = ap (λ (t : Reply). t.number) (sym same) ∙ e in
      job_left below ∙ rw (eq-eqb _ 0 number) at (ap (set counts job) (count_step flash_base cs0_base l x (count_of job counts) r))

  -- the count in a reply is the job's own, as the read leaves it
  pub reply_count : length counts ≡ 8
      → (job_read flash_base cs0_base l job counts r x).count ≡ count_of job (counts_left job counts (job_read flash_base cs0_base l job counts r x))
  reply_count eight =
      cases (leb 8 job)
      (λ h. let past = leb-true 8 job h in rw (no_job_left past, no_job_read past) refl)
      (λ h.
      let below = leb-false 8 job h in
      rw (job_left below, job_read_is below)
      (sym (get_or-set_same counts job (rom_read flash_base cs0_base l (count_of job counts) r x).count 0 (omega arith))))
