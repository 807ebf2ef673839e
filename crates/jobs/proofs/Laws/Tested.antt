-- One read by a job, by the test that the code makes and by what it finds on its way: what the proofs of the calls cite.
-- Assumes nothing.
use Rattle.std.specs.Prelude.{ℕ, ◌≡◌, refl, true, false, List, set, ltb, length}
use Rattle.std.proofs.Common.{arith, sym, ap, ◌∙◌}
use Rattle.std.proofs.lemmas.Bool.{ltb-true, ltb-false}
use Rattle.std.proofs.lemmas.List.{get_or_past}
use Rattle.job_counts.specs.Counts.{count_of, no_job_number}
use Rattle.info.specs.Lent.{Lent}
use Rattle.info.specs.Reads.{RomRead, refused_reply, rom_read, buffer_left}
use Rattle.jobs.specs.Jobs.{job_read, counts_left}
use Rattle.jobs.proofs.Laws.Steps.{no_job_read, no_job_left, no_job_buffer, job_read_is, job_left}

module _ (flash_base cs0_base : ℕ) (l : Lent) (job : ℕ) (counts : List ℕ) (r : RomRead) (x : List ℕ) where
  -- ---- no job

  module _ (test : ltb job 8 ≡ false) where
    pub none_read : length counts ≡ 8 → (number : ℕ) → number ≡ no_job_number flash_base cs0_base x → refused_reply number 0 ≡ job_read flash_base cs0_base l job counts r x
    none_read eight number told =
        let past = ltb-false job 8 test in
        let none : count_of job counts ≡ 0 = get_or_past counts job 0 (omega arith) in
        sym (no_job_read flash_base cs0_base l job counts r x past ∙ rw (none, ← told) refl)

    pub none_left : counts ≡ counts_left job counts (job_read flash_base cs0_base l job counts r x)
    none_left = sym (no_job_left flash_base cs0_base l job counts r x (ltb-false job 8 test))

    pub none_buffer : (lent : List ℕ) → lent ≡ buffer_left (job_read flash_base cs0_base l job counts r x) lent
    none_buffer lent = sym (no_job_buffer flash_base cs0_base l job counts r x lent (ltb-false job 8 test))

  -- ---- a job: the count before the read is its own, and the count after it is put back

  module _ (test : ltb job 8 ≡ true) (before : ℕ) (its : before ≡ count_of job counts) where
    pub its_read : rom_read flash_base cs0_base l before r x ≡ job_read flash_base cs0_base l job counts r x
    its_read = ap (λ (n : ℕ). rom_read flash_base cs0_base l n r x) its ∙ sym (job_read_is flash_base cs0_base l job counts r x (ltb-true job 8 test))

    pub its_left : (count : ℕ) → count ≡ (rom_read flash_base cs0_base l before r x).count → (left : List ℕ) → left ≡ set counts job count
        → left ≡ counts_left job counts (job_read flash_base cs0_base l job counts r x)
    its_left count told left put =
        put
        ∙ ap (set counts job) (told ∙ ap (λ (n : ℕ). (rom_read flash_base cs0_base l n r x).count) its)
        ∙ sym (job_left flash_base cs0_base l job counts r x (ltb-true job 8 test))
