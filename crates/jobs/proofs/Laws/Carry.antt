-- What holds of reads on one count, carried to the reads of a job.
-- Assumes nothing.
use Rattle.std.specs.Prelude.{ℕ, ◌≡◌, refl, List}
use Rattle.std.proofs.Common.{sym, ap, ◌∙◌}
use Rattle.info.specs.Lent.{Lent}
use Rattle.info.specs.Reads.{RomRead, Reply, rom_read}
use Rattle.job_counts.specs.Counts.{count_of}
use Rattle.jobs.specs.Jobs.{job_read}
use Rattle.jobs.proofs.Laws.Steps.{accepted_job, job_read_is}

module _ (flash_base cs0_base : ℕ) (l m : Lent) (r q : RomRead) (job : ℕ) (counts : List ℕ) where
  -- two reads that get the same reply at every count
  pub job_same : (x : List ℕ) → ((count : ℕ) → rom_read flash_base cs0_base l count r x ≡ rom_read flash_base cs0_base m count q x)
      → job_read flash_base cs0_base l job counts r x ≡ job_read flash_base cs0_base m job counts q x
  unfolding job_read
  job_same x same = rw (same (count_of job counts)) refl

  -- a read whose accepted replies another read gets too
  pub job_kept : (x y : List ℕ)
      → ((count : ℕ) → (rom_read flash_base cs0_base l count r x).number ≡ 0 → rom_read flash_base cs0_base m count q y ≡ rom_read flash_base cs0_base l count r x)
      → (job_read flash_base cs0_base l job counts r x).number ≡ 0 → job_read flash_base cs0_base m job counts q y ≡ job_read flash_base cs0_base l job counts r x
  job_kept x y kept e =
      let below = accepted_job flash_base cs0_base l job counts r x e in
      let here = job_read_is flash_base cs0_base l job counts r x below in
      job_read_is flash_base cs0_base m job counts q y below
      ∙ kept (count_of job counts) (ap (λ (t : Reply). t.number) (sym here) ∙ e)
      ∙ sym here
