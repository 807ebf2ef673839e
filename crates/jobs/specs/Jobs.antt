-- Document 02, wish 4: a ROM read by a job, and what it leaves of the eight counts. The size of a set has no job.
use Rattle.std.specs.Prelude.{ℕ, List, set, eqb, leb}
use Rattle.base.specs.Choice.{pick}
use Rattle.window.specs.Window.{beyond_window}
use Rattle.job_counts.specs.Counts.{count_of}
use Rattle.info.specs.Lent.{Lent}
use Rattle.info.specs.Reads.{RomRead, Reply, refused_reply, rom_read}

-- 1, then 83: job number 8 or more; then the read on the job's own count, at which alone 82 looks
unfoldable pub job_read : (flash_base cs0_base : ℕ) → Lent → (job : ℕ) → (counts : List ℕ) → RomRead → List ℕ → Reply
job_read flash_base cs0_base l job counts r x =
    pick (beyond_window flash_base cs0_base x) (refused_reply 1 (count_of job counts))
    (pick (leb 8 job) (refused_reply 83 (count_of job counts))
    (rom_read flash_base cs0_base l (count_of job counts) r x))

-- the eight counts afterwards: an accepted read changes its job's, the other seven stay; a refused one changes none
unfoldable pub counts_left : (job : ℕ) → List ℕ → Reply → List ℕ
counts_left job counts t = pick (eqb t.number 0) (set counts job t.count) counts
