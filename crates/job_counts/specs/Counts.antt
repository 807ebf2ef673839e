-- Document 02, wish 4: eight counts stand in place of the one, jobs 0 to 7.
use Rattle.std.specs.Prelude.{ℕ, List, get_or}
use Rattle.base.specs.Choice.{pick}
use Rattle.window.specs.Window.{beyond_window}

-- a job's own count, of eight; a job of 8 or more has none, and 0 stands for it
abbrev pub count_of : (job : ℕ) → List ℕ → ℕ
count_of job counts = get_or counts job 0

-- 83: job number 8 or more. It comes after 1.
abbrev pub no_job_number : (flash_base cs0_base : ℕ) → List ℕ → ℕ
no_job_number flash_base cs0_base x = pick (beyond_window flash_base cs0_base x) 1 83
