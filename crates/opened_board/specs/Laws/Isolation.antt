-- Document 02, wish 4, on every board as it was opened: the promise to each job, in every history of its reads.
-- Assumes nothing.
use Rattle.std.specs.Prelude.{ℕ, ◌+◌, ◌<◌, ◌≡◌, refl, List, length}
use Rattle.std.proofs.Common.{zero-add, ap, ◌∙◌}
use Rattle.std.proofs.lemmas.List.{get_or-replicate}
use Rattle.machine.specs.Machine.{state_after, gained}
use Rattle.window.specs.declared.Settings.{Settings}
use Rattle.job_counts.specs.Counts.{count_of}
use Rattle.jobs.specs.Histories.{read_reply_of, jobs_by, gain_of}
use Rattle.jobs.specs.Isolated.{Isolated}
use Rattle.jobs.proofs.Laws.History.{isolated}
use Rattle.fw_parser.specs.Opening.{open_with}
use Rattle.opened_board.specs.ReadAfter.{read_after}
use Rattle.opened_board.specs.Histories.{BoardCall, on_board, at_opening}

-- each call is the read after the opening, of which demand 3 speaks
pub on_board_is_read_after : (s : Settings) (sets roms x : List ℕ) (c : BoardCall) (counts : List ℕ)
    → read_reply_of (on_board s sets roms x c) counts ≡ read_after s sets roms (open_with s sets roms x) c.job counts c.read x
on_board_is_read_after s sets roms x c counts = refl

module _ (s : Settings) (sets roms x : List ℕ) (h : List BoardCall) (j : ℕ) (below : j < 8) where
  -- from the opening on
  pub isolated_from_opening : Isolated (on_board s sets roms x) at_opening h j
  isolated_from_opening = isolated (on_board s sets roms x) j below at_opening refl h

  -- its count is the sum of its accepted lengths
  pub sums_from_opening : count_of j (state_after (jobs_by (on_board s sets roms x)) at_opening h) ≡ gained (jobs_by (on_board s sets roms x)) (gain_of (on_board s sets roms x) j) at_opening h
  sums_from_opening = isolated_from_opening.count_sums ∙ ap (λ (n : ℕ). n + sum) (get_or-replicate {A = ℕ} 8 j 0 0 below) ∙ zero-add sum
    where
      sum : ℕ
      sum = gained (jobs_by (on_board s sets roms x)) (gain_of (on_board s sets roms x) j) at_opening h

  -- and from any eight counts
  pub isolated_from_any : (counts : List ℕ) → length counts ≡ 8 → Isolated (on_board s sets roms x) counts h j
  isolated_from_any counts eight = isolated (on_board s sets roms x) j below counts eight h
