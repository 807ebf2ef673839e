-- Document 02, wish 3: an accepted string's width is the number of its bytes outside 80..BF. No string is wider than it is long, nor less than a
-- quarter as wide.
-- Assumes nothing.
use Rattle.std.specs.Prelude.{ℕ, ◌*◌, ◌≤◌, ◌≡◌, Bool, true, false, List, length, drop}
use Rattle.std.proofs.Common.{◌∙◌, arith}
use Rattle.std.proofs.Math.ListN.{length-drop}
use Rattle.std.proofs.Math.Seq.{length-take-le}
use Rattle.base.specs.Choice.{pick}
use Rattle.window.specs.Window.{past_window}
use Rattle.prog.specs.Prog.{run}
use Rattle.utf8.proofs.Laws.Points.{outside, points_outside, points_length}
use Rattle.text.specs.Text.{refused_text, bytes_of, text_p, string_call}
use Rattle.text.proofs.Laws.Chunks.{Accepted, text_accepted}
use Rattle.text.specs.declared.Text.{Text as Str}

pub record Wide (x : List ℕ) (t : Str) : Type 0 where
  pub counted : t.width ≡ outside (bytes_of x t)
  pub at_most : t.width ≤ t.length
  pub at_least : t.length ≤ 4 * t.width

pub accepted_wide : {x : List ℕ} {base pointer : ℕ} {t : Str} → Accepted x base pointer t → Wide x t
accepted_wide {x} {t = t} a =
    let full : length (bytes_of x t) ≡ t.length = length-take-le t.length (drop t.offset x) (simp length-drop (let i = a.inside in omega arith)) in
    let l = points_length (bytes_of x t) a.utf8 in
    record { counted = a.wide ∙ points_outside (bytes_of x t) a.utf8; at_most = omega (arith, a.wide, l.0); at_least = omega (arith, a.wide, l.1) }

pub text_wide : (x : List ℕ) (base pointer : ℕ) → (run (text_p base pointer) x).number ≡ 0 → Wide x (run (text_p base pointer) x)
text_wide x base pointer e = accepted_wide (text_accepted x base pointer e)

-- the public string call, which checks its window first
pub call_wide : (x : List ℕ) (base pointer : ℕ) → (string_call base pointer x).number ≡ 0 → Wide x (string_call base pointer x)
unfolding string_call
call_wide x base pointer e = go (past_window base x) e
  where
    go : (b : Bool) → (pick b (refused_text 1) (run (text_p base pointer) x)).number ≡ 0 → Wide x (pick b (refused_text 1) (run (text_p base pointer) x))
    go true h = absurd (omega arith)
    go false h = text_wide x base pointer h
