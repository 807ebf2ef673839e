-- A law of one call, carried over a history: what the calls gain adds up.
-- Assumes nothing.
use Rattle.std.specs.Prelude.{ℕ, ◌+◌, List, [], ◌∷◌}
use Rattle.machine.specs.Machine.{Machine, state_after, gained}

module _ {C S R : Type 0} (m : Machine C S R) (gain : C → R → ℕ)
    (Kept : S → Type 0) (keep : (c : C) (s : S) → Kept s → Kept (m.next c s))
    (Law : S → ℕ → S → Type 0) (none : (s : S) → Law s 0 s) (join : (s t u : S) (a b : ℕ) → Law s a t → Law t b u → Law s (a + b) u)
    (one : (c : C) (s : S) → Kept s → Law s (gain c (m.reply c s)) (m.next c s)) where
  pub along : (s : S) (cs : List C) → Kept s → Law s (gained m gain s cs) (state_after m s cs)
  unfolding state_after gained
  along s [] k = none s
  along s (c ∷ cs) k = join _ _ _ _ _ (one c s k) (along (m.next c s) cs (keep c s k))
