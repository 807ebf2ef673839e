-- The lent word after a call that answers n, where its definition says the number m and the value w.
-- Assumes nothing.
use Rattle.std.specs.Prelude.{ℕ, ◌≡◌}
use Rattle.std.proofs.Common.{sym, ◌∙◌, ne_eqb}
use Rattle.c_board.specs.Value.{value_after}

pub value_refused : {n m : ℕ} (w before : ℕ) → n ≡ m → (n ≡ 0 → ⊥) → (n ≡ m) × (before ≡ value_after n w before)
value_refused {n} w before e h = (e, rw (ne_eqb n 0 h))

-- at number 0 `value_after` is the value
pub value_given : {n m v w : ℕ} → n ≡ m → v ≡ w → n ≡ 0 → (0 ≡ m) × (v ≡ w)
value_given e g h = (sym h ∙ e, g)
