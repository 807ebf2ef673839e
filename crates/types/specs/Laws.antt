-- What the arms of a match give: in the arm of a key, the function's value at the key; in the last arm, the first case.
-- Assumes nothing.
use Rattle.std.specs.Prelude.{ℕ, zero, suc, ◌<◌, ◌≡◌, refl, List, ◌∷◌, length, get_or}
use Rattle.std.proofs.Common.{arith, sym, ap}
use Rattle.std.proofs.Math.ListN.{get_or-eq_default}

pub at_key : {A B : Type 0} (f : A → B) {a key : A} → a ≡ key → f key ≡ f a
at_key f e = sym (ap f e)

-- a number that is none of 1 to k, as a match leaves it
abbrev pub NoneOf : ℕ → ℕ → Type 0
NoneOf n zero = Unit {0}
NoneOf n (suc k) = NoneOf n k × (n ≡ suc k → ⊥)

next_above : (n k : ℕ) → k < n → (n ≡ suc k → ⊥) → suc k < n
next_above n k h f = omega arith

above : (n k : ℕ) → NoneOf n k → 0 < n → k < n
above n zero r h = h
above n (suc k) r h = next_above n k (above n k r.0 h) r.1

pub at_none : {A : Type 0} (a : A) (l : List A) (n : ℕ) → NoneOf n (length l) → a ≡ get_or (a ∷ l) n a
at_none a l zero r = refl
at_none a l (suc n) r = sym (get_or-eq_default l a (let h = above (suc n) (length l) r (omega arith) in omega arith))
