-- What a read of a program gives.
-- Assumes nothing.
use Rattle.std.specs.Prelude.{ℕ, ◌-◌, ◌≡◌, ◌⊎◌, true, false, List, take, drop}
use Rattle.std.proofs.Common.{inl, inr, ⊎_elim}
use Rattle.window.specs.Window.{can_read}
use Rattle.window.specs.Laws.{Inside, inside_true, inside?}
use Rattle.prog.specs.Prog.{failed, got, answer}

module _ (x : List ℕ) (base a n : ℕ) where
  pub answer_true : can_read x base a n ≡ true → answer x base a n ≡ got (take n (drop (a - base) x))
  unfolding answer
  answer_true e = rw e

  pub answer_false : can_read x base a n ≡ false → answer x base a n ≡ failed
  unfolding answer
  answer_false e = rw e

  pub answer_inside : Inside x base a n → answer x base a n ≡ got (take n (drop (a - base) x))
  answer_inside i = answer_true (inside_true x base a n i)

  pub inside_or_failed : Inside x base a n ⊎ (answer x base a n ≡ failed)
  inside_or_failed = ⊎_elim inl (λ f. inr (answer_false f)) (inside? x base a n)
