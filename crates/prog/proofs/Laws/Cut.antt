-- An image cut short: what a cut at k leaves is `take k x`.
-- 01 coins "ended" ("Window"): number 2, a failed read or a slice shorter than its record. Here it is any property E of answers.
use Rattle.std.specs.Prelude.{ℕ, ◌+◌, ◌-◌, ◌≤◌, ◌<◌, ◌≡◌, ◌⊎◌, List, length, take}
use Rattle.std.proofs.Common.{arith, ap, sym, subst, ◌∙◌, inl, inr, ⊎_elim, length-take, get_or-take}
use Rattle.window.specs.Laws.{Inside}
use Rattle.prog.specs.Prog.{failed, Prog, done, read, unshown, answer, run, Span, taken, trace, end_of, reach}
use Rattle.prog.proofs.Laws.Read.{answer_inside, inside_or_failed}
use Rattle.prog.proofs.Laws.Reach.{end_here, end_there, reach_length}
use Rattle.prog.proofs.Laws.Agree.{Alike, alike_done, alike_read, alike_unshown, same_answer}

-- ---- one read

module _ (x : List ℕ) (k base a n : ℕ) where
  -- a read that the front part allows, the whole allows; the other way round it must end within the front part
  pub inside_whole : Inside (take k x) base a n → Inside x base a n
  inside_whole i = record { from = i.from; word = i.word; upto = omega (arith, length-take k x) }

  inside_front : Inside x base a n → a - base + n ≤ k → Inside (take k x) base a n
  inside_front i h = record { from = i.from; word = i.word; upto = simp length-take (omega arith) }

  -- a read that ends within the front part gives the same on it
  answer_kept : (Inside x base a n → a - base + n ≤ k) → answer x base a n ≡ answer (take k x) base a n
  answer_kept h = same_answer x (take k x) base a n (λ i. (inside_front i (h i), λ j lo hi. sym (get_or-take k x j 0 (let u = h i in omega arith)))) inside_whole

  -- a read of the front part fails, or gives what the whole gives
  pub answer_cut : (answer (take k x) base a n ≡ failed) ⊎ (answer (take k x) base a n ≡ answer x base a n)
  answer_cut = ⊎_elim (λ (i : Inside (take k x) base a n). inr (sym (answer_kept (λ j. omega (arith, length-take k x))))) inl (inside_or_failed (take k x) base a n)

  -- a read that fails on the whole fails on every front part
  pub failed_cut : answer x base a n ≡ failed → answer (take k x) base a n ≡ failed
  failed_cut e = ⊎_elim (λ f. f) (λ f. f ∙ e) answer_cut

-- ---- the whole program

-- a cut at or past the reach changes nothing
pub past : {A : Type 0} (p : Prog A) (x : List ℕ) (k : ℕ) → reach p x ≤ k → Alike p x (take k x)
unfolding trace
past (done a) x k h = alike_done x (take k x) a
past (read base a n f) x k h =
    let w = answer x base a n in
    let s : Span = record { offset = a - base; size = n } in
    let t = trace (f w) x in
    alike_read x (take k x) base a n f
    (answer_kept x k base a n (λ i. let l : a - base + n ≤ end_of (taken w s t) = end_here w s t _ (answer_inside x base a n i) in omega arith))
    (past (f w) x k (let l : end_of t ≤ end_of (taken w s t) = end_there w s t in omega arith))
past (unshown r p) x k h = alike_unshown x (take k x) r p (past p x k h)

-- ---- two runs: p on a front part beside q on the whole

-- the answers are related, and the front part's is ended or both take the same
pub record Cut {A : Type 0} (E : A → Type 0) (R : A → A → Type 0) (p q : Prog A) : Type 0 where
  pub values : (x : List ℕ) (k : ℕ) → R (run p (take k x)) (run q x)
  pub takes : (x : List ℕ) (k : ℕ) → E (run p (take k x)) ⊎ (trace p (take k x) ≡ trace q x)

-- ended, or equal
abbrev pub OrEnded : {A : Type 0} → (A → Type 0) → A → A → Type 0
OrEnded E a b = E a ⊎ (a ≡ b)

module _ {A : Type 0} {E : A → Type 0} {R : A → A → Type 0} {p : Prog A} (c : Cut E R p p) (x : List ℕ) (k : ℕ) where
  -- a cut below the reach gives an ended answer
  pub below : k < reach p x → E (run p (take k x))
  below h =
      ⊎_elim (λ e. e)
      (λ (e : trace p (take k x) ≡ trace p x).
      let l : reach p (take k x) ≤ length (take k x) = reach_length p (take k x) in
      let m : reach p (take k x) ≡ reach p x = ap end_of e in
      absurd (omega (arith, length-take k x)))
      (c.takes x k)

  -- what a cut shows is related to what the whole shows
  pub shown : R (run p (take k x)) (run p x)
  shown = c.values x k

  -- where the whole's answer is not ended, no front part shorter than the reach gives it
  pub least : (E (run p x) → ⊥) → k < reach p x → run p (take k x) ≡ run p x → ⊥
  least n l e = n (subst E e (below l))
