-- Bytes that no shown read takes do not matter: two images that agree on the others give the same.
use Prim.Native.Nat.{ℕ, suc, ◌+◌, ◌-◌, ◌≤◌, ◌<◌}
use Rattle.std.proofs.Common.{arith, sym, ◌∙◌, inl, inr, ⊎_elim, length-take, length-drop, ext_get_or}
use Rattle.std.specs.Prelude.{◌≡◌, length, get_or, take, drop}
use Rattle.std.proofs.Math.Path.{refl, ap}
use mathlib.Core.List.{List}
use Rattle.base.specs.Laws.{clash}
use Rattle.window.specs.Laws.{Inside, part_at}
use Rattle.prog.specs.Prog.{Answer, failed, got, Reads, Prog, done, read, unshown, answer, run, Span, taken, trace, tried_shown, Takes}
use Rattle.prog.proofs.Laws.Read.{answer_inside, inside_or_failed}

-- the program does the same on two images, in all that is shown
pub record Alike {A : Type 0} (p : Prog A) (x y : List ℕ) : Type 0 where
  pub answers : run p x ≡ run p y
  pub traces : trace p x ≡ trace p y
  pub counts : tried_shown p x ≡ tried_shown p y

module _ {A : Type 0} (x y : List ℕ) where
  pub alike_done : (a : A) → Alike (done a) x y
  unfolding run trace tried_shown
  alike_done a = record { answers = refl; traces = refl; counts = refl }

  -- a read that gives the same on both
  pub alike_read : (base a n : ℕ) (k : Answer → Prog A) → answer x base a n ≡ answer y base a n → Alike (k (answer x base a n)) x y → Alike (read base a n k) x y
  unfolding run trace tried_shown
  alike_read base a n k e i =
      let s : Span = record { offset = a - base; size = n } in
      record {
        answers = i.answers ∙ ap (λ (w : Answer). run (k w) y) e;
        traces = ap (λ (t : List Span). taken (answer x base a n) s t) i.traces ∙ ap (λ (w : Answer). taken w s (trace (k w) y)) e;
        counts = ap suc i.counts ∙ ap (λ (w : Answer). suc (tried_shown (k w) y)) e;
      }

  pub alike_unshown : (r : Reads) (p : Prog A) → Alike p x y → Alike (unshown r p) x y
  unfolding run trace tried_shown
  alike_unshown r p i = record { answers = i.answers; traces = i.traces; counts = i.counts }

-- two parts with the same bytes
pub same_part : (x y : List ℕ) (o n : ℕ) → o + n ≤ length x → o + n ≤ length y → ((i : ℕ) → o ≤ i → i < o + n → get_or x i 0 ≡ get_or y i 0)
    → take n (drop o x) ≡ take n (drop o y)
same_part x y o n l m h =
    ext_get_or 0 (take n (drop o x)) (take n (drop o y)) (simp (length-take, length-drop) (omega arith))
    (λ i (b : i < length (take n (drop o x))).
    let i< : i < n = omega (arith, simp length-take at b) in
    part_at o n x i i< ∙ h (o + i) (omega arith) (omega arith) ∙ sym (part_at o n y i i<))

-- a read that takes the same bytes of both, and fails on the second if on the first
pub same_answer : (x y : List ℕ) (base a n : ℕ)
    → (Inside x base a n → Inside y base a n × ((i : ℕ) → a - base ≤ i → i < a - base + n → get_or x i 0 ≡ get_or y i 0))
    → (Inside y base a n → Inside x base a n) → answer x base a n ≡ answer y base a n
same_answer x y base a n h j = ⊎_elim hit miss (inside_or_failed x base a n)
  where
    hit : Inside x base a n → answer x base a n ≡ answer y base a n
    hit i =
        let q = h i in
        let r : Inside y base a n = q.0 in
        answer_inside x base a n i ∙ ap got (same_part x y (a - base) n (omega arith) (omega arith) q.1) ∙ sym (answer_inside y base a n r)

    miss : answer x base a n ≡ failed → answer x base a n ≡ answer y base a n
    miss e = ⊎_elim (λ (i : Inside y base a n). hit (j i)) (λ (f : answer y base a n ≡ failed). e ∙ sym f) (inside_or_failed y base a n)

-- what a read takes is taken, and stays so whatever stands before
takes_here : (w : Answer) (bs : List ℕ) (s : Span) (t : List Span) (i : ℕ) → w ≡ got bs → s.offset ≤ i → i < s.offset + s.size → Takes (taken w s t) i
unfolding Takes
takes_here failed bs s t i e lo hi = clash (cc)
takes_here (got cs) bs s t i e lo hi = inl (lo, hi)

takes_there : (w : Answer) (s : Span) (t : List Span) (i : ℕ) → Takes t i → Takes (taken w s t) i
unfolding Takes
takes_there failed s t i h = h
takes_there (got bs) s t i h = inr h

-- images of one length that agree on every byte that a shown read of the first took
pub agree : {A : Type 0} (p : Prog A) (x y : List ℕ) → length x ≡ length y → ((i : ℕ) → Takes (trace p x) i → get_or x i 0 ≡ get_or y i 0) → Alike p x y
unfolding trace
agree (done a) x y l h = alike_done x y a
agree (read base a n k) x y l h =
    let w = answer x base a n in
    let s : Span = record { offset = a - base; size = n } in
    let t = trace (k w) x in
    alike_read x y base a n k
    (same_answer x y base a n
    (λ i. (record { from = i.from; word = i.word; upto = omega arith }, λ j lo hi. h j (takes_here w _ s t j (answer_inside x base a n i) lo hi)))
    (λ i. record { from = i.from; word = i.word; upto = omega arith }))
    (agree (k w) x y l (λ j q. h j (takes_there w s t j q)))
agree (unshown r p) x y l h = alike_unshown x y r p (agree p x y l h)
