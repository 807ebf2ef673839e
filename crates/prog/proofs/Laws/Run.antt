-- How a program runs, step by step: what proofs of code use, so that they unfold none of the definitions.
use Rattle.std.specs.Prelude.{ℕ, suc, ◌+◌, ◌-◌, ◌≡◌, true, false, List, [], ◌∷◌, ◌++◌, take, drop}
use Rattle.std.proofs.Common.{zero-add, add-zero, suc-add, add_assoc, ◌∙◌, append-nil}
use Rattle.std.proofs.Math.Path.{refl, ap}
use Rattle.window.specs.Window.{can_read}
use Rattle.window.specs.Laws.{Inside, inside_true}
use Rattle.prog.specs.Prog.{Answer, failed, got, Reads, no_more, look, Prog, done, read, unshown, ◌>>=◌, also, map_p, or_else, fetch, and_then, reads_of, aside, answer, run, Span, taken, trace, tried_reads, tried, tried_shown}
use Rattle.prog.proofs.Laws.Read.{answer_true, answer_false}

-- ---- a program that only gives its answer; a test

module _ {A : Type 0} (x : List ℕ) where
  pub run_done : (a : A) → run (done a) x ≡ a
  unfolding run
  run_done a = refl

  pub trace_done : (a : A) → trace (done a) x ≡ []
  unfolding trace
  trace_done a = refl

  pub tried_done : (a : A) → tried (done a) x ≡ 0
  unfolding tried
  tried_done a = refl

  pub shown_done : (a : A) → tried_shown (done a) x ≡ 0
  unfolding tried_shown
  shown_done a = refl

-- ---- a read, by whether it succeeds

module _ {A : Type 0} (x : List ℕ) (base a n : ℕ) (e : A) (k : List ℕ → Prog A) where
  pub run_failed : can_read x base a n ≡ false → run (fetch base a n e k) x ≡ e
  unfolding run
  run_failed h = ap (λ (w : Answer). run (or_else e k w) x) (answer_false x base a n h)

  pub trace_failed : can_read x base a n ≡ false → trace (fetch base a n e k) x ≡ []
  unfolding trace
  trace_failed h = rw (answer_false x base a n h)

  pub tried_failed : can_read x base a n ≡ false → tried (fetch base a n e k) x ≡ 1
  unfolding tried
  tried_failed h = rw (answer_false x base a n h)

  pub shown_failed : can_read x base a n ≡ false → tried_shown (fetch base a n e k) x ≡ 1
  unfolding tried_shown
  shown_failed h = rw (answer_false x base a n h)

  pub run_got : can_read x base a n ≡ true → run (fetch base a n e k) x ≡ run (k (take n (drop (a - base) x))) x
  unfolding run
  run_got h = ap (λ (w : Answer). run (or_else e k w) x) (answer_true x base a n h)

  pub trace_got : can_read x base a n ≡ true → trace (fetch base a n e k) x ≡ record { offset = a - base; size = n } ∷ trace (k (take n (drop (a - base) x))) x
  unfolding trace
  trace_got h = rw (answer_true x base a n h)

  pub tried_got : can_read x base a n ≡ true → tried (fetch base a n e k) x ≡ suc (tried (k (take n (drop (a - base) x))) x)
  unfolding tried
  tried_got h = rw (answer_true x base a n h)

  pub shown_got : can_read x base a n ≡ true → tried_shown (fetch base a n e k) x ≡ suc (tried_shown (k (take n (drop (a - base) x))) x)
  unfolding tried_shown
  shown_got h = rw (answer_true x base a n h)

  pub run_inside : Inside x base a n → run (fetch base a n e k) x ≡ run (k (take n (drop (a - base) x))) x
  run_inside i = run_got (inside_true x base a n i)

  pub trace_inside : Inside x base a n → trace (fetch base a n e k) x ≡ record { offset = a - base; size = n } ∷ trace (k (take n (drop (a - base) x))) x
  trace_inside i = trace_got (inside_true x base a n i)

-- ---- one program after another

pub run_bind : {A B : Type 0} (x : List ℕ) (p : Prog A) (f : A → Prog B) → run (p >>= f) x ≡ run (f (run p x)) x
unfolding run
run_bind x (done a) f = refl
run_bind x (read base a n k) f = run_bind x (k (answer x base a n)) f
run_bind x (unshown r p) f = run_bind x p f

taken_append : (w : Answer) (s : Span) (t u : List Span) → taken w s (t ++ u) ≡ taken w s t ++ u
taken_append failed s t u = refl
taken_append (got bs) s t u = refl

pub trace_bind : {A B : Type 0} (x : List ℕ) (p : Prog A) (f : A → Prog B) → trace (p >>= f) x ≡ trace p x ++ trace (f (run p x)) x
unfolding run trace
trace_bind x (done a) f = refl
trace_bind x (read base a n k) f = rw (trace_bind x (k (answer x base a n)) f) (taken_append (answer x base a n) _ _ _)
trace_bind x (unshown r p) f = trace_bind x p f

pub tried_bind : {A B : Type 0} (x : List ℕ) (p : Prog A) (f : A → Prog B) → tried (p >>= f) x ≡ tried p x + tried (f (run p x)) x
unfolding run tried
tried_bind x (done a) f = simp zero-add
tried_bind x (read base a n k) f = simp (suc-add, tried_bind x (k (answer x base a n)) f)
tried_bind x (unshown r p) f = simp (tried_bind x p f, add_assoc)

pub shown_bind : {A B : Type 0} (x : List ℕ) (p : Prog A) (f : A → Prog B) → tried_shown (p >>= f) x ≡ tried_shown p x + tried_shown (f (run p x)) x
unfolding run tried_shown
shown_bind x (done a) f = simp zero-add
shown_bind x (read base a n k) f = simp (suc-add, shown_bind x (k (answer x base a n)) f)
shown_bind x (unshown r p) f = shown_bind x p f

module _ {A B : Type 0} (x : List ℕ) (f : A → B) (p : Prog A) where
  pub run_map : run (map_p f p) x ≡ f (run p x)
  run_map = run_bind x p (λ a. done (f a)) ∙ run_done x (f (run p x))

  pub trace_map : trace (map_p f p) x ≡ trace p x
  trace_map = trace_bind x p (λ a. done (f a)) ∙ rw (trace_done x (f (run p x))) (append-nil (trace p x))

  pub tried_map : tried (map_p f p) x ≡ tried p x
  tried_map = tried_bind x p (λ a. done (f a)) ∙ rw (tried_done x (f (run p x))) (add-zero (tried p x))

  pub shown_map : tried_shown (map_p f p) x ≡ tried_shown p x
  shown_map = shown_bind x p (λ a. done (f a)) ∙ rw (shown_done x (f (run p x))) (add-zero (tried_shown p x))

module _ {A B : Type 0} (x : List ℕ) (p : Prog A) (f : A → Prog B) where
  pub run_also : run (also p f) x ≡ (run p x, run (f (run p x)) x)
  run_also = run_bind x p (λ a. map_p (λ b. (a, b)) (f a)) ∙ run_map x (λ b. (run p x, b)) (f (run p x))

  pub trace_also : trace (also p f) x ≡ trace p x ++ trace (f (run p x)) x
  trace_also = trace_bind x p (λ a. map_p (λ b. (a, b)) (f a)) ∙ rw (trace_map {B = A × B} x (λ b. (run p x, b)) (f (run p x)))

  pub tried_also : tried (also p f) x ≡ tried p x + tried (f (run p x)) x
  tried_also = tried_bind x p (λ a. map_p (λ b. (a, b)) (f a)) ∙ rw (tried_map {B = A × B} x (λ b. (run p x, b)) (f (run p x)))

  pub shown_also : tried_shown (also p f) x ≡ tried_shown p x + tried_shown (f (run p x)) x
  shown_also = shown_bind x p (λ a. map_p (λ b. (a, b)) (f a)) ∙ rw (shown_map {B = A × B} x (λ b. (run p x, b)) (f (run p x)))

-- ---- reads that are not shown

looked_then : (x : List ℕ) (r s : Reads) → tried_reads (and_then r s) x ≡ tried_reads r x + tried_reads s x
unfolding tried_reads and_then
looked_then x no_more s = simp zero-add
looked_then x (look base a n k) s = simp (suc-add, looked_then x (k (answer x base a n)) s)

pub looked_reads : {A : Type 0} (x : List ℕ) (p : Prog A) → tried_reads (reads_of p) x ≡ tried p x
unfolding tried_reads reads_of tried
looked_reads x (done a) = refl
looked_reads x (read base a n k) = ap suc (looked_reads x (k (answer x base a n)))
looked_reads x (unshown r p) = looked_then x r (reads_of p) ∙ rw (looked_reads x p)

module _ {A B : Type 0} (x : List ℕ) (p : Prog B) (q : Prog A) where
  pub run_aside : run (aside p q) x ≡ run q x
  unfolding run
  run_aside = refl

  pub trace_aside : trace (aside p q) x ≡ trace q x
  unfolding trace
  trace_aside = refl

  pub tried_aside : tried (aside p q) x ≡ tried p x + tried q x
  unfolding tried
  tried_aside = rw (looked_reads x p)

  pub shown_aside : tried_shown (aside p q) x ≡ tried_shown q x
  unfolding tried_shown
  shown_aside = refl
