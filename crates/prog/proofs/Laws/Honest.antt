-- Honest readers: where a read fails the answer is ended, so a cut changes nothing but to end.
use Rattle.std.specs.Prelude.{ℕ, ◌-◌, ◌<◌, ◌≡◌, refl, ◌⊎◌, Bool, List, take}
use Rattle.std.proofs.Common.{inl, inr, ⊎_elim}
use Rattle.base.specs.Laws.{clash}
use Rattle.base.specs.Choice.{pick}
use Rattle.prog.specs.Prog.{Answer, failed, got, Reads, Prog, done, read, unshown, ◌>>=◌, also, map_p, fetch, reads_of, aside, answer, run, Span, taken, trace, reach}
use Rattle.prog.proofs.Laws.Run.{run_done, run_map}
use Rattle.prog.proofs.Laws.Cut.{Cut, OrEnded, answer_cut, below, shown}
use Rattle.prog.proofs.Laws.Parts.{cut_done, cut_pick, cut_unshown, cut_mono, cut_bind, cut_also}

pub record Honest {A : Type 0} (E : A → Type 0) (p : Prog A) : Type 0 where
  pub cut : Cut E (OrEnded E) p p

-- ---- what an honest program gives

module _ {A : Type 0} {E : A → Type 0} {p : Prog A} where
  pub cut_honest : Honest E p → Cut E (OrEnded E) p p
  cut_honest h = h.cut

  -- what it gives on a cut image is ended, or is what the whole gives
  pub honest_kept : Honest E p → (x : List ℕ) (k : ℕ) → OrEnded E (run p (take k x)) (run p x)
  honest_kept h x k = shown h.cut x k

  pub honest_below : Honest E p → (x : List ℕ) (k : ℕ) → k < reach p x → E (run p (take k x))
  honest_below h x k l = below h.cut x k l

-- ---- the rules, by the form of the program

module _ {A : Type 0} {E : A → Type 0} where
  pub honest_done : {a : A} → Honest E (done a)
  honest_done = record { cut = cut_done (inr refl) }

  pub honest_read : {base a n : ℕ} {f : Answer → Prog A} → ((x : List ℕ) → E (run (f failed) x)) → ((bs : List ℕ) → Honest E (f (got bs))) → Honest E (read base a n f)
  unfolding run trace
  honest_read {base} {a} {n} {f} e h = record { cut = record { values = λ x k. (go x k _ (answer_cut x k base a n)).0; takes = λ x k. (go x k _ (answer_cut x k base a n)).1 } }
    where
      s : Span
      s = record { offset = a - base; size = n }

      go : (x : List ℕ) (k : ℕ) (w : Answer) → (w ≡ failed) ⊎ (w ≡ answer x base a n)
          → OrEnded E (run (f w) (take k x)) (run (f (answer x base a n)) x)
          × (E (run (f w) (take k x)) ⊎ (taken w s (trace (f w) (take k x)) ≡ taken (answer x base a n) s (trace (f (answer x base a n)) x)))
      go x k failed i = (inl (e (take k x)), inl (e (take k x)))
      go x k (got bs) (inl i) = clash (cc)
      go x k (got bs) (inr i) =
          rw (← i) ((h bs).cut.values x k, ⊎_elim inl (λ (t : trace (f (got bs)) (take k x) ≡ trace (f (got bs)) x). inr (rw t)) ((h bs).cut.takes x k))

  pub honest_fetch : {base a n : ℕ} {k : List ℕ → Prog A} (e : A) → E e → ((bs : List ℕ) → Honest E (k bs)) → Honest E (fetch base a n e k)
  honest_fetch e i h = honest_read (λ x. rw (run_done x e) i) h

  pub honest_pick : {p q : Prog A} (b : Bool) → Honest E p → Honest E q → Honest E (pick b p q)
  honest_pick b h i = record { cut = cut_pick b h.cut i.cut }

  -- nothing is asked of reads that are not shown
  pub honest_unshown : {p : Prog A} (r : Reads) → Honest E p → Honest E (unshown r p)
  honest_unshown r h = record { cut = cut_unshown r r h.cut }

  pub honest_aside : {B : Type 0} {p : Prog A} (r : Prog B) → Honest E p → Honest E (aside r p)
  honest_aside r h = honest_unshown (reads_of r) h

  -- a wider "ended"
  pub honest_mono : {F : A → Type 0} {p : Prog A} → ((a : A) → E a → F a) → Honest E p → Honest F p
  honest_mono i h = record { cut = cut_mono i (λ a b. ⊎_elim (λ e. inl (i a e)) inr) h.cut }

module _ {A B : Type 0} {E : A → Type 0} {F : B → Type 0} where
  -- an item that depends on another, and is ended where that one is
  pub cut_after : {f : A → Prog B} → ((a : A) → Honest F (f a)) → ((a : A) → E a → (x : List ℕ) → F (run (f a) x)) → (a b : A) → OrEnded E a b → Cut F (OrEnded F) (f a) (f b)
  cut_after h j a b (inl e) = record { values = λ x k. inl (j a e (take k x)); takes = λ x k. inl (j a e (take k x)) }
  cut_after h j a b (inr e) = rw e (h b).cut

  pub honest_bind : {p : Prog A} {f : A → Prog B} → Honest E p → ((a : A) → Honest F (f a)) → ((a : A) → E a → (x : List ℕ) → F (run (f a) x)) → Honest F (p >>= f)
  honest_bind h i j = record { cut = cut_bind h.cut (cut_after i j) j }

  pub honest_map : {p : Prog A} (f : A → B) → Honest E p → ((a : A) → E a → F (f a)) → Honest F (map_p f p)
  honest_map f h i = honest_bind h (λ a. honest_done) (λ a e x. rw (run_done x (f a)) (i a e))

module _ {A B : Type 0} {E : A → Type 0} {F : B → Type 0} where
  -- both answers are kept: ended where either is
  pub honest_also : {p : Prog A} {f : A → Prog B} → Honest E p → ((a : A) → Honest F (f a)) → Honest (λ (t : A × B). E t.0 ⊎ F t.1) (also p f)
  honest_also {f} h i = honest_bind h (λ a. honest_map (λ b. (a, b)) (i a) (λ b e. inr e)) (λ a e x. rw (run_map {B = A × B} x (λ b. (a, b)) (f a)) (inl e))

  -- two items, of which neither depends on the other
  pub cut_beside : {S : B → B → Type 0} {p : Prog A} {q : Prog B} → Honest E p → Cut F S q q
      → Cut (λ (t : A × B). E t.0 ⊎ F t.1) (λ (t u : A × B). OrEnded E t.0 u.0 × S t.1 u.1) (also p (λ a. q)) (also p (λ a. q))
  cut_beside h c = cut_also h.cut (λ a b r. cut_mono (λ v e. inr e) (λ v w e. e) c)

-- the forms that readers are made of, for `search`
pub ruleset honesty = (honest_done, honest_fetch, honest_pick, honest_aside, honest_bind, honest_map, honest_also)
