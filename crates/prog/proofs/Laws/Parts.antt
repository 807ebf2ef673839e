-- Programs put together, and cut short: the relation `Cut` of a whole from that of its parts.
use Rattle.std.specs.Prelude.{ℕ, ◌≡◌, ◌⊎◌, Bool, true, false, List, take}
use Rattle.std.proofs.Math.Path.{refl}
use Rattle.std.proofs.Common.{inl, ⊎_elim}
use Rattle.std.proofs.Math.Logic.{inr}
use Rattle.base.specs.Choice.{pick}
use Rattle.prog.specs.Prog.{Reads, Prog, done, unshown, ◌>>=◌, also, map_p, reads_of, aside, run, trace}
use Rattle.prog.proofs.Laws.Run.{run_done, run_bind, trace_bind, run_also, trace_also}
use Rattle.prog.proofs.Laws.Cut.{Cut}

module _ {A : Type 0} {E : A → Type 0} {R : A → A → Type 0} where
  pub cut_done : {a b : A} → R a b → Cut E R (done a) (done b)
  unfolding run trace
  cut_done r = record { values = λ x k. r; takes = λ x k. inr refl }

  pub cut_pick : {p q r s : Prog A} (b : Bool) → Cut E R p r → Cut E R q s → Cut E R (pick b p q) (pick b r s)
  cut_pick true c d = c
  cut_pick false c d = d

  -- reads that are not shown make no difference, whatever they are
  pub cut_unshown : {p q : Prog A} (r s : Reads) → Cut E R p q → Cut E R (unshown r p) (unshown s q)
  unfolding run trace
  cut_unshown r s c = record { values = c.values; takes = c.takes }

  pub cut_aside : {B C : Type 0} {p q : Prog A} (r : Prog B) (s : Prog C) → Cut E R p q → Cut E R (aside r p) (aside s q)
  cut_aside r s c = cut_unshown (reads_of r) (reads_of s) c

  -- where every answer is ended
  pub cut_known : {p q : Prog A} → ((a : A) → E a) → ((a b : A) → R a b) → Cut E R p q
  cut_known e r = record { values = λ x k. r _ _; takes = λ x k. inl (e _) }

  -- a wider "ended", a wider relation
  pub cut_mono : {F : A → Type 0} {S : A → A → Type 0} {p q : Prog A} → ((a : A) → E a → F a) → ((a b : A) → R a b → S a b) → Cut E R p q → Cut F S p q
  cut_mono e r c = record { values = λ x k. r _ _ (c.values x k); takes = λ x k. ⊎_elim (λ h. inl (e _ h)) inr (c.takes x k) }

module _ {A B : Type 0} {E : A → Type 0} {R : A → A → Type 0} {F : B → Type 0} {S : B → B → Type 0} {p q : Prog A} where
  -- ended must survive what follows
  pub cut_bind : {f g : A → Prog B} → Cut E R p q → ((a b : A) → R a b → Cut F S (f a) (g b)) → ((a : A) → E a → (x : List ℕ) → F (run (f a) x)) → Cut F S (p >>= f) (q >>= g)
  cut_bind {f} {g} c d j =
      record {
        values = λ x k. rw (run_bind (take k x) p f, run_bind x q g) ((d _ _ (c.values x k)).values x k);
        takes = λ x k. rw (run_bind (take k x) p f, trace_bind (take k x) p f, trace_bind x q g)
            (⊎_elim (λ (e : E (run p (take k x))). inl (j _ e (take k x)))
            (λ (e : trace p (take k x) ≡ trace q x).
            ⊎_elim inl (λ (i : trace (f (run p (take k x))) (take k x) ≡ trace (g (run q x)) x). inr (rw (e, i))) ((d _ _ (c.values x k)).takes x k))
            (c.takes x k));
      }

  pub cut_map : (f g : A → B) → Cut E R p q → ((a : A) → E a → F (f a)) → ((a b : A) → R a b → S (f a) (g b)) → Cut F S (map_p f p) (map_p g q)
  cut_map f g c e r = cut_bind {f = λ a. done (f a)} {g = λ b. done (g b)} c (λ a b h. cut_done (r a b h)) (λ a h x. rw (run_done x (f a)) (e a h))

  -- both answers are kept, so ended survives by itself; what follows may count on the first answer's being ended
  pub cut_also : {f g : A → Prog B} → Cut E R p q → ((a b : A) → R a b → Cut (λ v. E a ⊎ F v) S (f a) (g b))
      → Cut (λ (t : A × B). E t.0 ⊎ F t.1) (λ (t u : A × B). R t.0 u.0 × S t.1 u.1) (also p f) (also q g)
  cut_also {f} {g} c d =
      record {
        values = λ x k. rw (run_also (take k x) p f, run_also x q g) (c.values x k, (d _ _ (c.values x k)).values x k);
        takes = λ x k. rw (run_also (take k x) p f, trace_also (take k x) p f, trace_also x q g)
            (⊎_elim (λ (e : E (run p (take k x))). inl (inl e))
            (λ (e : trace p (take k x) ≡ trace q x).
            ⊎_elim inl (λ (i : trace (f (run p (take k x))) (take k x) ≡ trace (g (run q x)) x). inr (rw (e, i))) ((d _ _ (c.values x k)).takes x k))
            (c.takes x k));
      }
