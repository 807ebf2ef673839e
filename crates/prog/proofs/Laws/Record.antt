-- A record of n bytes at an address: how its reader runs, where the code has the image from that address onward.
use Rattle.std.specs.Prelude.{ℕ, zero, suc, ◌-◌, ◌≤◌, ◌≡◌, refl, Bool, true, false, List, [], ◌∷◌, ltb, eqb, length, get_or, take, drop}
use Rattle.std.proofs.Common.{arith, not-suc-le-zero, le_of_suc-le-suc, ap, sym, ◌∙◌, length-take, get_or-take, length-take-le, take_all, le-ltb, ltb-true, ltb-false, eq-eqb, ne_eqb}
use Rattle.std.proofs.Math.ListN.{get_or-eq_default}
use Rattle.base.specs.Choice.{pick}
use Rattle.base.specs.Laws.{cases}
use Rattle.magic.specs.Magic.{starts_with}
use Rattle.refusal.specs.declared.Refusal.{Refusal}
use Rattle.refusal.specs.Refusal.{number_of}
use Rattle.refusal.specs.Laws.{number_not_0}
use Rattle.window.specs.Window.{can_read, on_from, pointer_number}
use Rattle.window.specs.Laws.{pointer_3, pointer_2, pointer_0}
use Rattle.prog.specs.Prog.{done, fetch, record_p, run}
use Rattle.prog.proofs.Laws.Run.{run_done, run_got, run_failed}

-- ---- of a list's first n bytes: a byte, the test of the length, the magic

pub front_byte : (n : ℕ) (s : List ℕ) (i : ℕ) → get_or (take n s) i 0 ≡ pick (ltb i n) (get_or s i 0) 0
front_byte n s i = go (ltb i n) refl
  where
    go : (b : Bool) → ltb i n ≡ b → get_or (take n s) i 0 ≡ pick (ltb i n) (get_or s i 0) 0
    go true e = rw e (get_or-take n s i 0 (ltb-true i n e))
    go false e = let l = ltb-false i n e in rw e (get_or-eq_default (take n s) 0 (rw length-take (omega arith)))

pub front_short : (n : ℕ) (s : List ℕ) → ltb (length (take n s)) n ≡ ltb (length s) n
front_short n s = go (ltb (length s) n) refl
  where
    go : (b : Bool) → ltb (length s) n ≡ b → ltb (length (take n s)) n ≡ ltb (length s) n
    go true e = let l = ltb-true (length s) n e in ap (λ (t : List ℕ). ltb (length t) n) (take_all n s (omega arith))
    go false e = let l = ltb-false (length s) n e in rw (e, length-take-le n s l) (le-ltb n n (omega arith))

pub front_starts : (n : ℕ) (s m : List ℕ) → length m ≤ n → starts_with (take n s) m ≡ starts_with s m
unfolding starts_with
front_starts n s [] h = refl
front_starts zero s (b ∷ m) h = absurd (not-suc-le-zero h)
front_starts (suc n) [] (b ∷ m) h = refl
front_starts (suc n) (a ∷ s) (b ∷ m) h = rw (front_starts n s m (le_of_suc-le-suc h))

-- ---- a record whose definition is the same of its first n bytes as of all from its address on

-- at an address
module _ {A : Type 0} (x : List ℕ) (base a n : ℕ) (ended : A) (rec_of : List ℕ → A) where
  pub record_ended : can_read x base a n ≡ false → run (fetch base a n ended λ s. done (rec_of s)) x ≡ ended
  record_ended e = run_failed x base a n ended _ e

  pub record_onward : can_read x base a n ≡ true → ((s : List ℕ) → rec_of (take n s) ≡ rec_of s) → run (fetch base a n ended λ s. done (rec_of s)) x ≡ rec_of (on_from x base a)
  unfolding on_from
  record_onward e front = run_got x base a n ended _ e ∙ run_done x (rec_of (take n (drop (a - base) x))) ∙ front (drop (a - base) x)

-- at a pointer, whose number says how it is refused
module _ {A : Type 0} (x : List ℕ) (base pointer n : ℕ) (refused : ℕ → A) (rec_of : List ℕ → A) where
  abbrev number : ℕ
  number = pointer_number x base pointer n

  by_number : ((s : List ℕ) → rec_of (take n s) ≡ rec_of s) → run (record_p base pointer n refused rec_of) x ≡ pick (eqb number 0) (rec_of (on_from x base pointer)) (refused number)
  by_number front =
      cases (ltb pointer base)
      (λ e. rw (e, pointer_3 x base pointer n (ltb-true pointer base e)) (run_done x (refused 3)))
      (λ e.
      let from = ltb-false pointer base e in
      cases (can_read x base pointer n)
      (λ f. rw (e, pointer_0 x base pointer n from f) (record_onward x base pointer n (refused 2) rec_of f front))
      (λ f. rw (e, pointer_2 x base pointer n from f) (record_ended x base pointer n (refused 2) rec_of f)))

  -- as the code has it: k is the pointer's number, s the image from there on, r the reply
  module _ (front : (s : List ℕ) → rec_of (take n s) ≡ rec_of s) (k : ℕ) (e : k ≡ number) (r : A) where
    pub pointer_refused : (k ≡ 0 → ⊥) → r ≡ refused k → r ≡ run (record_p base pointer n refused rec_of) x
    pointer_refused h i = i ∙ sym (by_number front ∙ rw (← e, ne_eqb k 0 h))

    pub pointer_read : k ≡ 0 → (s : List ℕ) → s ≡ on_from x base pointer → r ≡ rec_of s → r ≡ run (record_p base pointer n refused rec_of) x
    pointer_read h s f i = i ∙ rw f (sym (by_number front ∙ rw (← e, eq-eqb k 0 h)))

  -- and where the answer is a Result: refused by r, or read of the image from the pointer on
  module _ (front : (s : List ℕ) → rec_of (take n s) ≡ rec_of s) where
    pub pointer_refused_by : (r : Refusal) → number_of r ≡ number → refused (number_of r) ≡ run (record_p base pointer n refused rec_of) x
    pointer_refused_by r e = pointer_refused front (number_of r) e (refused (number_of r)) (number_not_0 r) refl

    pub pointer_read_from : 0 ≡ number → rec_of (on_from x base pointer) ≡ run (record_p base pointer n refused rec_of) x
    pointer_read_from e = pointer_read front 0 e (rec_of (on_from x base pointer)) refl (on_from x base pointer) refl refl
