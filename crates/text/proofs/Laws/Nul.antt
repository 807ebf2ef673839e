-- The first NUL of a list of bytes, and the bytes before it.
use Rattle.std.specs.Prelude.{ℕ, zero, suc, ◌<◌, ◌≡◌, refl, true, false, List, [], ◌∷◌, ◌++◌, eqb, length, get_or, take}
use Rattle.std.proofs.Common.{arith, ap, eqb-true, eq-eqb}
use Rattle.base.specs.Laws.{cases, clash}
use Rattle.text.specs.Text.{has_nul, before_nul}

-- no NUL in either part, none in both together
pub clear_append : (s t : List ℕ) → has_nul s ≡ false → has_nul t ≡ false → has_nul (s ++ t) ≡ false
unfolding has_nul
clear_append [] t h i = i
clear_append (b ∷ s) t h i = cases (eqb b 0) (λ e. rw e (rw e at h)) (λ e. rw e (clear_append s t (rw e at h) i))

-- the bytes before the first NUL are a front part
pub before_front : (s : List ℕ) → before_nul s ≡ take (length (before_nul s)) s
unfolding before_nul
before_front [] = refl
before_front (b ∷ s) = cases (eqb b 0) (λ e. rw e) (λ e. rw e (ap (λ (t : List ℕ). b ∷ t) (before_front s)))

-- none of them is NUL
pub before_clear : (s : List ℕ) → has_nul (before_nul s) ≡ false
unfolding has_nul before_nul
before_clear [] = refl
before_clear (b ∷ s) = cases (eqb b 0) (λ e. rw e) (λ e. rw (e, has_nul, e) (before_clear s))

-- after them comes the NUL, if there is one
pub before_shorter : (s : List ℕ) → has_nul s ≡ true → length (before_nul s) < length s
unfolding has_nul before_nul
before_shorter [] h = clash (cc)
before_shorter (b ∷ s) h = cases (eqb b 0) (λ e. rw e (omega arith)) (λ e. let l = before_shorter s (rw e at h) in rw e (omega arith))

pub before_nul_is : (s : List ℕ) → get_or s (length (before_nul s)) 0 ≡ 0
unfolding before_nul
before_nul_is [] = refl
before_nul_is (b ∷ s) = cases (eqb b 0) (λ e. rw e (eqb-true b 0 e)) (λ e. rw e (before_nul_is s))

-- if there is none, they are all
pub before_all : (s : List ℕ) → has_nul s ≡ false → before_nul s ≡ s
unfolding has_nul before_nul
before_all [] h = refl
before_all (b ∷ s) h =
    cases (eqb b 0) (λ e. clash (cc (rw e at h)))
    (λ e. rw e (ap (λ (t : List ℕ). b ∷ t) (before_all s (rw e at h))))

-- n bytes, none of them NUL, and after them a NUL: these are the bytes before the first
pub before_first : (s : List ℕ) (n : ℕ) → n < length s → get_or s n 0 ≡ 0 → has_nul (take n s) ≡ false → take n s ≡ before_nul s
unfolding has_nul before_nul
before_first [] n l e h = absurd (omega arith)
before_first (b ∷ s) zero l e h = rw (eq-eqb b 0 e)
before_first (b ∷ s) (suc n) l e h =
    cases (eqb b 0) (λ i. clash (cc (rw i at h)))
    (λ i. rw i (ap (λ (t : List ℕ). b ∷ t) (before_first s n (omega arith) e (rw i at h))))
