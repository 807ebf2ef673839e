-- The string test at a place of a slice, in the code's terms: what its byte must be, and what is left for the next place.
use Rattle.std.specs.Prelude.{ℕ, zero, suc, ◌+◌, ◌-◌, ◌≤◌, ◌<◌, ◌≡◌, ◌≢◌, refl, List, [], Bool, true, false, ◌&&◌, Option, Some, None, length, get_or, drop, eqb}
use Rattle.std.proofs.Common.{arith, add-one, sub-one, zero-add, add-zero, drop-cons, drop_of_length-le}
use lib.Dec.{eqb-suc-zero}
use Rattle.base.specs.Choice.{pick}
use Rattle.utf8.specs.Utf8.{within, class_of, begins, low_after, high_after, lacking, is_utf8}
use Rattle.utf8.specs.Points.{points_after, points, points_of}

-- so many code points were counted, and n continuation bytes are lacking after p: the answer, by the bytes s that are left
unfoldable pub answer_after : ℕ → ℕ → ℕ → List ℕ → Option ℕ
answer_after counted n p s = pick (lacking n p s) (Some (counted + points_after n s)) None

-- at the start
pub answer_start : (s : List ℕ) → answer_after 0 0 0 s ≡ points_of s
unfolding answer_after points_of points is_utf8
answer_start s = rw zero-add

-- at the end
pub answer_end : (counted n p : ℕ) (s : List ℕ) (i : ℕ) → length s ≤ i → answer_after counted n p (drop i s) ≡ pick (eqb n 0) (Some counted) None
unfolding answer_after lacking points_after
answer_end counted n p s i h = rw (drop_of_length-le s h) (go n)
  where
    go : (n : ℕ) → pick (lacking n p []) (Some (counted + 0)) None ≡ pick (eqb n 0) (Some counted) None
    go zero = rw add-zero
    go (suc n) = rw eqb-suc-zero

-- both tests passed is the one passed and then the other
also : {A : Type 0} (a b : Bool) (x y : A) → pick (a && b) x y ≡ pick a (pick b x y) y
also true b x y = refl
also false b x y = refl

-- where a character begins, and within one
module _ (counted p : ℕ) (s : List ℕ) (i : ℕ) (inside : i < length s) where
  pub answer_lead : answer_after counted 0 p (drop i s)
      ≡ pick (begins (class_of (get_or s i 0))) (answer_after (counted + 1) (class_of (get_or s i 0) - 1) (get_or s i 0) (drop (i + 1) s)) None
  unfolding answer_after lacking points_after
  answer_lead =
      let b = get_or s i 0 in
      let more = points_after (class_of b - 1) (drop (suc i) s) in
      let e : counted + suc more ≡ counted + 1 + more = omega arith in
      let j : i + 1 ≡ suc i = add-one i in
      rw (drop-cons s i 0 inside, e, j) (also (begins (class_of b)) _ _ _)

  within_one : (n : ℕ) → answer_after counted (suc n) p (drop i s)
      ≡ pick (within (low_after p) (high_after p) (get_or s i 0)) (answer_after counted n (get_or s i 0) (drop (i + 1) s)) None
  unfolding answer_after lacking points_after
  within_one n = rw (drop-cons s i 0 inside, add-one) (also (within (low_after p) (high_after p) (get_or s i 0)) _ _ _)

  pub answer_tail : (n : ℕ) → n ≢ 0 → answer_after counted n p (drop i s)
      ≡ pick (within (low_after p) (high_after p) (get_or s i 0)) (answer_after counted (n - 1) (get_or s i 0) (drop (i + 1) s)) None
  answer_tail zero e = absurd (e refl)
  answer_tail (suc n) e = rw sub-one (within_one n)

pub ruleset answers = (answer_start, answer_end, answer_lead, answer_tail)
