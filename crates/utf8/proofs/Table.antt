-- A table's rule, proved once: one computed test over all entries gives the rule at each. It holds of any table and rule.
use mathlib.Core.Path.{◌≡◌, ◌∙◌, ap, sym}
use mathlib.Core.Bool.{Bool, true, false, ◌&&◌}
use mathlib.Core.List.{List, [], ◌∷◌}
use Prim.Native.Nat.{ℕ, zero, suc, ◌+◌, ◌<◌}
use native.Mathlib.Nat.{add-zero, zero-add, add-suc, suc-add, le_of_suc-le-suc, not-suc-le-zero}
use lib.Dec.{T, eqb, eqb→eq}
use lib.ListN.{length, get_or}

-- the entries, from place i on, are what the rule says of their places
abbrev pub obeys : (ℕ → ℕ) → ℕ → List ℕ → Bool
obeys rule i [] = true
obeys rule i (x ∷ xs) = eqb x (rule i) && obeys rule (suc i) xs

first : (p q : Bool) → T (p && q) → T p
first true q t = tt
first false q t = t

second : (p q : Bool) → T (p && q) → T q
second true q t = t
second false q t = absurd t

obeys_from : (rule : ℕ → ℕ) (xs : List ℕ) (i : ℕ) → T (obeys rule i xs) → (k : ℕ) → k < length xs → get_or xs k 0 ≡ rule (i + k)
obeys_from rule [] i t k h = absurd (not-suc-le-zero h)
obeys_from rule (x ∷ xs) i t zero h = eqb→eq x (rule i) (first (eqb x (rule i)) (obeys rule (suc i) xs) t) ∙ ap rule (sym (add-zero i))
obeys_from rule (x ∷ xs) i t (suc k) h =
    obeys_from rule xs (suc i) (second (eqb x (rule i)) (obeys rule (suc i) xs) t) k (le_of_suc-le-suc h) ∙ ap rule (suc-add i k ∙ sym (add-suc i k))

pub at_place : (rule : ℕ → ℕ) (xs : List ℕ) → T (obeys rule 0 xs) → (k : ℕ) → k < length xs → get_or xs k 0 ≡ rule k
at_place rule xs t k h = obeys_from rule xs 0 t k h ∙ ap rule (zero-add k)
