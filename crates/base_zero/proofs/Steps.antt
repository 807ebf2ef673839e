-- One step of a loop over a list, each element to its image.
-- Assumes nothing.
use Prim.Native.Nat.{ℕ, ◌+◌, ◌≤◌, ◌<◌}
use native.Mathlib.Numerals.{add-one}
use mathlib.Core.Path.{◌≡◌}
use mathlib.Core.List.{List, ◌++◌, map, append_assoc, append-nil}
use lib.ListN.{length, get_or, take, drop, set, drop_of_length-le}
use lib.Seq.{drop-cons, take_all, take-suc-set}

-- the first i of l are done, the others follow
pub map_on : (f : ℕ → ℕ) (l ps : List ℕ) (i : ℕ) → i < length l → i < length ps
    → take (i + 1) (set l i (f (get_or ps i 0))) ++ map f (drop (i + 1) ps) ≡ take i l ++ map f (drop i ps)
map_on f l ps i h k = rw (add-one i, drop-cons ps i 0, take-suc-set l i (f (get_or ps i 0))) (simp append_assoc)

pub map_end : (f : ℕ → ℕ) (l ps : List ℕ) (i : ℕ) → length l ≤ i → length ps ≤ i → take i l ++ map f (drop i ps) ≡ l
map_end f l ps i h k = rw (drop_of_length-le ps k, take_all i l h) (append-nil l)
