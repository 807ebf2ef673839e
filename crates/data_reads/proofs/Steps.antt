-- Bytes put in one by one.
-- Assumes nothing.
use Prim.Native.Nat.{ℕ, ◌+◌}
use native.Mathlib.Omega.{arith}
use mathlib.Core.Path.{◌≡◌, ◌∙◌}
use mathlib.Core.List.{List, [], append-nil}
use lib.ListN.{length, drop, drop_of_length-le}
use lib.Seq.{paste}
use Rattle.std.proofs.lemmas.List.Edits.{paste_none, paste_more, paste_all}

pub all_in : (l bs : List ℕ) (i : ℕ) → length l ≡ length bs → i ≡ length bs → paste l 0 bs i ≡ bs
all_in l bs i e h =
    let d : drop (0 + i) l ≡ [] = drop_of_length-le l (omega arith) in
    paste_all l 0 bs i h ∙ rw (d, append-nil bs)

pub ruleset copied = (paste_none, paste_more, all_in)
