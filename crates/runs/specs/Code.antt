-- Runs of bytes as the code makes them: the first bytes of the part from an offset onward, one after the other.
-- Assumes nothing.
use Rattle.std.specs.Prelude.{ℕ, zero, suc, ◌≡◌, List, [], ◌∷◌, ◌++◌, drop}
use Rattle.std.proofs.Math.Nat.{add-zero}
use Rattle.std.proofs.Common.{add_assoc, get_or-drop}
use Rattle.le.specs.Le.{u8_at}
use Rattle.runs.specs.Runs.{four_at, eight_at, sixteen_at}

unfoldable pub first_bytes : List ℕ → ℕ → List ℕ
first_bytes s zero = []
first_bytes s (suc n) = first_bytes s n ++ (u8_at s n ∷ [])

module _ (s : List ℕ) (at : ℕ) where
  pub first_four : first_bytes (drop at s) 4 ≡ four_at s at
  unfolding first_bytes
  first_four = simp (get_or-drop, add-zero)

  pub first_eight : first_bytes (drop at s) 8 ≡ eight_at s at
  unfolding first_bytes
  first_eight = simp (get_or-drop, add-zero)

  pub first_sixteen : first_bytes (drop at s) 16 ≡ sixteen_at s at
  unfolding first_bytes
  first_sixteen = simp (get_or-drop, add-zero, add_assoc)
