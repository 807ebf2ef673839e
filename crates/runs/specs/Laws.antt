-- The runs of four, eight and sixteen bytes.
-- Assumes nothing.
use Rattle.std.specs.Prelude.{ℕ, ◌≡◌, List}
use Rattle.std.proofs.Common.{add_assoc}
use Rattle.runs.specs.Runs.{bytes_at, four_at, eight_at, sixteen_at}

module _ (s : List ℕ) (at : ℕ) where
  pub four_is : bytes_at s at 4 ≡ four_at s at
  four_is = simp add_assoc

  pub eight_is : bytes_at s at 8 ≡ eight_at s at
  eight_is = simp add_assoc

  pub sixteen_is : bytes_at s at 16 ≡ sixteen_at s at
  sixteen_is = simp add_assoc
