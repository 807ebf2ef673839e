-- Document 01: bytes that stand in a row. What stands at an offset of a list of bytes; a byte past the end counts as 0.
use Rattle.std.specs.Prelude.{ℕ, zero, suc, ◌+◌, List, [], ◌∷◌, ◌++◌}
use Rattle.le.specs.Le.{u8_at}

-- n bytes from an offset onward
abbrev pub bytes_at : List ℕ → ℕ → ℕ → List ℕ
bytes_at s at zero = []
bytes_at s at (suc n) = u8_at s at ∷ bytes_at s (at + 1) n

abbrev pub four_at : List ℕ → ℕ → List ℕ
four_at s at = u8_at s at ∷ u8_at s (at + 1) ∷ u8_at s (at + 2) ∷ u8_at s (at + 3) ∷ []

abbrev pub eight_at : List ℕ → ℕ → List ℕ
eight_at s at =
    u8_at s at ∷ u8_at s (at + 1) ∷ u8_at s (at + 2) ∷ u8_at s (at + 3) ∷ u8_at s (at + 4) ∷ u8_at s (at + 5) ∷ u8_at s (at + 6) ∷ u8_at s (at + 7) ∷ []

abbrev pub sixteen_at : List ℕ → ℕ → List ℕ
sixteen_at s at = eight_at s at ++ eight_at s (at + 8)
