-- The input bits that the levels raise, as masks.
-- Assumes nothing.
use Rattle.std.specs.Prelude.{ℕ, ◌≡◌, refl, Bool, List, [], ◌∷◌, map}
use Rattle.std.specs.Int.Bits.{bit_or}
use Rattle.base.specs.Choice.{pick}
use Rattle.input_word.specs.Input.{bit_of, raised}

-- each high level raises its mask
unfoldable pub raised_by : List ℕ → List Bool → ℕ → ℕ
raised_by [] ls w = w
raised_by (m ∷ ms) [] w = w
raised_by (m ∷ ms) (l ∷ ls) w = raised_by ms ls (bit_or w (pick l m 0))

-- the masks of input bits raise what the bits do
pub masks_raise : (ds : List ℕ) (ls : List Bool) (w : ℕ) → raised_by (map bit_of ds) ls w ≡ raised ds ls w
unfolding raised_by raised
masks_raise [] ls w = refl
masks_raise (d ∷ ds) [] w = refl
masks_raise (d ∷ ds) (l ∷ ls) w = masks_raise ds ls (bit_or w (pick l (bit_of d) 0))
