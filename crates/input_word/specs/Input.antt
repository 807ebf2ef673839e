-- Document 01, "Mangling": a logical address with its levels becomes an input word.
use Rattle.std.specs.Prelude.{ℕ, ◌^◌, Bool, List, [], ◌∷◌}
use Rattle.std.specs.Int.Bits.{bit_or}
use Rattle.base.specs.Choice.{pick}
use Rattle.types.specs.Types.{is_high}
use Rattle.types.specs.declared.SdrrRomType.{SdrrRomType}
use Rattle.types.specs.declared.SdrrCsSet.{SdrrCsSet}
use Rattle.demangle.specs.Bits.{is_bit}
use Rattle.rom_rules.specs.Rules.{drives}

-- CS1, CS2, CS3, X1, X2; a level not given is low
abbrev pub levels : SdrrCsSet → List Bool
levels set = is_high set.cs1 ∷ is_high set.cs2 ∷ is_high set.cs3 ∷ is_high set.x1 ∷ is_high set.x2 ∷ []

-- input bit b alone, where b is one
abbrev pub bit_of : ℕ → ℕ
bit_of b = pick (is_bit b) (2 ^ b) 0

-- each high level raises the input bit that it drives
unfoldable pub raised : List ℕ → List Bool → ℕ → ℕ
raised [] ls w = w
raised (d ∷ ds) [] w = w
raised (d ∷ ds) (l ∷ ls) w = raised ds ls (bit_or w (pick l (bit_of d) 0))

unfoldable pub input_word : SdrrRomType → ℕ → List Bool → ℕ → ℕ
input_word type count ls address = raised (drives type count) ls address
