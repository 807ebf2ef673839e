-- Document 01, "Mangling": bits of a number, and bits gathered through a list of pins.
use Rattle.std.specs.Prelude.{ℕ, ◌+◌, ◌*◌, ◌/◌, ◌%◌, ◌^◌, Bool, List, [], ◌∷◌, ltb}
use Rattle.base.specs.Choice.{pick}

-- the input bits are 0 to 31; 255 stands for none
abbrev pub none : ℕ
none = 255

abbrev pub is_bit : ℕ → Bool
is_bit b = ltb b 32

-- bit i of x
unfoldable pub bit_at : ℕ → ℕ → ℕ
bit_at x i = x / 2 ^ i % 2

-- what entry e takes from the word x: its bit e, or low where e is none
unfoldable pub taken_bit : ℕ → ℕ → ℕ
taken_bit x e = pick (is_bit e) (bit_at x e) 0

-- the number whose bit p is what entry p takes
unfoldable pub gather : List ℕ → ℕ → ℕ
gather [] x = 0
gather (e ∷ es) x = taken_bit x e + 2 * gather es x
