-- Document 01: numbers are little-endian, offsets are bytes. What stands at an offset of a list of bytes; a byte past the end counts as 0,
-- so that each of these is total. The records' definitions test the length first.
use Rattle.std.specs.Prelude.{ℕ, ◌+◌, ◌*◌, Bool, not, List, eqb, get_or}

abbrev pub u8_at : List ℕ → ℕ → ℕ
u8_at s at = get_or s at 0

abbrev pub u16_at : List ℕ → ℕ → ℕ
u16_at s at = u8_at s at + u8_at s (at + 1) * 256

abbrev pub u32_at : List ℕ → ℕ → ℕ
u32_at s at = u8_at s at + u8_at s (at + 1) * 256 + u8_at s (at + 2) * 65536 + u8_at s (at + 3) * 16777216

-- a flag is true if nonzero
abbrev pub flag_at : List ℕ → ℕ → Bool
flag_at s at = not (eqb (u8_at s at) 0)
