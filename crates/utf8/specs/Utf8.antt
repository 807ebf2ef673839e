-- UTF-8 as document 01, "String", has it: the class of each byte, the second-byte limits, and the string test.
use Rattle.std.specs.Prelude.{ℕ, zero, suc, ◌-◌, ◌<◌, ◌≡◌, List, [], ◌∷◌, Bool, true, false, cond, ◌&&◌, leb, eqb, get_or}

-- b lies in low..high
abbrev pub within : ℕ → ℕ → ℕ → Bool
within low high b = leb low b && leb b high

-- The class numbers. A byte that begins a character has the character's length for its class.
abbrev pub continuation : ℕ
continuation = 0

abbrev pub alone : ℕ
alone = 1

abbrev pub lead_of_two : ℕ
lead_of_two = 2

abbrev pub lead_of_three : ℕ
lead_of_three = 3

abbrev pub lead_of_four : ℕ
lead_of_four = 4

abbrev pub never : ℕ
never = 5

-- Document 01, "String": 00..7F alone, 80..BF continuation, C2..DF, E0..EF, F0..F4 leads of two, three, four, the rest never.
unfoldable pub class_of : ℕ → ℕ
class_of b =
    cond (within 0x00 0x7F b) alone
    (cond (within 0x80 0xBF b) continuation
    (cond (within 0xC2 0xDF b) lead_of_two
    (cond (within 0xE0 0xEF b) lead_of_three
    (cond (within 0xF0 0xF4 b) lead_of_four
    never))))

-- A table of the classes: its rule, at each of the 256 byte values.
pub record ClassTable (table : List ℕ) : Type 0 where
  pub rule : (b : ℕ) → b < 256 → get_or table b 0 ≡ class_of b

-- a byte of class k begins a character
abbrev pub begins : ℕ → Bool
begins k = within alone lead_of_four k

-- Document 01, "String": second-byte limits E0 A0..BF, ED 80..9F, F0 90..BF, F4 80..8F.
-- After any other byte p a continuation byte is 80..BF.
unfoldable pub low_after : ℕ → ℕ
low_after p = cond (eqb p 0xE0) 0xA0 (cond (eqb p 0xF0) 0x90 0x80)

unfoldable pub high_after : ℕ → ℕ
high_after p = cond (eqb p 0xED) 0x9F (cond (eqb p 0xF4) 0x8F 0xBF)

-- After the byte p its character still lacks n continuation bytes; then whole characters follow, to the end.
-- Where n is 0, p says nothing.
unfoldable pub lacking : ℕ → ℕ → List ℕ → Bool
lacking zero p [] = true
lacking (suc n) p [] = false
lacking zero p (a ∷ s) = begins (class_of a) && lacking (class_of a - 1) a s
lacking (suc n) p (b ∷ s) = within (low_after p) (high_after p) b && lacking n b s

-- The string test: whole characters from the start on.
unfoldable pub is_utf8 : List ℕ → Bool
is_utf8 s = lacking 0 0 s
