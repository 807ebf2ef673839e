-- RFC 3629, section 4, "Syntax of UTF-8 Byte Sequences": its grammar, rule by rule, under its names.
use Rattle.std.specs.Prelude.{ℕ, ◌≤◌, List, [], ◌∷◌, ◌++◌}

-- %xLOW-HIGH: one octet from low to high
pub record Octet (low high b : ℕ) : Type 0 where
  pub least : low ≤ b
  pub most : b ≤ high

-- UTF8-tail = %x80-BF
abbrev pub Utf8Tail : ℕ → Type 0
Utf8Tail b = Octet 0x80 0xBF b

-- UTF8-1 = %x00-7F
pub data Utf8One : List ℕ → Type 0 where
  x00_7f : {a : ℕ} → Octet 0x00 0x7F a → Utf8One (a ∷ [])

-- UTF8-2 = %xC2-DF UTF8-tail
pub data Utf8Two : List ℕ → Type 0 where
  xc2_df : {a b : ℕ} → Octet 0xC2 0xDF a → Utf8Tail b → Utf8Two (a ∷ b ∷ [])

-- UTF8-3 = %xE0 %xA0-BF UTF8-tail / %xE1-EC 2( UTF8-tail ) / %xED %x80-9F UTF8-tail / %xEE-EF 2( UTF8-tail )
pub data Utf8Three : List ℕ → Type 0 where
  xe0 : {b c : ℕ} → Octet 0xA0 0xBF b → Utf8Tail c → Utf8Three (0xE0 ∷ b ∷ c ∷ [])
  xe1_ec : {a b c : ℕ} → Octet 0xE1 0xEC a → Utf8Tail b → Utf8Tail c → Utf8Three (a ∷ b ∷ c ∷ [])
  xed : {b c : ℕ} → Octet 0x80 0x9F b → Utf8Tail c → Utf8Three (0xED ∷ b ∷ c ∷ [])
  xee_ef : {a b c : ℕ} → Octet 0xEE 0xEF a → Utf8Tail b → Utf8Tail c → Utf8Three (a ∷ b ∷ c ∷ [])

-- UTF8-4 = %xF0 %x90-BF 2( UTF8-tail ) / %xF1-F3 3( UTF8-tail ) / %xF4 %x80-8F 2( UTF8-tail )
pub data Utf8Four : List ℕ → Type 0 where
  xf0 : {b c d : ℕ} → Octet 0x90 0xBF b → Utf8Tail c → Utf8Tail d → Utf8Four (0xF0 ∷ b ∷ c ∷ d ∷ [])
  xf1_f3 : {a b c d : ℕ} → Octet 0xF1 0xF3 a → Utf8Tail b → Utf8Tail c → Utf8Tail d → Utf8Four (a ∷ b ∷ c ∷ d ∷ [])
  xf4 : {b c d : ℕ} → Octet 0x80 0x8F b → Utf8Tail c → Utf8Tail d → Utf8Four (0xF4 ∷ b ∷ c ∷ d ∷ [])

-- UTF8-char = UTF8-1 / UTF8-2 / UTF8-3 / UTF8-4
pub data Utf8Char : List ℕ → Type 0 where
  one : {c : List ℕ} → Utf8One c → Utf8Char c
  two : {c : List ℕ} → Utf8Two c → Utf8Char c
  three : {c : List ℕ} → Utf8Three c → Utf8Char c
  four : {c : List ℕ} → Utf8Four c → Utf8Char c

-- UTF8-octets = *( UTF8-char )
pub data Utf8Octets : List ℕ → Type 0 where
  none : Utf8Octets []
  char : {c s : List ℕ} → Utf8Char c → Utf8Octets s → Utf8Octets (c ++ s)
