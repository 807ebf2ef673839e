-- Document 02, wish 3: how wide a string is, in code points.
use Rattle.std.specs.Prelude.{ℕ, zero, suc, ◌-◌, List, [], ◌∷◌, Option, Some, None}
use Rattle.base.specs.Choice.{pick}
use Rattle.utf8.specs.Utf8.{class_of, is_utf8}
use Rattle.utf8.specs.Rfc3629.{Utf8Octets, none, char}

-- The code points of UTF8-octets, by RFC 3629's grammar: none in the empty string, and each UTF8-char is one more.
unfoldable pub chars_in : {s : List ℕ} → Utf8Octets s → ℕ
chars_in none = 0
chars_in (char c r) = suc (chars_in r)

-- The same of a list of bytes, as far as it goes: n bytes more belong to the character before, then characters follow, each as long as
-- its first byte's class says. Laws.Points has it that on UTF8-octets this is `chars_in`.
unfoldable pub points_after : ℕ → List ℕ → ℕ
points_after n [] = 0
points_after zero (a ∷ s) = suc (points_after (class_of a - 1) s)
points_after (suc n) (b ∷ s) = points_after n s

unfoldable pub points : List ℕ → ℕ
points s = points_after 0 s

-- the code points of a string that is UTF-8, and nothing of any other
unfoldable pub points_of : List ℕ → Option ℕ
points_of s = pick (is_utf8 s) (Some (points s)) None
