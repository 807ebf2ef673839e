-- The string test accepts exactly UTF8-octets (RFC 3629, section 4), over every list of numbers.
use Rattle.std.specs.Prelude.{ℕ, ◌≡◌, refl, List, true, ◌↔◌}
use Rattle.std.proofs.Common.{◌∙◌}
use Rattle.utf8.specs.Utf8.{lacking, is_utf8}
use Rattle.utf8.specs.Rfc3629.{Utf8Octets, none, char}
use Rattle.utf8.proofs.Laws.Chars.{on_char, grammatical}

-- what the test accepts has the grammar
pub sound : (s : List ℕ) → is_utf8 s ≡ true → Utf8Octets s
sound s e = grammatical s e

-- what has the grammar is accepted
pub complete : {s : List ℕ} → Utf8Octets s → is_utf8 s ≡ true
unfolding is_utf8 lacking
complete none = refl
complete (char {s = s} c r) = on_char c s ∙ complete r

-- both in one
pub exact : (s : List ℕ) → (is_utf8 s ≡ true) ↔ Utf8Octets s
exact s = (sound s, complete)
