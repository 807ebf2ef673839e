-- Document 01, "String": chunks of 64 bytes, at most 1,024; the first NUL ends it.
use Rattle.std.specs.Prelude.{ℕ, zero, suc, ◌+◌, ◌-◌, Bool, false, ◌||◌, List, [], ◌∷◌, ◌++◌, leb, ltb, eqb, length, take, drop, Result, Ok, Err}
use Rattle.base.specs.Choice.{pick}
use Rattle.prog.specs.Prog.{Prog, done, fetch, run}
use Rattle.window.specs.Window.{past_window}
use Rattle.utf8.specs.Utf8.{is_utf8}
use Rattle.utf8.specs.Points.{points}
use Rattle.refusal.specs.Refusal.{number_of}
use Rattle.refusal.specs.declared.Refusal.{Refusal}
use Rattle.text.specs.declared.Text.{Text as Str}
use Rattle.text.specs.declared.TextPart.{TextPart}
use Rattle.text.specs.declared.ReadString.{ReadString}

-- an accepted string is that part of the image, without its NUL, and gives its width
abbrev pub accepted_text : ℕ → ℕ → ℕ → Str
accepted_text offset len wide = record { number = 0; offset = offset; length = len; width = wide }

-- a refused one shows offset, length and width 0
abbrev pub refused_text : ℕ → Str
refused_text n = record { number = n; offset = 0; length = 0; width = 0 }

-- a string's answer as a report holds it
abbrev pub text_item : Result TextPart Refusal → Str
text_item (Ok p) = accepted_text p.offset p.length p.width
text_item (Err r) = refused_text (number_of r)

-- the same of its reader's answer, whose part is as long as the string
abbrev pub read_item : Result ReadString Refusal → Str
read_item (Ok s) = accepted_text s.offset (length s.part.now) s.width
read_item (Err r) = refused_text (number_of r)

-- the bytes of a string
abbrev pub bytes_of : List ℕ → Str → List ℕ
bytes_of x t = take t.length (drop t.offset x)

-- the part of the image that a string's offset and length name; empty where that does not lie in the image
abbrev pub part_of : List ℕ → Str → List ℕ
part_of x t = pick (leb (t.offset + t.length) (length x)) (bytes_of x t) []

unfoldable pub has_nul : List ℕ → Bool
has_nul [] = false
has_nul (b ∷ s) = eqb b 0 || has_nul s

-- the bytes before the first NUL
unfoldable pub before_nul : List ℕ → List ℕ
before_nul [] = []
before_nul (b ∷ s) = pick (eqb b 0) [] (b ∷ before_nul s)

-- UTF-8 is judged only on a string whose NUL was found. 21: not UTF-8. Document 02, wish 3: an accepted string's width is its code points.
unfoldable pub judged : ℕ → List ℕ → Str
judged offset s = pick (is_utf8 s) (accepted_text offset (length s) (points s)) (refused_text 21)

-- The chunks that are left, of which the next starts at address a; s is what the earlier ones held. Each chunk must be wholly readable.
-- 2: a chunk ended before a NUL was found. 20: 1,024 bytes, no NUL.
unfoldable pub chunks_p : ℕ → ℕ → ℕ → ℕ → List ℕ → Prog Str
chunks_p zero base offset a s = done (refused_text 20)
chunks_p (suc left) base offset a s =
    fetch base a 64 (refused_text 2) λ chunk.
    pick (has_nul chunk) (done (judged offset (s ++ before_nul chunk))) (chunks_p left base offset (a + 64) (s ++ chunk))

-- 3: pointer below base.
unfoldable pub text_p : ℕ → ℕ → Prog Str
text_p base pointer = pick (ltb pointer base) (done (refused_text 3)) (chunks_p 16 base (pointer - base) pointer [])

-- "Window check", for the exported call, which is given an image and one base. 1: base plus image length exceeds 2^32.
unfoldable pub string_call : ℕ → ℕ → List ℕ → Str
string_call base pointer x = pick (past_window base x) (refused_text 1) (run (text_p base pointer) x)

-- the three lent words afterwards: offset, length and width; a refusal changes none
abbrev pub part_after : Str → List ℕ → List ℕ
part_after t before = pick (eqb t.number 0) (t.offset ∷ t.length ∷ t.width ∷ []) before
