-- The ASCII front of a list of bytes: it is UTF-8, each byte a character, and where a NUL comes after it, it is what comes before the first NUL.
-- Assumes nothing.
use Rattle.std.specs.Prelude.{ℕ, suc, ◌<◌, ◌≡◌, refl, true, false, ◌||◌, List, [], ◌∷◌, ltb, eqb, length, get_or}
use Rattle.std.proofs.Common.{arith, ap, ◌∙◌, ltb-false}
use Rattle.std.proofs.lemmas.Bool.{eqb-false}
use Rattle.base.specs.Laws.{cases, both_false}
use Rattle.utf8.specs.Rfc3629.{x00_7f, Utf8Char, one}
use Rattle.utf8.specs.Utf8.{lacking, is_utf8}
use Rattle.utf8.specs.Points.{points}
use Rattle.utf8.proofs.Laws.Chars.{on_char}
use Rattle.utf8.proofs.Laws.Points.{points_empty, points_char}
use Rattle.text.specs.Text.{before_nul}
use Rattle.strings.specs.Code.{ascii_front}

ascii_char : (b : ℕ) → (eqb b 0 || ltb 127 b) ≡ false → Utf8Char (b ∷ [])
ascii_char b e = one (x00_7f (record { least = omega arith; most = ltb-false 127 b (both_false (eqb b 0) (ltb 127 b) e).1 }))

pub ascii_utf8 : (s : List ℕ) → is_utf8 (ascii_front s) ≡ true
unfolding ascii_front is_utf8 lacking
ascii_utf8 [] = refl
ascii_utf8 (b ∷ s) =
    cases (eqb b 0 || ltb 127 b) (λ e. rw e) (λ e. rw e (on_char (ascii_char b e) (ascii_front s) ∙ ascii_utf8 s))

pub ascii_points : (s : List ℕ) → points (ascii_front s) ≡ length (ascii_front s)
unfolding ascii_front
ascii_points [] = points_empty
ascii_points (b ∷ s) =
    cases (eqb b 0 || ltb 127 b) (λ e. rw e points_empty) (λ e. rw e (points_char (ascii_char b e) (ascii_front s) ∙ ap suc (ascii_points s)))

pub ascii_before : (s : List ℕ) → length (ascii_front s) < length s → get_or s (length (ascii_front s)) 0 ≡ 0 → before_nul s ≡ ascii_front s
unfolding ascii_front before_nul
ascii_before [] h e = refl
ascii_before (b ∷ s) h e =
    cases (eqb b 0) (λ f. rw f)
    (λ f.
    cases (ltb 127 b) (λ g. absurd (eqb-false b 0 f (rw (f, g) at e)))
    (λ g. rw (f, g) (ap (λ (t : List ℕ). b ∷ t) (ascii_before s (let l = rw (f, g) at h in omega arith) (rw (f, g) at e)))))
