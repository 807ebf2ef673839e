-- Strings as the code goes about them: one that is ASCII and ends in its first chunk is told at once.
use Rattle.std.specs.Prelude.{ℕ, ◌-◌, ◌≤◌, ◌<◌, ◌≡◌, ◌||◌, List, [], ◌∷◌, ltb, eqb}
use Rattle.base.specs.Choice.{pick}
use Rattle.prog.specs.Prog.{run}
use Rattle.text.specs.Text.{accepted_text, text_p}

-- the bytes before the first that is NUL or no ASCII
unfoldable pub ascii_front : List ℕ → List ℕ
ascii_front [] = []
ascii_front (b ∷ s) = pick (eqb b 0 || ltb 127 b) [] (b ∷ ascii_front s)

-- n, if below 64, is the length and the width of the string at the pointer, which is accepted
pub record ShortAscii (x : List ℕ) (base pointer n : ℕ) : Type 0 where
  pub from : n < 64 → base ≤ pointer
  pub told : n < 64 → accepted_text (pointer - base) n n ≡ run (text_p base pointer) x
