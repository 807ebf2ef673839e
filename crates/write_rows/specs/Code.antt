-- The rows as the second pass writes them: from the records' own bytes, each name read as its row comes.
-- Assumes nothing.
use Rattle.std.specs.Prelude.{ℕ, ◌*◌, ◌≡◌, refl, Bool, List, [], ◌∷◌, ◌++◌, length}
use Rattle.std.proofs.Common.{sym, ap, append_assoc}
use Rattle.le.specs.Le.{u8_at, u32_at}
use Rattle.prog.specs.Prog.{run}
use Rattle.rows.specs.LentRows.{rom_row_length}
use Rattle.rows.specs.Laws.{one_row_more}
use Rattle.text.specs.declared.Text.{Text}
use Rattle.walk.specs.Walk.{Rom, rom_of}
use Rattle.walk.specs.Rows.{set_row, rom_front, name_words, rom_row, rom_rows_of}
use Rattle.walk.specs.Names.{name_p, names_p}
use Rattle.walk.proofs.Laws.Rows.{rom_row_length_is}
use Rattle.walk.proofs.Laws.NameWords.{names_cons}
use Rattle.set_header.specs.SetHeader.{config_of, overrides_of}
use Rattle.walk.specs.Code.Passes.{set_of}

-- the words of a set's row and of a ROM's, from the record's own bytes
unfoldable pub set_row_words : ℕ → List ℕ → List ℕ
set_row_words first s =
    u32_at s 0 ∷ u32_at s 4 ∷ first ∷ u8_at s 12 ∷ u8_at s 13 ∷ u8_at s 14 ∷ config_of s ∷ overrides_of s ∷ []

unfoldable pub rom_row_words : List ℕ → Text → List ℕ
rom_row_words s t = u8_at s 0 ∷ u8_at s 1 ∷ u8_at s 2 ∷ u8_at s 3 ∷ t.offset ∷ t.length ∷ t.number ∷ t.width ∷ []

pub set_words : (first : ℕ) (s : List ℕ) (roms : List Rom) → set_row first (set_of s roms) ≡ set_row_words first s
unfolding set_row set_of set_row_words
set_words first s roms = refl

pub rom_words : (base : ℕ) (filenames : Bool) (s : List ℕ) (t : Text) → rom_row (rom_of base filenames s) t ≡ rom_row_words s t
unfolding rom_row rom_front name_words rom_of rom_row_words
rom_words base filenames s t = refl

-- ---- ROM rows, each with its name

unfoldable pub named_row : List ℕ → ℕ → Rom → List ℕ
named_row x base r = rom_row r (run (name_p base r.name) x)

unfoldable pub named_rows : List ℕ → ℕ → List Rom → List ℕ
named_rows x base [] = []
named_rows x base (r ∷ rs) = named_row x base r ++ named_rows x base rs

pub rows_named : (x : List ℕ) (base : ℕ) (rs : List Rom) → rom_rows_of rs (run (names_p base rs) x) ≡ named_rows x base rs
unfolding rom_rows_of named_rows named_row
rows_named x base [] = refl
rows_named x base (r ∷ rs) = rw (names_cons x base r rs) (ap (λ (l : List ℕ). rom_row r (run (name_p base r.name) x) ++ l) (rows_named x base rs))

pub named_append : (x : List ℕ) (base : ℕ) (rs ss : List Rom) → named_rows x base (rs ++ ss) ≡ named_rows x base rs ++ named_rows x base ss
unfolding named_rows
named_append x base [] ss = refl
named_append x base (r ∷ rs) ss = rw (named_append x base rs ss) (sym (append_assoc (named_row x base r) (named_rows x base rs) (named_rows x base ss)))

pub named_row_length : (x : List ℕ) (base : ℕ) (r : Rom) → length (named_row x base r) ≡ rom_row_length
unfolding named_row
named_row_length x base r = rom_row_length_is r (run (name_p base r.name) x)

pub named_length : (x : List ℕ) (base : ℕ) (rs : List Rom) → length (named_rows x base rs) ≡ rom_row_length * length rs
unfolding named_rows
named_length x base [] = refl
named_length x base (r ∷ rs) =
    one_row_more (named_row x base r) (named_rows x base rs) rom_row_length (named_row_length x base r) (length rs) (named_length x base rs)
