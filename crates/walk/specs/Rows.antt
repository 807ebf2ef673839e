-- Document 01, "ROM sets and ROM infos": the rows that an opening writes.
use Rattle.std.specs.Prelude.{ℕ, ◌+◌, ◌*◌, Bool, List, [], ◌∷◌, ◌++◌, ltb, length, get_or, drop}
use Rattle.text.specs.declared.Text.{Text}
use Rattle.text.specs.Text.{refused_text}
use Rattle.walk.specs.Walk.{Rom, RomSet, roms_of}
use Rattle.rows.specs.LentRows.{set_row_length, rom_row_length}

-- the words in their order; an address of 0 says that there is none
unfoldable pub set_row : ℕ → RomSet → List ℕ
set_row first s =
    s.data_pointer ∷ s.size ∷ first ∷ s.rom_count ∷ s.serve ∷ s.state ∷ s.config ∷ s.overrides ∷ []

unfoldable pub counts_of : List RomSet → ℕ
counts_of [] = 0
counts_of (s ∷ ss) = s.rom_count + counts_of ss

-- The first ROM row is the sum of the earlier sets' counts.
unfoldable pub set_rows_after : List RomSet → List RomSet → List ℕ
set_rows_after earlier [] = []
set_rows_after earlier (s ∷ ss) = set_row (counts_of earlier) s ++ set_rows_after (earlier ++ (s ∷ [])) ss

abbrev pub set_rows_of : List RomSet → List ℕ
set_rows_of ss = set_rows_after [] ss

-- a ROM row without the name's words: type, three states
unfoldable pub rom_front : Rom → List ℕ
rom_front r = r.rom_type ∷ r.cs1 ∷ r.cs2 ∷ r.cs3 ∷ []

-- the name's words: where it stands in the image, how long it is, and its reason: 0 where there is one, 1 where no pointer leads to one, and
-- otherwise what the string was refused with; from wish 3 of document 02 on its width in code points; without a name all but the reason are 0
unfoldable pub name_words : Text → List ℕ
name_words t = t.offset ∷ t.length ∷ t.number ∷ t.width ∷ []

unfoldable pub rom_row : Rom → Text → List ℕ
rom_row r t = rom_front r ++ name_words t

-- each ROM with its name; a name that the list lacks, as no opening gives it, counts as missing
unfoldable pub rom_rows_of : List Rom → List Text → List ℕ
rom_rows_of [] ts = []
rom_rows_of (r ∷ rs) ts = rom_row r (get_or ts 0 (refused_text 1)) ++ rom_rows_of rs (drop 1 ts)

-- "Walk": 44 where the lent set rows do not suffice, then 45 where the ROM rows do not, and only where nothing else refuses. Counted in words.
abbrev pub short_sets : List RomSet → ℕ → Bool
short_sets ss lent = ltb lent (set_row_length * length ss)

abbrev pub short_roms : List RomSet → ℕ → Bool
short_roms ss lent = ltb lent (rom_row_length * length (roms_of ss))

-- lent words, of which the first ones are overwritten
abbrev pub overwritten : List ℕ → List ℕ → List ℕ
overwritten words lent = words ++ drop (length words) lent
