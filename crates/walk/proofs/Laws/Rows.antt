-- Rows written are exactly as wide as a set's row and a ROM's; a ROM row's type does not depend on the names; the first ROM row is a sum.
-- Assumes nothing.
use Rattle.std.specs.Prelude.{ℕ, zero, suc, ◌*◌, ◌<◌, ◌≡◌, refl, List, [], ◌∷◌, ◌++◌, map, length, get_or, take, drop}
use Rattle.std.proofs.Common.{mul-zero, not-suc-le-zero, le_of_suc-le-suc, sym, ap, ◌∙◌, append_assoc, append-nil}
use Rattle.base.specs.Laws.{clash}
use Rattle.rows.specs.LentRows.{set_row_length, rom_row_length, set_place, rom_place, first_rom, type_word}
use Rattle.rows.specs.Laws.{one_row_more, in_later_row}
use Rattle.rows.specs.declared.SetWord.{SetWord}
use Rattle.rows.specs.declared.RomWord.{RomWord}
use Rattle.text.specs.declared.Text.{Text}
use Rattle.text.specs.Text.{refused_text}
use Rattle.walk.specs.Walk.{Rom, RomSet, roms_of}
use Rattle.walk.specs.Rows.{set_row, counts_of, set_rows_after, set_rows_of, rom_front, name_words, rom_row, rom_rows_of}

pub set_row_length_is : (first : ℕ) (s : RomSet) → length (set_row first s) ≡ set_row_length
unfolding set_row
set_row_length_is first s = refl

set_rows_from : (earlier ss : List RomSet) → length (set_rows_after earlier ss) ≡ set_row_length * length ss
unfolding set_rows_after
set_rows_from earlier [] = sym (mul-zero set_row_length)
set_rows_from earlier (s ∷ ss) =
    one_row_more (set_row (counts_of earlier) s) (set_rows_after (earlier ++ (s ∷ [])) ss) set_row_length (set_row_length_is (counts_of earlier) s) (length ss) (set_rows_from (earlier ++ (s ∷ [])) ss)

pub set_rows_length : (ss : List RomSet) → length (set_rows_of ss) ≡ set_row_length * length ss
set_rows_length ss = set_rows_from [] ss

rows_more : (earlier ss : List RomSet) (s : RomSet) → set_rows_after earlier (ss ++ (s ∷ [])) ≡ set_rows_after earlier ss ++ set_row (counts_of (earlier ++ ss)) s
unfolding set_rows_after
rows_more earlier [] s = rw (append-nil earlier) (append-nil (set_row (counts_of earlier) s))
rows_more earlier (t ∷ ss) s =
    rw (rows_more (earlier ++ (t ∷ [])) ss s, append_assoc earlier (t ∷ []) ss)
    (sym (append_assoc (set_row (counts_of earlier) t) (set_rows_after (earlier ++ (t ∷ [])) ss) (set_row (counts_of (earlier ++ t ∷ ss)) s)))

-- the rows with one set more: its own behind those of the earlier sets, its first ROM row the sum of their counts
pub set_rows_more : (ss : List RomSet) (s : RomSet) → set_rows_of (ss ++ (s ∷ [])) ≡ set_rows_of ss ++ set_row (counts_of ss) s
set_rows_more ss s = rows_more [] ss s

pub roms_more : (ss : List RomSet) (s : RomSet) → roms_of (ss ++ (s ∷ [])) ≡ roms_of ss ++ s.roms
unfolding roms_of
roms_more [] s = append-nil s.roms
roms_more (t ∷ ss) s = rw (roms_more ss s) (sym (append_assoc t.roms (roms_of ss) s.roms))

pub rom_row_length_is : (r : Rom) (t : Text) → length (rom_row r t) ≡ rom_row_length
unfolding rom_row rom_front name_words
rom_row_length_is r t = refl

pub rom_rows_length : (rs : List Rom) (ts : List Text) → length (rom_rows_of rs ts) ≡ rom_row_length * length rs
unfolding rom_rows_of
rom_rows_length [] ts = sym (mul-zero rom_row_length)
rom_rows_length (r ∷ rs) ts =
    one_row_more (rom_row r (get_or ts 0 (refused_text 1))) (rom_rows_of rs (drop 1 ts)) rom_row_length (rom_row_length_is r (get_or ts 0 (refused_text 1))) (length rs) (rom_rows_length rs (drop 1 ts))

-- the type in a ROM row and in what follows it
type_first : (r : Rom) (t : Text) (rest : List ℕ) → type_word (rom_row r t ++ rest) 0 ≡ r.rom_type
unfolding rom_row rom_front name_words
type_first r t rest = refl

type_later : (r : Rom) (t : Text) (rest : List ℕ) (i : ℕ) → type_word (rom_row r t ++ rest) (suc i) ≡ type_word rest i
type_later r t rest i = in_later_row (rom_row r t) rest rom_row_length (rom_row_length_is r t) i (rom_place RomWord.Type)

pub same_fronts : (r s : Rom) → rom_front r ≡ rom_front s → r.rom_type ≡ s.rom_type
unfolding rom_front
same_fronts r s e = cc

pub type_words : (rs ss : List Rom) (ts us : List Text) (rest : List ℕ) → map rom_front rs ≡ map rom_front ss → (i : ℕ)
    → type_word (rom_rows_of rs ts ++ rest) i ≡ type_word (rom_rows_of ss us ++ rest) i
unfolding rom_rows_of
type_words [] [] ts us rest e i = refl
type_words [] (s ∷ ss) ts us rest e i = clash (cc)
type_words (r ∷ rs) [] ts us rest e i = clash (cc)
type_words (r ∷ rs) (s ∷ ss) ts us rest e zero =
    let f : rom_front r ≡ rom_front s = cc in
    rw (append_assoc (rom_row r (get_or ts 0 (refused_text 1))) (rom_rows_of rs (drop 1 ts)) rest, append_assoc (rom_row s (get_or us 0 (refused_text 1))) (rom_rows_of ss (drop 1 us)) rest)
    (type_first r (get_or ts 0 (refused_text 1)) (rom_rows_of rs (drop 1 ts) ++ rest) ∙ same_fronts r s f ∙ sym (type_first s (get_or us 0 (refused_text 1)) (rom_rows_of ss (drop 1 us) ++ rest)))
type_words (r ∷ rs) (s ∷ ss) ts us rest e (suc i) =
    let f : map rom_front rs ≡ map rom_front ss = cc in
    rw (append_assoc (rom_row r (get_or ts 0 (refused_text 1))) (rom_rows_of rs (drop 1 ts)) rest, append_assoc (rom_row s (get_or us 0 (refused_text 1))) (rom_rows_of ss (drop 1 us)) rest)
    (type_later r (get_or ts 0 (refused_text 1)) (rom_rows_of rs (drop 1 ts) ++ rest) i
    ∙ type_words rs ss (drop 1 ts) (drop 1 us) rest f i
    ∙ sym (type_later s (get_or us 0 (refused_text 1)) (rom_rows_of ss (drop 1 us) ++ rest) i))

-- ---- the first ROM row of a set is the sum of the earlier sets' counts

first_later : (first : ℕ) (s : RomSet) (rest : List ℕ) (i : ℕ) → first_rom (set_row first s ++ rest) (suc i) ≡ first_rom rest i
first_later first s rest i = in_later_row (set_row first s) rest set_row_length (set_row_length_is first s) i (set_place SetWord.FirstRom)

first_from : (earlier ss : List RomSet) (i : ℕ) → i < length ss → first_rom (set_rows_after earlier ss) i ≡ counts_of (earlier ++ take i ss)
unfolding set_rows_after set_row
first_from earlier [] i l = absurd (not-suc-le-zero l)
first_from earlier (s ∷ ss) zero l = rw (append-nil earlier) refl
first_from earlier (s ∷ ss) (suc i) l =
    first_later (counts_of earlier) s (set_rows_after (earlier ++ (s ∷ [])) ss) i
    ∙ first_from (earlier ++ (s ∷ [])) ss i (le_of_suc-le-suc l)
    ∙ ap counts_of (append_assoc earlier (s ∷ []) (take i ss))

pub first_rom_row : (ss : List RomSet) (i : ℕ) → i < length ss → first_rom (set_rows_of ss) i ≡ counts_of (take i ss)
first_rom_row ss i l = first_from [] ss i l
