-- The name's words of each ROM row, and where each name comes from.
-- Assumes nothing.
use Rattle.std.specs.Prelude.{ℕ, zero, suc, ◌<◌, ◌≡◌, refl, List, [], ◌∷◌, ◌++◌, length, get_or, drop}
use Rattle.std.proofs.Common.{not-suc-le-zero, le_of_suc-le-suc, ap, ◌∙◌, append_assoc}
use Rattle.prog.specs.Prog.{also, run}
use Rattle.prog.proofs.Laws.Run.{run_done, run_map, run_also}
use Rattle.rows.specs.LentRows.{rom_row_length, rom_place, rom_word, name_offset, name_length, name_reason, name_width}
use Rattle.rows.specs.Laws.{in_later_row}
use Rattle.rows.specs.declared.RomWord.{RomWord}
use Rattle.text.specs.declared.Text.{Text}
use Rattle.text.specs.Text.{refused_text, text_p}
use Rattle.walk.specs.Walk.{NameAt, no_name, name_at, Rom, RomSet, Part, stop, found, roms_of}
use Rattle.walk.specs.Names.{name_p, names_p, walk_names_p}
use Rattle.walk.specs.Rows.{rom_front, name_words, rom_row, rom_rows_of}
use Rattle.walk.proofs.Laws.Ended.{no_name_shown}
use Rattle.walk.proofs.Laws.Rows.{rom_row_length_is}

-- the name's words of a row are those of a text
pub record NameWords (roms : List ℕ) (row : ℕ) (t : Text) : Type 0 where
  pub offset : name_offset roms row ≡ t.offset
  pub length : name_length roms row ≡ t.length
  pub reason : name_reason roms row ≡ t.number
  pub width : name_width roms row ≡ t.width

words_first : (r : Rom) (t : Text) (rest : List ℕ) → NameWords (rom_row r t ++ rest) 0 t
unfolding rom_row rom_front name_words
words_first r t rest = record { offset = refl; length = refl; reason = refl; width = refl }

words_later : (r : Rom) (t : Text) (rest : List ℕ) (i : ℕ) {u : Text} → NameWords rest i u → NameWords (rom_row r t ++ rest) (suc i) u
words_later r t rest i n =
    let later : (w : RomWord) → rom_word (rom_row r t ++ rest) (suc i) w ≡ rom_word rest i w =
    λ w. in_later_row (rom_row r t) rest rom_row_length (rom_row_length_is r t) i (rom_place w) in
    record {
      offset = later RomWord.NameOffset ∙ n.offset;
      length = later RomWord.NameLength ∙ n.length;
      reason = later RomWord.NameReason ∙ n.reason;
      width = later RomWord.NameWidth ∙ n.width;
    }

behind_first : (ts : List Text) (i : ℕ) (d : Text) → get_or (drop 1 ts) i d ≡ get_or ts (suc i) d
behind_first [] i d = refl
behind_first (t ∷ ts) i d = refl

-- in rows and in what follows them
pub rows_words : (rs : List Rom) (ts : List Text) (rest : List ℕ) (i : ℕ) → i < length rs → NameWords (rom_rows_of rs ts ++ rest) i (get_or ts i (refused_text 1))
unfolding rom_rows_of
rows_words [] ts rest i l = absurd (not-suc-le-zero l)
rows_words (r ∷ rs) ts rest zero l =
    rw (append_assoc (rom_row r (get_or ts 0 (refused_text 1))) (rom_rows_of rs (drop 1 ts)) rest)
    (words_first r (get_or ts 0 (refused_text 1)) (rom_rows_of rs (drop 1 ts) ++ rest))
rows_words (r ∷ rs) ts rest (suc i) l =
    rw (append_assoc (rom_row r (get_or ts 0 (refused_text 1))) (rom_rows_of rs (drop 1 ts)) rest, ← behind_first ts i (refused_text 1))
    (words_later r (get_or ts 0 (refused_text 1)) (rom_rows_of rs (drop 1 ts) ++ rest) i (rows_words rs (drop 1 ts) rest i (le_of_suc-le-suc l)))

-- a name is missing without a read, or it is what the string at a pointer answers
pub data NameRead (x : List ℕ) (t : Text) : Type 0 where
  unread : t ≡ refused_text 1 → NameRead x t
  read : (base pointer : ℕ) → run (text_p base pointer) x ≡ t → NameRead x t

module _ (x : List ℕ) (base : ℕ) where
  name_read : (n : NameAt) → NameRead x (run (name_p base n) x)
  unfolding name_p
  name_read no_name = unread (run_done x (refused_text 1))
  name_read (name_at pointer) = read base pointer refl

  pub names_cons : (r : Rom) (rs : List Rom) → run (names_p base (r ∷ rs)) x ≡ run (name_p base r.name) x ∷ run (names_p base rs) x
  unfolding names_p
  names_cons r rs =
      run_map x (λ t. t.0 ∷ t.1) (also (name_p base r.name) λ t. names_p base rs)
      ∙ ap (λ (t : Text × List Text). t.0 ∷ t.1) (run_also x (name_p base r.name) (λ t. names_p base rs))

  names_none : run (names_p base []) x ≡ []
  unfolding names_p
  names_none = run_done x []

  names_read : (rs : List Rom) (i : ℕ) → NameRead x (get_or (run (names_p base rs) x) i (refused_text 1))
  names_read [] i = rw names_none (unread refl)
  names_read (r ∷ rs) zero = rw (names_cons r rs) (name_read r.name)
  names_read (r ∷ rs) (suc i) = rw (names_cons r rs) (names_read rs i)

  -- each name that a walk shows; behind the last there is none
  pub walk_names_read : (w : Part (List RomSet)) (i : ℕ) → NameRead x (get_or (run (walk_names_p base w) x) i (refused_text 1))
  unfolding walk_names_p
  walk_names_read (stop n passed) i = rw (no_name_shown base n passed x) (unread refl)
  walk_names_read (found ss) i = names_read (roms_of ss) i
