-- Rows of one length, one after the other; and a name's width, altered, which is no row's type.
-- Assumes nothing.
use Rattle.std.specs.Prelude.{ℕ, suc, ◌+◌, ◌*◌, ◌≡◌, List, ◌++◌, length, get_or, set}
use Rattle.std.proofs.Common.{arith, mul-suc, ap, ◌∙◌, length-append, get_or-append-add, length-set, get_or-set_other}
use Rattle.rows.specs.LentRows.{rom_row_length, rom_place, type_word}
use Rattle.rows.specs.declared.RomWord.{RomWord}

module _ (row rest : List ℕ) (words : ℕ) (full : length row ≡ words) where
  pub one_row_more : (n : ℕ) → length rest ≡ words * n → length (row ++ rest) ≡ words * suc n
  one_row_more n e = length-append row rest ∙ (let c = mul-suc words n in omega arith)

  pub in_later_row : (i place : ℕ) → get_or (row ++ rest) (words * suc i + place) 0 ≡ get_or rest (words * i + place) 0
  in_later_row i place =
      let e : words * suc i + place ≡ length row + (words * i + place) = let c = mul-suc words i in omega arith in
      ap (λ (n : ℕ). get_or (row ++ rest) n 0) e ∙ get_or-append-add row rest (words * i + place) 0

-- ---- an altered width: as many words, and every type as it was

module _ (roms : List ℕ) (row word : ℕ) where
  abbrev pub width_altered : List ℕ
  width_altered = set roms (rom_row_length * row + rom_place RomWord.NameWidth) word

  pub altered_length : length width_altered ≡ length roms
  altered_length = length-set roms (rom_row_length * row + rom_place RomWord.NameWidth) word

  pub altered_types : (i : ℕ) → type_word width_altered i ≡ type_word roms i
  altered_types i =
      get_or-set_other roms (rom_row_length * row + rom_place RomWord.NameWidth) (rom_row_length * i + rom_place RomWord.Type) word 0 (λ e. omega arith)
