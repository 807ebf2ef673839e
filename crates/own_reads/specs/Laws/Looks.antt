-- Document 02, wish 1: what the read by the set's own ROMs looks at: mangling needs the named set's row and first ROM row in place of set 0's.
-- Assumes nothing.
use Rattle.std.specs.Prelude.{ℕ, ◌+◌, ◌*◌, ◌<◌, ◌≤◌, ◌≡◌, refl, ◌⊎◌, List, eqb, set}
use Rattle.std.proofs.Common.{arith, sym, ap, ◌∙◌, inl, inr, length-set, get_or-set_other, eqb-true}
use Rattle.types.specs.declared.McuLine.{McuLine}
use Rattle.types.specs.declared.SdrrCsSet.{SdrrCsSet}
use Rattle.std.proofs.lemmas.Bool.{eqb-false}
use Rattle.base.specs.Laws.{cases}
use Rattle.window.specs.Window.{base_after, beyond_window}
use Rattle.prog.specs.Prog.{Prog, run}
use Rattle.rows.specs.declared.SetWord.{SetWord}
use Rattle.rows.specs.LentRows.{set_row_length, rom_row_length, set_place, set_word, has_set_row, has_rom_row, first_rom, rom_count, type_word}
use Rattle.governing.specs.Governing.{governing, governing_own}
use Rattle.info.specs.Lent.{Lent, mangled_by, mangle_own}
use Rattle.info.specs.Reads.{Bytes, own, own_physical, shown_byte, data_p, stored_p, finished, read_reply, rom_read}
use Rattle.info.proofs.Laws.Calls.{read_beyond, read_within}
use Rattle.own_reads.specs.Laws.Numbers.{leads_without_rom}

-- alike in the line, the pins, the sets served, the named set's row and, where it has ROMs, its first ROM row's type: lent in both or in neither
pub record AlikeFor (i : ℕ) (l m : Lent) : Type 0 where
  pub lines : l.line ≡ m.line
  pub pins : l.pins ≡ m.pins
  pub served : l.served ≡ m.served
  pub row_lent : has_set_row l.set_words i ≡ has_set_row m.set_words i
  pub row : (word : SetWord) → set_word l.set_words i word ≡ set_word m.set_words i word
  pub rom_row_lent : (rom_count l.set_words i ≡ 0 → ⊥) → has_rom_row l.rom_words (first_rom l.set_words i) ≡ has_rom_row m.rom_words (first_rom l.set_words i)
  pub type : (rom_count l.set_words i ≡ 0 → ⊥) → type_word l.rom_words (first_rom l.set_words i) ≡ type_word m.rom_words (first_rom l.set_words i)

module _ {i : ℕ} {l m : Lent} (alike : AlikeFor i l m) (address : ℕ) (levels : SdrrCsSet) where
  -- with ROMs by the type of the first one; without, 74 whatever the ROM rows hold
  some_roms : (rom_count l.set_words i ≡ 0 → ⊥) → own_physical l i address levels ≡ own_physical m i address levels
  unfolding mangle_own mangled_by governing_own governing
  some_roms some =
      rw (alike.type some, alike.rom_row_lent some, alike.row SetWord.FirstRom, alike.row SetWord.RomCount, alike.row_lent, alike.served, alike.pins)

  no_roms : rom_count l.set_words i ≡ 0 → own_physical l i address levels ≡ own_physical m i address levels
  no_roms none =
      let none' : rom_count m.set_words i ≡ 0 = sym (alike.row SetWord.RomCount) ∙ none in
      leads_without_rom l i address levels none
      ∙ rw (alike.served, alike.row_lent, alike.pins) (sym (leads_without_rom m i address levels none'))

  leads_alike : own_physical l i address levels ≡ own_physical m i address levels
  leads_alike = cases (eqb (rom_count l.set_words i) 0) (λ h. no_roms (eqb-true _ 0 h)) (λ h. some_roms (eqb-false _ 0 h))

  stored_alike : (base : ℕ) → stored_p base l (own i address levels) ≡ stored_p base m (own i address levels)
  unfolding stored_p data_p
  stored_alike base = rw (leads_alike, alike.row SetWord.DataPointer, alike.row SetWord.Size, alike.row_lent, alike.served)

  finished_alike : (count : ℕ) (b : Bytes) → finished l count (own i address levels) b ≡ finished m count (own i address levels) b
  unfolding finished shown_byte
  finished_alike count b = rw alike.pins

  -- the reply goes by nothing else
  pub own_looks : (flash_base cs0_base count : ℕ) (x : List ℕ)
      → rom_read flash_base cs0_base l count (own i address levels) x ≡ rom_read flash_base cs0_base m count (own i address levels) x
  own_looks flash_base cs0_base count x =
      let r = own i address levels in
      let base = base_after flash_base cs0_base l.line in
      let stored : stored_p base l r ≡ stored_p (base_after flash_base cs0_base m.line) m r = stored_alike base ∙ ap (λ (line : McuLine). stored_p (base_after flash_base cs0_base line) m r) alike.lines in
      cases (beyond_window flash_base cs0_base x)
      (λ h. read_beyond flash_base cs0_base l count x r h ∙ sym (read_beyond flash_base cs0_base m count x r h))
      (λ h.
      read_within flash_base cs0_base l count x r h ∙ ap (read_reply count r) (finished_alike count (run (stored_p base l r) x))
      ∙ ap (λ (p : Prog Bytes). read_reply count r (finished m count r (run p x))) stored ∙ sym (read_within flash_base cs0_base m count x r h))

-- ---- so any word of another set's row, set 0's if it is not named, and any ROM word but that one type may be altered

place_inside : (w : SetWord) → set_place w < set_row_length
place_inside SetWord.DataPointer = omega arith
place_inside SetWord.Size = omega arith
place_inside SetWord.FirstRom = omega arith
place_inside SetWord.RomCount = omega arith
place_inside SetWord.Serve = omega arith
place_inside SetWord.State = omega arith
place_inside SetWord.Config = omega arith
place_inside SetWord.Overrides = omega arith

module _ (l : Lent) (i k word address : ℕ) (levels : SdrrCsSet) (flash_base cs0_base count : ℕ) (x : List ℕ) where
  outside_row : (k < set_row_length * i) ⊎ (set_row_length * i + set_row_length ≤ k) → (w : SetWord) → (set_row_length * i + set_place w ≡ k → ⊥)
  outside_row (inl h) w e = let p = place_inside w in omega arith
  outside_row (inr h) w e = let p = place_inside w in omega arith

  pub other_row_altered : (k < set_row_length * i) ⊎ (set_row_length * i + set_row_length ≤ k)
      → rom_read flash_base cs0_base (record { line = l.line; pins = l.pins; served = l.served; set_words = set l.set_words k word; rom_words = l.rom_words }) count (own i address levels) x
      ≡ rom_read flash_base cs0_base l count (own i address levels) x
  other_row_altered h =
      let kept : (w : SetWord) → set_word (set l.set_words k word) i w ≡ set_word l.set_words i w = λ w. get_or-set_other l.set_words k (set_row_length * i + set_place w) word 0 (outside_row h w) in
      own_looks
      (record {
        lines = refl;
        pins = refl;
        served = refl;
        row_lent = rw (length-set l.set_words k word);
        row = kept;
        rom_row_lent = λ some. refl;
        type = λ some. refl;
      }) address levels flash_base cs0_base count x

  pub other_rom_word_altered : (k ≡ rom_row_length * first_rom l.set_words i → ⊥)
      → rom_read flash_base cs0_base (record { line = l.line; pins = l.pins; served = l.served; set_words = l.set_words; rom_words = set l.rom_words k word }) count (own i address levels) x
      ≡ rom_read flash_base cs0_base l count (own i address levels) x
  other_rom_word_altered h =
      own_looks
      (record {
        lines = refl;
        pins = refl;
        served = refl;
        row_lent = refl;
        row = λ w. refl;
        rom_row_lent = λ some. rw (length-set l.rom_words k word);
        type = λ some. get_or-set_other l.rom_words k (rom_row_length * first_rom l.set_words i + 0) word 0 (λ e. h (omega arith));
      }) address levels flash_base cs0_base count x
