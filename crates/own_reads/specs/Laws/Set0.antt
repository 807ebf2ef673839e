-- Document 02, wish 1: on set 0 the new read and the old one.
-- Assumes nothing.
use Rattle.std.specs.Prelude.{ℕ, ◌≤◌, ◌<◌, ◌≡◌, refl, Bool, true, false, List, eqb}
use Rattle.std.proofs.Common.{arith, sym, ap, ◌∙◌, eqb-true, ne_eqb}
use Rattle.std.proofs.lemmas.Bool.{eqb-false}
use Rattle.base.specs.Laws.{cases}
use Rattle.base.specs.Choice.{pick}
use Rattle.types.specs.declared.SdrrCsSet.{SdrrCsSet}
use Rattle.window.specs.Window.{beyond_window}
use Rattle.mangle.specs.Mangle.{Mangled}
use Rattle.governing.specs.Governing.{GoverningSet, ungoverned, governing, governing_set0, governing_own}
use Rattle.governing.proofs.Laws.{no_pins, no_sets, by_set_0, own_no_row, own_by_set}
use Rattle.info.specs.declared.SdrrAddress.{SdrrAddress}
use Rattle.info.specs.Lent.{Lent, unmangled, mangled_by}
use Rattle.info.specs.Reads.{byte, own, physical, own_physical, Reply, refused_reply, rom_read}
use Rattle.info.proofs.Laws.Steps.{not_governed, in_two, own_in_two}
use Rattle.info.proofs.Laws.Calls.{read_beyond}
use Rattle.own_reads.specs.Laws.Steps.{own_as_byte, byte_unmangled, own_unmangled}
use Rattle.own_reads.specs.Laws.Numbers.{lacks_rows, lacks_rows_is, leads_80, leads_4, leads_70, never_70, never_71}

-- The number of the new read where the old one has n. Old 71 is new 80; old 70 is new 80 where no set is served, otherwise 4 where set 0's row
-- or its first ROM row can't be used, otherwise 70. All others are equal.
abbrev pub parted_number : Lent → ℕ → ℕ
parted_number l n =
    pick (eqb n 71) 80
    (pick (eqb n 70) (pick (eqb l.served 0) 80 (pick (lacks_rows l.set_words l.rom_words 0) 4 70)) n)

-- only an accepted read is accepted
unparted : (l : Lent) (n : ℕ) → parted_number l n ≡ 0 → n ≡ 0
unparted l n e = go (eqb n 71) (eqb n 70) (eqb l.served 0) (lacks_rows l.set_words l.rom_words 0) e
  where
    go : (a b c d : Bool) → pick a 80 (pick b (pick c 80 (pick d 4 70)) n) ≡ 0 → n ≡ 0
    go true b c d h = absurd (omega arith)
    go false false c d h = h
    go false true true d h = absurd (omega arith)
    go false true false true h = absurd (omega arith)
    go false true false false h = absurd (omega arith)

module _ (flash_base cs0_base : ℕ) (l : Lent) (count : ℕ) (x : List ℕ) (address : ℕ) (levels : SdrrCsSet) where
  abbrev new_read : Reply
  new_read = rom_read flash_base cs0_base l count (own 0 address levels) x

  abbrev old_read : Reply
  old_read = rom_read flash_base cs0_base l count (byte 0 (SdrrAddress.Logical address levels) true) x

  -- where both go by the same, they reply alike
  alike : governing_own l.pins.number l.served l.set_words l.rom_words 0 ≡ governing_set0 l.pins.number l.served l.set_words l.rom_words → new_read ≡ old_read
  alike e =
      own_as_byte flash_base cs0_base l count x 0 address levels (SdrrAddress.Logical address levels)
      (own_in_two l.pins l.served l.set_words l.rom_words 0 address levels
      ∙ ap (λ (g : GoverningSet). mangled_by g l.pins address levels) e
      ∙ sym (in_two l.pins l.served l.set_words l.rom_words address levels))

  -- whole replies are equal wherever pins are accepted and a set is served
  pub set_0_whole : l.pins.number ≡ 0 → (l.served ≡ 0 → ⊥) → new_read ≡ old_read
  set_0_whole pins some =
      alike
      (cases (eqb (governing l.set_words l.rom_words 0).number 0)
      (λ h. own_by_set l.pins.number l.served l.set_words l.rom_words 0 (omega arith) (eqb-true _ 0 h) pins)
      (λ h. own_no_row l.pins.number l.served l.set_words l.rom_words 0 (omega arith) (eqb-false _ 0 h))
      ∙ sym (by_set_0 l.pins.number l.served l.set_words l.rom_words pins some))

  -- ---- where pins are refused or no set is served

  module _ (inside : beyond_window flash_base cs0_base x ≡ false) where
    old_refused : (n : ℕ) → governing_set0 l.pins.number l.served l.set_words l.rom_words ≡ ungoverned n → (n ≡ 0 → ⊥) → old_read ≡ refused_reply n count
    old_refused n e h =
        let m : physical l (SdrrAddress.Logical address levels) ≡ unmangled n =
        in_two l.pins l.served l.set_words l.rom_words address levels
        ∙ ap (λ (g : GoverningSet). mangled_by g l.pins address levels) e ∙ not_governed (ungoverned n) l.pins address levels h in
        let k : (physical l (SdrrAddress.Logical address levels)).number ≡ n = ap (λ (t : Mangled). t.number) m in
        byte_unmangled flash_base cs0_base l count x 0 (SdrrAddress.Logical address levels) inside (λ (z : (physical l (SdrrAddress.Logical address levels)).number ≡ 0). h (sym k ∙ z))
        ∙ ap (λ (t : ℕ). refused_reply t count) k

    new_refused : (n : ℕ) → own_physical l 0 address levels ≡ unmangled n → (n ≡ 0 → ⊥) → new_read ≡ refused_reply n count
    new_refused n e h = own_unmangled flash_base cs0_base l count x 0 address levels (unmangled n) (sym e) inside h

  -- the number parts as said, and nothing else
  pub set_0_parted : new_read ≡ record { number = parted_number l old_read.number; bytes = old_read.bytes; count = old_read.count }
  set_0_parted =
      cases (beyond_window flash_base cs0_base x)
      (λ h. rw (read_beyond flash_base cs0_base l count x (own 0 address levels) h, read_beyond flash_base cs0_base l count x (byte 0 (SdrrAddress.Logical address levels) true) h) refl)
      (λ h. cases (eqb l.pins.number 0) (λ i. with_pins h (eqb-true l.pins.number 0 i)) (λ i. without_pins h (eqb-false l.pins.number 0 i)))
    where
      with_pins : beyond_window flash_base cs0_base x ≡ false → l.pins.number ≡ 0 → new_read ≡ record { number = parted_number l old_read.number; bytes = old_read.bytes; count = old_read.count }
      with_pins inside pins =
          cases (eqb l.served 0)
          (λ i.
          let none = eqb-true l.served 0 i in
          rw (new_refused inside 80 (leads_80 l 0 address levels (omega arith)) (λ (z : ◌≡◌ {A = ℕ} 80 0). omega arith), old_refused inside 71 (no_sets l.pins.number l.served l.set_words l.rom_words pins none) (λ (z : ◌≡◌ {A = ℕ} 71 0). omega arith)) refl)
          (λ i.
          let whole = set_0_whole pins (eqb-false l.served 0 i) in
          let not_71 = ne_eqb old_read.number 71 (λ (z : old_read.number ≡ 71). never_71 flash_base cs0_base l count x 0 address levels (ap (λ (r : Reply). r.number) whole ∙ z)) in
          let not_70 = ne_eqb old_read.number 70 (λ (z : old_read.number ≡ 70). never_70 flash_base cs0_base l count x 0 address levels pins (ap (λ (r : Reply). r.number) whole ∙ z)) in
          rw (not_71, not_70) whole)

      without_pins : beyond_window flash_base cs0_base x ≡ false → (l.pins.number ≡ 0 → ⊥) → new_read ≡ record { number = parted_number l old_read.number; bytes = old_read.bytes; count = old_read.count }
      without_pins inside pins =
          rw (old_refused inside 70 (no_pins l.pins.number l.served l.set_words l.rom_words pins) (λ (z : ◌≡◌ {A = ℕ} 70 0). omega arith))
          (cases (eqb l.served 0)
          (λ i. rw i (new_refused inside 80 (leads_80 l 0 address levels (none (eqb-true l.served 0 i))) (λ (z : ◌≡◌ {A = ℕ} 80 0). omega arith)))
          (λ i.
          let there = some (eqb-false l.served 0 i) in
          rw (i, ← (lacks_rows_is l.set_words l.rom_words 0))
          (cases (eqb (governing l.set_words l.rom_words 0).number 0)
          (λ j. rw j (new_refused inside 70 (leads_70 l 0 address levels there (eqb-true _ 0 j) pins) (λ (z : ◌≡◌ {A = ℕ} 70 0). omega arith)))
          (λ j. rw j (new_refused inside 4 (leads_4 l 0 address levels there (eqb-false _ 0 j)) (λ (z : ◌≡◌ {A = ℕ} 4 0). omega arith))))))
        where
          none : l.served ≡ 0 → l.served ≤ 0
          none z = omega arith

          some : (l.served ≡ 0 → ⊥) → 0 < l.served
          some z = omega arith

  -- the new read accepts exactly if the old one does, and then byte and count are equal
  pub set_0_old : old_read.number ≡ 0 → new_read ≡ old_read
  set_0_old e =
      let kept : parted_number l old_read.number ≡ old_read.number = rw e refl in
      set_0_parted ∙ ap (λ (n : ℕ). record { number = n; bytes = old_read.bytes; count = old_read.count }) kept

  pub set_0_new : new_read.number ≡ 0 → new_read ≡ old_read
  set_0_new e = set_0_old (unparted l old_read.number (ap (λ (r : Reply). r.number) (sym set_0_parted) ∙ e))
