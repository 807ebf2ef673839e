-- Document 02, wish 1: the numbers of the read by the set's own ROMs, each in its place.
-- Assumes nothing.
use Rattle.std.specs.Prelude.{ℕ, ◌+◌, ◌<◌, ◌≤◌, ◌≡◌, refl, Bool, true, false, not, ◌||◌, List, ltb, leb, eqb}
use Rattle.std.proofs.Common.{arith, sym, ap, ◌∙◌, eqb-true, eq-eqb, leb-true, leb-false}
use Rattle.std.proofs.lemmas.Bool.{eqb-false}
use Rattle.base.specs.Laws.{cases}
use Rattle.base.specs.Choice.{pick}
use Rattle.types.specs.Types.{rom_type_of}
use Rattle.types.specs.declared.SdrrCsSet.{SdrrCsSet}
use Rattle.window.specs.Window.{can_read, base_after, beyond_window}
use Rattle.rows.specs.LentRows.{has_set_row, data_pointer, size_of, first_rom, rom_count, type_word, set_number}
use Rattle.demangle.specs.Demangle.{all_below, demangle}
use Rattle.mangle.specs.Mangle.{Mangled, mangle_core}
use Rattle.mangle.specs.Laws.Bits.{no_rom}
use Rattle.governing.specs.Governing.{GoverningSet, ungoverned, lacks_first_rom, governing, governing_own}
use Rattle.governing.proofs.Laws.{no_set_row, by_set, governing_lent, governing_4, own_no_set, own_no_row, own_no_pins, own_by_set}
use Rattle.info.specs.declared.SdrrAddress.{SdrrAddress}
use Rattle.info.specs.Lent.{Lent, unmangled, mangled_by}
use Rattle.info.specs.Reads.{byte, own, own_physical, Reply, rom_read}
use Rattle.info.proofs.Laws.Steps.{not_governed, governed, own_in_two}
use Rattle.info.proofs.Laws.Calls.{read_beyond}
use Rattle.set_data.specs.Code.{set_data, found_of}
use Rattle.byte_reads.specs.declared.ByteRead.{ByteRead}
use Rattle.byte_reads.specs.Calls.{byte_of}
use Rattle.byte_reads.specs.Code.{stored_byte, shown_from}
use Rattle.byte_reads.specs.Laws.Steps.{stored_raw, byte_demangled}
use Rattle.own_reads.specs.Laws.Steps.{own_at_offset, own_unmangled}
use Rattle.mangle.specs.Laws.Range.{mangle_range}

-- 4: the set's row isn't among those lent; or it has ROMs, and its first ROM row isn't or has a type above 33
abbrev pub lacks_rows : (sets roms : List ℕ) → ℕ → Bool
lacks_rows sets roms i = not (has_set_row sets i) || lacks_first_rom sets roms i

pub lacks_rows_is : (sets roms : List ℕ) (i : ℕ) → not (eqb (governing sets roms i).number 0) ≡ lacks_rows sets roms i
unfolding governing
lacks_rows_is sets roms i = go (has_set_row sets i) (lacks_first_rom sets roms i)
  where
    go : (a b : Bool) → not (eqb (pick (not a) (ungoverned 4) (pick b (ungoverned 4) (record { number = 0; rom_count = rom_count sets i; rom_type = rom_type_of (type_word roms (first_rom sets i)) }))).number 0) ≡ (not a || b)
    go true true = refl
    go true false = refl
    go false b = refl

-- ---- where the address leads, by the named set

module _ (l : Lent) (set address : ℕ) (levels : SdrrCsSet) where
  -- by its ROM count and first type
  abbrev pub mangled_by_set : Mangled
  mangled_by_set = mangle_core l.pins (rom_count l.set_words set) (rom_type_of (type_word l.rom_words (first_rom l.set_words set))) address levels

  refused_by : (g : GoverningSet) → governing_own l.pins.number l.served l.set_words l.rom_words set ≡ g → (g.number ≡ 0 → ⊥)
      → own_physical l set address levels ≡ unmangled g.number
  refused_by g e h =
      own_in_two l.pins l.served l.set_words l.rom_words set address levels
      ∙ ap (λ (t : GoverningSet). mangled_by t l.pins address levels) e ∙ not_governed g l.pins address levels h

  pub leads_80 : l.served ≤ set → own_physical l set address levels ≡ unmangled 80
  leads_80 h = refused_by (ungoverned 80) (own_no_set l.pins.number l.served l.set_words l.rom_words set h) (λ (z : ◌≡◌ {A = ℕ} 80 0). omega arith)

  module _ (there : set < l.served) where
    pub leads_4 : ((governing l.set_words l.rom_words set).number ≡ 0 → ⊥) → own_physical l set address levels ≡ unmangled 4
    leads_4 h =
        refused_by (ungoverned 4) (own_no_row l.pins.number l.served l.set_words l.rom_words set there h ∙ governing_4 l.set_words l.rom_words set h)
        (λ (z : ◌≡◌ {A = ℕ} 4 0). omega arith)

    module _ (lent : (governing l.set_words l.rom_words set).number ≡ 0) where
      pub leads_70 : (l.pins.number ≡ 0 → ⊥) → own_physical l set address levels ≡ unmangled 70
      leads_70 h =
          refused_by (ungoverned 70) (own_no_pins l.pins.number l.served l.set_words l.rom_words set there lent h) (λ (z : ◌≡◌ {A = ℕ} 70 0). omega arith)

      pub leads_on : l.pins.number ≡ 0 → own_physical l set address levels ≡ mangled_by_set
      leads_on h =
          own_in_two l.pins l.served l.set_words l.rom_words set address levels
          ∙ ap (λ (t : GoverningSet). mangled_by t l.pins address levels)
          (own_by_set l.pins.number l.served l.set_words l.rom_words set there lent h ∙ (governing_lent l.set_words l.rom_words set lent).1)
          ∙ governed _ l.pins address levels refl

-- a set without ROMs: 80, 4 of its row, 70, 74, whatever the ROM rows hold
pub leads_without_rom : (l : Lent) (set address : ℕ) (levels : SdrrCsSet) → rom_count l.set_words set ≡ 0
    → own_physical l set address levels ≡ unmangled (pick (leb l.served set) 80 (pick (not (has_set_row l.set_words set)) 4 (pick (not (eqb l.pins.number 0)) 70 74)))
leads_without_rom l set address levels none =
    cases (leb l.served set)
    (λ h. rw h (leads_80 l set address levels (leb-true l.served set h)))
    (λ h.
    let there = leb-false l.served set h in
    rw h
    (cases (has_set_row l.set_words set)
    (λ i.
    let lent = ap (λ (t : GoverningSet). t.number) (by_set l.set_words l.rom_words set i (rw (eq-eqb (rom_count l.set_words set) 0 none) refl)) in
    rw i
    (cases (eqb l.pins.number 0)
    (λ j. rw j (leads_on l set address levels there lent (eqb-true l.pins.number 0 j) ∙ rw none (no_rom l.pins _ address levels)))
    (λ j. rw j (leads_70 l set address levels there lent (eqb-false l.pins.number 0 j)))))
    (λ i. rw i (leads_4 l set address levels there (λ e. let z : ◌≡◌ {A = ℕ} 4 0 = ap (λ (t : GoverningSet). t.number) (sym (no_set_row l.set_words l.rom_words set i)) ∙ e in omega arith)))))

-- ---- the numbers in their order

module _ (flash_base cs0_base : ℕ) (l : Lent) (count : ℕ) (x : List ℕ) (set : ℕ) where
  -- behind mangling, of a set that is served and whose row is lent, with accepted pins: 81, 2, 82, 79
  abbrev pub number_at : ℕ → ℕ
  number_at offset =
      pick (ltb (size_of l.set_words set) (offset + 1)) 81
      (pick (not (can_read x (base_after flash_base cs0_base l.line) (data_pointer l.set_words set + offset) 1)) 2
      (pick (ltb 4294967295 (count + 1)) 82
      (pick (all_below 8 l.pins.«data») 0 79)))

  module _ (inside : beyond_window flash_base cs0_base x ≡ false) (lent : set_number l.served l.set_words set ≡ 0) (pins : l.pins.number ≡ 0) where
    found_numbers : (offset : ℕ)
        → (shown_from l.pins.number l.pins.«data»
        (stored_byte x (base_after flash_base cs0_base l.line) (set_data l.served l.set_words set) (record { number = 0; value = offset }) count) count).number
        ≡ number_at offset
    unfolding shown_from stored_byte found_of demangle
    found_numbers offset =
        cases (ltb (size_of l.set_words set) (offset + 1))
        (λ h. simp (lent, h))
        (λ h.
        cases (can_read x (base_after flash_base cs0_base l.line) (data_pointer l.set_words set + offset) 1)
        (λ i.
        cases (ltb 4294967295 (count + 1))
        (λ j. simp (lent, h, i, j))
        (λ j. cases (all_below 8 l.pins.«data») (λ k. simp (lent, pins, h, i, j, k)) (λ k. simp (lent, pins, h, i, j, k))))
        (λ i. simp (lent, h, i)))

    at_offset : (offset : ℕ) → (rom_read flash_base cs0_base l count (byte set (SdrrAddress.Raw offset) true) x).number ≡ number_at offset
    at_offset offset =
        let a = SdrrAddress.Raw offset in
        let raw = byte_of (rom_read flash_base cs0_base l count (byte set a false) x) in
        let shown = byte_demangled flash_base cs0_base l count x set a raw refl (shown_from l.pins.number l.pins.«data» raw count) refl in
        let stored = stored_raw flash_base cs0_base l count x set a inside in
        ap (λ (b : ByteRead). b.number) (sym shown ∙ ap (λ (b : ByteRead). shown_from l.pins.number l.pins.«data» b count) (sym stored)) ∙ found_numbers offset

  module _ (address : ℕ) (levels : SdrrCsSet) where
    refused_with : beyond_window flash_base cs0_base x ≡ false → (m : Mangled) → own_physical l set address levels ≡ m → (m.number ≡ 0 → ⊥)
        → (rom_read flash_base cs0_base l count (own set address levels) x).number ≡ m.number
    refused_with inside m e h = ap (λ (r : Reply). r.number) (own_unmangled flash_base cs0_base l count x set address levels m (sym e) inside h)

    by_governing : (rom_read flash_base cs0_base l count (own set address levels) x).number
        ≡ pick (beyond_window flash_base cs0_base x) 1
        (pick (leb l.served set) 80
        (pick (not (eqb (governing l.set_words l.rom_words set).number 0)) 4
        (pick (not (eqb l.pins.number 0)) 70
        (pick (not (eqb (mangled_by_set l set address levels).number 0)) (mangled_by_set l set address levels).number
        (number_at (mangled_by_set l set address levels).value)))))
    by_governing =
        cases (beyond_window flash_base cs0_base x)
        (λ h. rw (read_beyond flash_base cs0_base l count x (own set address levels) h, h))
        (λ h. rw h
        (cases (leb l.served set)
        (λ i. rw i (refused_with h (unmangled 80) (leads_80 l set address levels (leb-true l.served set i)) (λ (z : ◌≡◌ {A = ℕ} 80 0). omega arith)))
        (λ i. rw i
        (cases (eqb (governing l.set_words l.rom_words set).number 0)
        (λ j. rw j (by_pins h i j))
        (λ j. rw j
        (refused_with h (unmangled 4) (leads_4 l set address levels (leb-false l.served set i) (eqb-false _ 0 j)) (λ (z : ◌≡◌ {A = ℕ} 4 0). omega arith)))))))
      where
        by_pins : beyond_window flash_base cs0_base x ≡ false → leb l.served set ≡ false → eqb (governing l.set_words l.rom_words set).number 0 ≡ true
            → (rom_read flash_base cs0_base l count (own set address levels) x).number
            ≡ pick (not (eqb l.pins.number 0)) 70
            (pick (not (eqb (mangled_by_set l set address levels).number 0)) (mangled_by_set l set address levels).number
            (number_at (mangled_by_set l set address levels).value))
        by_pins h i j =
            let there = leb-false l.served set i in
            let lent = eqb-true (governing l.set_words l.rom_words set).number 0 j in
            let row : set_number l.served l.set_words set ≡ 0 = rw (i, (governing_lent l.set_words l.rom_words set lent).0) in
            cases (eqb l.pins.number 0)
            (λ k.
            let pins = eqb-true l.pins.number 0 k in
            let on = leads_on l set address levels there lent pins in
            let m = mangled_by_set l set address levels in
            rw k
            (cases (eqb m.number 0)
            (λ n. rw n (ap (λ (r : Reply). r.number) (own_at_offset flash_base cs0_base l count x set address levels m (sym on) (eqb-true m.number 0 n)) ∙ at_offset h row pins m.value))
            (λ n. rw n (refused_with h m on (eqb-false m.number 0 n)))))
            (λ k. rw k (refused_with h (unmangled 70) (leads_70 l set address levels there lent (eqb-false l.pins.number 0 k)) (λ (z : ◌≡◌ {A = ℕ} 70 0). omega arith)))

    -- 1, 80, 4, 70, 72 to 78, 81, 2, 82, 79: ROM data's 80 and 4 and demangling's 70 do not come a second time
    pub own_numbers : (rom_read flash_base cs0_base l count (own set address levels) x).number
        ≡ pick (beyond_window flash_base cs0_base x) 1
        (pick (leb l.served set) 80
        (pick (lacks_rows l.set_words l.rom_words set) 4
        (pick (not (eqb l.pins.number 0)) 70
        (pick (not (eqb (mangled_by_set l set address levels).number 0)) (mangled_by_set l set address levels).number
        (number_at (mangled_by_set l set address levels).value)))))
    own_numbers = rw (← (lacks_rows_is l.set_words l.rom_words set)) by_governing

    -- ---- 71 cannot happen; and 70 cannot with accepted pins

    not_among : (k : ℕ) → 69 < k → k < 72 → ((t : ℕ) → pick (not (eqb l.pins.number 0)) 70 t ≡ k → t ≡ k)
        → (rom_read flash_base cs0_base l count (own set address levels) x).number ≡ k → ⊥
    not_among k low high behind e =
        go (beyond_window flash_base cs0_base x) (leb l.served set) (not (eqb (governing l.set_words l.rom_words set).number 0)) (sym by_governing ∙ e)
      where
        last : (a b c d : Bool) → pick a 81 (pick b 2 (pick c 82 (pick d 0 79))) ≡ k → ⊥
        last true b c d h = omega arith
        last false true c d h = omega arith
        last false false true d h = omega arith
        last false false false true h = omega arith
        last false false false false h = omega arith

        at : (offset : ℕ) → number_at offset ≡ k → ⊥
        at offset =
            last (ltb (size_of l.set_words set) (offset + 1)) (not (can_read x (base_after flash_base cs0_base l.line) (data_pointer l.set_words set + offset) 1))
            (ltb 4294967295 (count + 1)) (all_below 8 l.pins.«data»)

        core : (n : ℕ) → ((n ≡ 0 → ⊥) → (72 ≤ n) × (n ≤ 78)) → (t : ℕ) → (t ≡ k → ⊥) → pick (not (eqb n 0)) n t ≡ k → ⊥
        core n r t h i =
            cases (eqb n 0)
            (λ j. h (rw j at i))
            (λ j. let z : n ≡ k = rw j at i in let w = r (eqb-false n 0 j) in omega (arith, w.0))

        go : (a b c : Bool)
            → pick a 1 (pick b 80 (pick c 4 (pick (not (eqb l.pins.number 0)) 70
            (pick (not (eqb (mangled_by_set l set address levels).number 0)) (mangled_by_set l set address levels).number (number_at (mangled_by_set l set address levels).value))))) ≡ k → ⊥
        go true b c h = omega arith
        go false true c h = omega arith
        go false false true h = omega arith
        go false false false h =
            let m = mangled_by_set l set address levels in
            let in_range = mangle_range l.pins (rom_count l.set_words set) (rom_type_of (type_word l.rom_words (first_rom l.set_words set))) address levels in
            let rest = pick (not (eqb m.number 0)) m.number (number_at m.value) in
            core m.number in_range (number_at m.value) (at m.value) (behind rest h)

    pub never_71 : (rom_read flash_base cs0_base l count (own set address levels) x).number ≡ 71 → ⊥
    never_71 = not_among 71 (omega arith) (omega arith) (λ t h. cases (eqb l.pins.number 0) (λ i. rw i at h) (λ i. let z : ◌≡◌ {A = ℕ} 70 71 = rw i at h in absurd (omega arith)))

    pub never_70 : l.pins.number ≡ 0 → (rom_read flash_base cs0_base l count (own set address levels) x).number ≡ 70 → ⊥
    never_70 pins = not_among 70 (omega arith) (omega arith) (λ t h. rw (eq-eqb l.pins.number 0 pins) at h)
