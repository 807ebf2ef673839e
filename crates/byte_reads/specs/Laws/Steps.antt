-- The byte reads, outcome by outcome: what the proofs of the code cite.
-- Assumes nothing.
use Rattle.std.specs.Prelude.{ℕ, ◌+◌, ◌-◌, ◌≤◌, ◌<◌, true, false, not, List, ltb, eqb}
use Rattle.std.proofs.Common.{arith, add-zero, ◌∙◌}
use Rattle.std.proofs.Math.Path.{◌≡◌, refl, sym, ap}
use Rattle.std.proofs.Math.ListN.{get_or}
use borrow.Author.Tests.{lt-ltb, le-ltb, eqb-true, eqb-false, eq-eqb, ne_eqb}
use Rattle.base.specs.Laws.{cases}
use Rattle.base.specs.Choice.{pick}
use Rattle.window.specs.Window.{base_after, beyond_window}
use Rattle.window.specs.Laws.{part_at}
use Rattle.prog.specs.Prog.{run}
use Rattle.prog.proofs.Laws.Run.{run_done}
use Rattle.mangle.specs.Mangle.{Mangled}
use Rattle.info.specs.declared.SdrrAddress.{SdrrAddress}
use Rattle.info.specs.Lent.{Lent, demangled_by, demangle_byte}
use Rattle.info.specs.Reads.{Bytes, no_bytes, count_number, shown_byte, byte, physical, byte_p, stored_p, finished, read_reply, rom_read}
use Rattle.set_data.specs.declared.SetData.{SetData}
use Rattle.set_data.specs.declared.Found.{Found}
use Rattle.set_data.specs.Code.{set_data, found_of}
use Rattle.info.proofs.Laws.Calls.{read_beyond, read_within}
use Rattle.set_data.specs.Laws.{found_stands, bytes_at, data_found}
use Rattle.byte_reads.specs.declared.ByteRead.{ByteRead}
use Rattle.byte_reads.specs.Calls.{byte_of}
use Rattle.byte_reads.specs.Code.{no_byte, stored_byte, byte_at, physical_by, shown_from}

-- ---- a byte, raw

module _ (x : List ℕ) (base : ℕ) (d : SetData) (m : Mangled) (count : ℕ) where
  pub stored_unmangled : (m.number ≡ 0 → ⊥) → stored_byte x base d m count ≡ no_byte m.number count
  unfolding stored_byte
  stored_unmangled h = rw (ne_eqb m.number 0 h)

  module _ (mangled : m.number ≡ 0) (f : Found) (e : f ≡ found_of x base d m.value 1) where
    pub stored_refused : (f.number ≡ 0 → ⊥) → stored_byte x base d m count ≡ no_byte f.number count
    unfolding stored_byte
    stored_refused h = rw (eq-eqb m.number 0 mangled, ← e, ne_eqb f.number 0 h)

    pub stored_82 : f.number ≡ 0 → 4294967295 < count + 1 → stored_byte x base d m count ≡ no_byte 82 count
    unfolding stored_byte
    stored_82 h i = rw (eq-eqb m.number 0 mangled, ← e, eq-eqb f.number 0 h, lt-ltb 4294967295 (count + 1) i)

    pub stored_read : f.number ≡ 0 → count + 1 ≤ 4294967295 → stored_byte x base d m count ≡ record { number = 0; byte = get_or x f.at 0; count = count + 1 }
    unfolding stored_byte
    stored_read h i = rw (eq-eqb m.number 0 mangled, ← e, eq-eqb f.number 0 h, le-ltb 4294967295 (count + 1) i)

  -- an accepted byte is the image's
  pub stored_at : (stored_byte x base d m count).number ≡ 0 → (stored_byte x base d m count).byte ≡ get_or x (d.pointer + m.value - base) 0
  unfolding stored_byte
  stored_at e =
      let f = found_of x base d m.value 1 in
      cases (eqb m.number 0)
      (λ h.
      cases (eqb f.number 0)
      (λ i.
      cases (ltb 4294967295 (count + 1)) (λ j. let y : ◌≡◌ {A = ℕ} 82 0 = rw (h, i, j) at e in absurd (omega arith))
      (λ j. rw (h, i, j) (ap (λ (k : ℕ). get_or x k 0) (found_stands x base d m.value 1 f refl (eqb-true f.number 0 i)).starts)))
      (λ i. absurd (eqb-false f.number 0 i (rw (h, i) at e))))
      (λ h. absurd (eqb-false m.number 0 h (rw h at e)))

-- a byte that was read from the image, or a number: then 82
abbrev raw_of : ℕ → Bytes → ByteRead
raw_of count b =
    pick (not (eqb b.number 0)) (record { number = b.number; byte = get_or b.bytes 0 0; count = count })
    (pick (ltb 4294967295 (count + 1)) (no_byte 82 count) (record { number = b.number; byte = get_or b.bytes 0 0; count = count + 1 }))

module _ (l : Lent) (count set : ℕ) (a : SdrrAddress) (b : Bytes) where
  finish_raw : byte_of (read_reply count (byte set a false) (finished l count (byte set a false) b)) ≡ raw_of count b
  unfolding finished count_number shown_byte
  finish_raw =
      cases (eqb b.number 0)
      (λ h. cases (ltb 4294967295 (count + 1)) (λ i. simp (h, i)) (λ i. simp (h, i)))
      (λ h. simp h)

  finish_shown : byte_of (read_reply count (byte set a true) (finished l count (byte set a true) b)) ≡ shown_from l.pins.number l.pins.«data» (raw_of count b) count
  unfolding finished count_number shown_byte shown_from demangle_byte
  finish_shown =
      cases (eqb b.number 0)
      (λ h.
      cases (ltb 4294967295 (count + 1)) (λ i. simp (h, i))
      (λ i. cases (eqb (demangle_byte l.pins (get_or b.bytes 0 0)).number 0) (λ j. simp (h, i, j)) (λ j. simp (h, i, j))))
      (λ h. simp h)

-- the byte at a mangled address
stored_run : (x : List ℕ) (base : ℕ) (l : Lent) (set : ℕ) (m : Mangled) (count : ℕ) → raw_of count (run (byte_p base l set m) x) ≡ stored_byte x base (set_data l.served l.set_words set) m count
unfolding stored_byte
stored_run x base l set m count =
    cases (eqb m.number 0)
    (λ h. rw (h, data_found x base l.served l.set_words set m.value 1) (go (found_of x base (set_data l.served l.set_words set) m.value 1)))
    (λ h. rw (h, run_done x (no_bytes m.number), h))
  where
    go : (f : Found) → raw_of count (bytes_at x 1 f)
        ≡ pick (not (eqb f.number 0)) (no_byte f.number count)
        (pick (ltb 4294967295 (count + 1)) (no_byte 82 count) (record { number = 0; byte = get_or x f.at 0; count = count + 1 }))
    go f = cases (eqb f.number 0) (λ h. rw h (rw (part_at f.at 1 x 0 (omega arith), add-zero f.at))) (λ h. rw (h, h))

pub by_address : (l : Lent) (a : SdrrAddress) → physical_by l.pins l.served l.set_words l.rom_words a ≡ physical l a
by_address l (SdrrAddress.Raw offset) = refl
by_address l (SdrrAddress.Logical address levels) = refl

module _ (flash_base cs0_base : ℕ) (l : Lent) (count : ℕ) (x : List ℕ) (set : ℕ) (a : SdrrAddress) where
  pub stored_raw : beyond_window flash_base cs0_base x ≡ false
      → stored_byte x (base_after flash_base cs0_base l.line) (set_data l.served l.set_words set) (physical l a) count ≡ byte_of (rom_read flash_base cs0_base l count (byte set a false) x)
  unfolding stored_p
  stored_raw h =
      sym
      (ap byte_of (read_within flash_base cs0_base l count x (byte set a false) h)
      ∙ finish_raw l count set a _
      ∙ stored_run x (base_after flash_base cs0_base l.line) l set (physical l a) count)

  at_physical : byte_at flash_base cs0_base l.line l.served l.set_words set (physical l a) count x ≡ byte_of (rom_read flash_base cs0_base l count (byte set a false) x)
  unfolding byte_at
  at_physical =
      cases (beyond_window flash_base cs0_base x)
      (λ h. rw h (sym (ap byte_of (read_beyond flash_base cs0_base l count x (byte set a false) h))))
      (λ h. rw h (stored_raw h))

  -- a raw byte as the code has read it, by the address as it has mangled it
  pub byte_raw : (m : Mangled) → m ≡ physical_by l.pins l.served l.set_words l.rom_words a
      → (r : ByteRead) → r ≡ byte_at flash_base cs0_base l.line l.served l.set_words set m count x
      → r ≡ byte_of (rom_read flash_base cs0_base l count (byte set a false) x)
  byte_raw m mangled r e =
      e
      ∙ ap (λ (n : Mangled). byte_at flash_base cs0_base l.line l.served l.set_words set n count x) (mangled ∙ by_address l a)
      ∙ at_physical

  byte_shown : byte_of (rom_read flash_base cs0_base l count (byte set a true) x) ≡ shown_from l.pins.number l.pins.«data» (byte_of (rom_read flash_base cs0_base l count (byte set a false) x)) count
  unfolding stored_p shown_from
  byte_shown =
      cases (beyond_window flash_base cs0_base x)
      (λ h. rw (read_beyond flash_base cs0_base l count x (byte set a true) h, read_beyond flash_base cs0_base l count x (byte set a false) h))
      (λ h.
      ap byte_of (read_within flash_base cs0_base l count x (byte set a true) h)
      ∙ finish_shown l count set a _
      ∙ ap (λ (r : ByteRead). shown_from l.pins.number l.pins.«data» r count) (sym (ap byte_of (read_within flash_base cs0_base l count x (byte set a false) h) ∙ finish_raw l count set a _)))

  -- a demangled byte as the code has it, from the raw one
  pub byte_demangled : (raw : ByteRead) → raw ≡ byte_of (rom_read flash_base cs0_base l count (byte set a false) x) → (r : ByteRead) → r ≡ shown_from l.pins.number l.pins.«data» raw count
      → r ≡ byte_of (rom_read flash_base cs0_base l count (byte set a true) x)
  byte_demangled raw v r e = e ∙ rw v (sym byte_shown)

-- ---- a byte, demangled

module _ (number : ℕ) (data_pins : List ℕ) (raw : ByteRead) (count : ℕ) where
  pub shown_refused : (raw.number ≡ 0 → ⊥) → shown_from number data_pins raw count ≡ raw
  unfolding shown_from
  shown_refused h = rw (ne_eqb raw.number 0 h)

  module _ (read : raw.number ≡ 0) where
    pub shown_79 : ((demangled_by number data_pins raw.byte).number ≡ 0 → ⊥) → shown_from number data_pins raw count ≡ no_byte (demangled_by number data_pins raw.byte).number count
    unfolding shown_from
    shown_79 h = rw (eq-eqb raw.number 0 read, ne_eqb (demangled_by number data_pins raw.byte).number 0 h)

    pub shown_demangled : (demangled_by number data_pins raw.byte).number ≡ 0
        → shown_from number data_pins raw count ≡ record { number = 0; byte = (demangled_by number data_pins raw.byte).value; count = raw.count }
    unfolding shown_from
    shown_demangled h = rw (eq-eqb raw.number 0 read, eq-eqb (demangled_by number data_pins raw.byte).number 0 h)

  pub shown_value : (shown_from number data_pins raw count).number ≡ 0 → (shown_from number data_pins raw count).byte ≡ (demangled_by number data_pins raw.byte).value
  unfolding shown_from
  shown_value e =
      let v = demangled_by number data_pins raw.byte in
      cases (eqb raw.number 0)
      (λ h. cases (eqb v.number 0) (λ i. rw (h, i)) (λ i. absurd (eqb-false v.number 0 i (rw (h, i) at e))))
      (λ h. absurd (eqb-false raw.number 0 h (rw h at e)))
