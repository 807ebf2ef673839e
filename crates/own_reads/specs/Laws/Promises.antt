-- Document 02, wish 1: what an accepted byte by the set's own ROMs is, and 74 of the named set.
-- Assumes nothing.
use Rattle.std.specs.Prelude.{ℕ, ◌<◌, ◌≡◌, refl, true, false, List, eqb, get_or}
use Rattle.std.proofs.Common.{arith, sym, ap, ◌∙◌, eqb-true}
use Rattle.std.proofs.lemmas.Bool.{eqb-false, lt-leb}
use Rattle.base.specs.Laws.{cases}
use Rattle.types.specs.declared.SdrrCsSet.{SdrrCsSet}
use Rattle.window.specs.Window.{beyond_window}
use Rattle.rows.specs.LentRows.{has_set_row, rom_count}
use Rattle.mangle.specs.Mangle.{Mangled}
use Rattle.governing.specs.Governing.{GoverningSet, governing, governing_own}
use Rattle.info.specs.declared.SdrrAddress.{SdrrAddress}
use Rattle.info.specs.Lent.{Lent, unmangled, mangle_own, demangle_byte}
use Rattle.info.specs.Reads.{byte, own, own_physical, Reply, refused_reply, rom_read}
use Rattle.info.proofs.Laws.Steps.{mangled_governed}
use Rattle.info.proofs.Laws.Calls.{place, read_beyond}
use Rattle.byte_reads.specs.declared.ByteRead.{ByteRead}
use Rattle.byte_reads.specs.Calls.{byte_of}
use Rattle.byte_reads.specs.Code.{shown_from}
use Rattle.byte_reads.specs.Laws.Steps.{byte_demangled, shown_refused}
use Rattle.byte_reads.specs.Laws.Promises.{accepted_byte, accepted_demangled}
use Rattle.own_reads.specs.Laws.Steps.{accepted, own_at_offset, own_unmangled}
use Rattle.own_reads.specs.Laws.Numbers.{mangled_by_set, leads_on, leads_without_rom}

module _ (flash_base cs0_base : ℕ) (l : Lent) (count : ℕ) (x : List ℕ) (set address : ℕ) (levels : SdrrCsSet) where
  abbrev reply : Reply
  reply = rom_read flash_base cs0_base l count (own set address levels) x

  -- an accepted read has an accepted mangling
  mangling_accepted : reply.number ≡ 0 → (own_physical l set address levels).number ≡ 0
  mangling_accepted e =
      let m = own_physical l set address levels in
      cases (eqb m.number 0)
      (λ h. eqb-true m.number 0 h)
      (λ h.
      let none = eqb-false m.number 0 h in
      cases (beyond_window flash_base cs0_base x)
      (λ i. let z : ◌≡◌ {A = ℕ} 1 0 = ap (λ (r : Reply). r.number) (sym (read_beyond flash_base cs0_base l count x (own set address levels) i)) ∙ e in absurd (omega arith))
      (λ i. absurd (none (ap (λ (r : Reply). r.number) (sym (own_unmangled flash_base cs0_base l count x set address levels m refl i none)) ∙ e))))

  governs : (own_physical l set address levels).number ≡ 0 → (governing_own l.pins.number l.served l.set_words l.rom_words set).number ≡ 0
  unfolding mangle_own
  governs e = mangled_governed (governing_own l.pins.number l.served l.set_words l.rom_words set) l.pins address levels e

  -- an accepted demangled read had an accepted raw one
  raw_accepted : (a : SdrrAddress) → (rom_read flash_base cs0_base l count (byte set a true) x).number ≡ 0 → (rom_read flash_base cs0_base l count (byte set a false) x).number ≡ 0
  raw_accepted a e =
      let raw = byte_of (rom_read flash_base cs0_base l count (byte set a false) x) in
      let law = byte_demangled flash_base cs0_base l count x set a raw refl (shown_from l.pins.number l.pins.«data» raw count) refl in
      cases (eqb raw.number 0)
      (λ h. eqb-true raw.number 0 h)
      (λ h.
      let none = eqb-false raw.number 0 h in
      absurd (none (ap (λ (b : ByteRead). b.number) (sym (shown_refused l.pins.number l.pins.«data» raw count none) ∙ law) ∙ e)))

  -- an accepted byte is the image's at the offset that the named set's ROM count and first type lead to, demangled
  pub accepted_own : reply.number ≡ 0
      → (byte_of reply).byte ≡ (demangle_byte l.pins (get_or x (place flash_base cs0_base l set (mangled_by_set l set address levels).value) 0)).value
  accepted_own e =
      let m = own_physical l set address levels in
      let z = mangling_accepted e in
      let a = SdrrAddress.Raw m.value in
      let same = own_at_offset flash_base cs0_base l count x set address levels m refl z in
      let read = ap (λ (r : Reply). r.number) (sym same) ∙ e in
      let g = accepted flash_base cs0_base l count x set address levels m refl z in
      let lent : (governing l.set_words l.rom_words set).number ≡ 0 = ap (λ (t : GoverningSet). t.number) (sym g.its_own) ∙ governs z in
      let on = leads_on l set address levels g.served_set lent g.accepted_pins in
      ap (λ (r : Reply). (byte_of r).byte) same
      ∙ accepted_demangled flash_base cs0_base l x count set a read
      ∙ ap (λ (b : ℕ). (demangle_byte l.pins b).value)
      (accepted_byte flash_base cs0_base l x count set a (raw_accepted a read) ∙ ap (λ (t : Mangled). get_or x (place flash_base cs0_base l set t.value) 0) on)

  -- 74 is about the named set, whose ROM rows are not needed then
  pub own_74 : beyond_window flash_base cs0_base x ≡ false → set < l.served → has_set_row l.set_words set ≡ true → rom_count l.set_words set ≡ 0 → l.pins.number ≡ 0
      → reply ≡ refused_reply 74 count
  own_74 inside there row none pins =
      let m : own_physical l set address levels ≡ unmangled 74 = leads_without_rom l set address levels none ∙ rw (lt-leb l.served set there, row, pins) in
      own_unmangled flash_base cs0_base l count x set address levels (unmangled 74) (sym m) inside (λ (z : ◌≡◌ {A = ℕ} 74 0). omega arith)
