-- Document 01, the byte reads: what a caller may count on. `rom_read` is what each call replies by (`byte_of`).
-- Assumes nothing.
use Rattle.std.specs.Prelude.{ℕ, ◌≡◌, true, false, List, get_or}
use Rattle.std.proofs.Common.{arith, sym, ◌∙◌}
use Rattle.std.proofs.Math.Path.{refl, ap}
use Rattle.base.specs.Laws.{cases}
use Rattle.window.specs.Window.{base_after, beyond_window}
use Rattle.info.specs.declared.SdrrAddress.{SdrrAddress}
use Rattle.info.specs.Lent.{Lent, demangle_byte}
use Rattle.info.specs.Reads.{byte, physical, rom_read}
use Rattle.set_data.specs.Code.{set_data}
use Rattle.info.proofs.Laws.Calls.{place, read_beyond}
use Rattle.byte_reads.specs.declared.ByteRead.{ByteRead}
use Rattle.byte_reads.specs.Calls.{byte_of}
use Rattle.byte_reads.specs.Code.{shown_from}
use Rattle.byte_reads.specs.Laws.Steps.{stored_raw, byte_demangled, stored_at, shown_value}

module _ (flash_base cs0_base : ℕ) (l : Lent) (x : List ℕ) where
  -- ---- an accepted byte is the image's, at the mangled address; demangled, it is what the data pins make of that

  module _ (count set : ℕ) (a : SdrrAddress) where
    pub accepted_byte : (byte_of (rom_read flash_base cs0_base l count (byte set a false) x)).number ≡ 0
        → (byte_of (rom_read flash_base cs0_base l count (byte set a false) x)).byte ≡ get_or x (place flash_base cs0_base l set (physical l a).value) 0
    accepted_byte e =
        cases (beyond_window flash_base cs0_base x)
        (λ h. let z : ◌≡◌ {A = ℕ} 1 0 = rw (read_beyond flash_base cs0_base l count x (byte set a false) h) at e in absurd (omega arith))
        (λ h.
        let base = base_after flash_base cs0_base l.line in
        let d = set_data l.served l.set_words set in
        let law = stored_raw flash_base cs0_base l count x set a h in
        ap (λ (b : ByteRead). b.byte) (sym law) ∙ stored_at x base d (physical l a) count (ap (λ (b : ByteRead). b.number) law ∙ e))

    pub accepted_demangled : (byte_of (rom_read flash_base cs0_base l count (byte set a true) x)).number ≡ 0
        → (byte_of (rom_read flash_base cs0_base l count (byte set a true) x)).byte ≡ (demangle_byte l.pins (byte_of (rom_read flash_base cs0_base l count (byte set a false) x)).byte).value
    unfolding demangle_byte
    accepted_demangled e =
        let raw = byte_of (rom_read flash_base cs0_base l count (byte set a false) x) in
        let law = byte_demangled flash_base cs0_base l count x set a raw refl (shown_from l.pins.number l.pins.«data» raw count) refl in
        ap (λ (b : ByteRead). b.byte) (sym law) ∙ shown_value l.pins.number l.pins.«data» raw count (ap (λ (b : ByteRead). b.number) law ∙ e)
