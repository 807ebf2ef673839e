-- The read by the set's own ROMs, outcome by outcome: what the proofs of the code cite.
-- Assumes nothing.
use Rattle.std.specs.Prelude.{ℕ, false, List, eqb}
use Rattle.std.proofs.Common.{arith, ap, ◌∙◌}
use Rattle.std.proofs.Math.Path.{◌≡◌, refl, sym}
use Rattle.std.proofs.Math.Bool.{true}
use borrow.Author.Tests.{eqb-true, eqb-false, ne_eqb}
use Rattle.base.specs.Laws.{cases}
use Rattle.base.specs.Choice.{pick}
use Rattle.types.specs.declared.SdrrCsSet.{SdrrCsSet}
use Rattle.window.specs.Window.{base_after, beyond_window}
use Rattle.prog.specs.Prog.{map_p, run}
use Rattle.prog.proofs.Laws.Run.{run_done, run_map}
use Rattle.mangle.specs.Mangle.{Mangled}
use Rattle.governing.proofs.Laws.{Governs}
use Rattle.info.specs.declared.SdrrAddress.{SdrrAddress}
use Rattle.info.specs.Lent.{Lent}
use Rattle.info.specs.Reads.{no_bytes, byte, own, physical, own_physical, byte_p, stored_p, finished, read_p, Reply, read_reply, refused_reply, rom_read}
use Rattle.info.proofs.Laws.Steps.{own_accepted}
use Rattle.info.proofs.Laws.Calls.{read_beyond}
use Rattle.byte_reads.specs.declared.ByteRead.{ByteRead}
use Rattle.byte_reads.specs.Calls.{byte_of}
use Rattle.byte_reads.specs.Code.{no_byte, byte_at, shown_from}
use Rattle.byte_reads.specs.Laws.Steps.{stored_unmangled, byte_raw, byte_demangled, shown_refused}

module _ (flash_base cs0_base : ℕ) (l : Lent) (count : ℕ) (x : List ℕ) (set : ℕ) where
  -- the demangled byte at an address that mangling has led to, whatever governed it
  through : Mangled → Reply
  through m =
      let r = byte set (SdrrAddress.Raw 0) true in
      pick (beyond_window flash_base cs0_base x) (refused_reply 1 count)
      (read_reply count r (run (map_p (finished l count r) (byte_p (base_after flash_base cs0_base l.line) l set m)) x))

  through_refused : (m : Mangled) → beyond_window flash_base cs0_base x ≡ false → (m.number ≡ 0 → ⊥) → through m ≡ refused_reply m.number count
  unfolding through finished
  through_refused m inside h =
      let r = byte set (SdrrAddress.Raw 0) true in
      let e = ne_eqb m.number 0 h in
      rw inside
      (ap (read_reply count r) (run_map x (finished l count r) (byte_p (base_after flash_base cs0_base l.line) l set m))
      ∙ rw (e, run_done x (no_bytes m.number)) (simp e))

  module _ (a : SdrrAddress) where
    byte_through : rom_read flash_base cs0_base l count (byte set a true) x ≡ through (physical l a)
    unfolding through rom_read read_p stored_p finished
    byte_through = refl

    -- the old read, where its mangling is refused
    pub byte_unmangled : beyond_window flash_base cs0_base x ≡ false → ((physical l a).number ≡ 0 → ⊥)
        → rom_read flash_base cs0_base l count (byte set a true) x ≡ refused_reply (physical l a).number count
    byte_unmangled inside h = byte_through ∙ through_refused (physical l a) inside h

  module _ (address : ℕ) (levels : SdrrCsSet) where
    own_through : rom_read flash_base cs0_base l count (own set address levels) x ≡ through (own_physical l set address levels)
    unfolding through rom_read read_p stored_p finished
    own_through = refl

    -- where both manglings lead alike, both reads reply alike
    pub own_as_byte : (a : SdrrAddress) → own_physical l set address levels ≡ physical l a
        → rom_read flash_base cs0_base l count (own set address levels) x ≡ rom_read flash_base cs0_base l count (byte set a true) x
    own_as_byte a e = own_through ∙ ap through e ∙ sym (byte_through a)

    module _ (m : Mangled) (mangled : m ≡ own_physical l set address levels) where
      pub accepted : m.number ≡ 0 → Governs l.pins.number l.served l.set_words l.rom_words set
      accepted e = own_accepted l.pins l.served l.set_words l.rom_words set address levels (ap (λ (t : Mangled). t.number) (sym mangled) ∙ e)

      -- an accepted mangling leads to an offset: the reply is that of the demangled read there
      pub own_at_offset : m.number ≡ 0
          → rom_read flash_base cs0_base l count (own set address levels) x ≡ rom_read flash_base cs0_base l count (byte set (SdrrAddress.Raw m.value) true) x
      own_at_offset e =
          own_as_byte (SdrrAddress.Raw m.value) (sym mangled ∙ ap (λ (n : ℕ). record { number = n; value = m.value }) e)

      -- a refused one is the reply
      pub own_unmangled : beyond_window flash_base cs0_base x ≡ false → (m.number ≡ 0 → ⊥)
          → rom_read flash_base cs0_base l count (own set address levels) x ≡ refused_reply m.number count
      own_unmangled inside h = own_through ∙ ap through (sym mangled) ∙ through_refused m inside h

      -- as the code has it: by the address as it has mangled it, the byte that stands there, and that demangled
      module _ (raw : ByteRead) (stored : raw ≡ byte_at flash_base cs0_base l.line l.served l.set_words set m count x)
          (r : ByteRead) (shown : r ≡ shown_from 0 l.pins.«data» raw count) where
        kept : (n : ℕ) → raw ≡ no_byte n count → (n ≡ 0 → ⊥) → r ≡ no_byte n count
        kept n e h =
            shown ∙ shown_refused 0 l.pins.«data» raw count (λ (z : raw.number ≡ 0). h (ap (λ (b : ByteRead). b.number) (sym e) ∙ z)) ∙ e

        refused_alike : (m.number ≡ 0 → ⊥) → r ≡ byte_of (rom_read flash_base cs0_base l count (own set address levels) x)
        unfolding byte_at
        refused_alike h =
            cases (beyond_window flash_base cs0_base x)
            (λ i. kept 1 (stored ∙ rw i) (λ (z : ◌≡◌ {A = ℕ} 1 0). omega arith) ∙ sym (ap byte_of (read_beyond flash_base cs0_base l count x (own set address levels) i)))
            (λ i. kept m.number (stored ∙ rw i (stored_unmangled x _ _ m count h)) h ∙ sym (ap byte_of (own_unmangled i h)))

        accepted_alike : m.number ≡ 0 → r ≡ byte_of (rom_read flash_base cs0_base l count (own set address levels) x)
        accepted_alike e =
            let a = SdrrAddress.Raw m.value in
            let pins : shown_from 0 l.pins.«data» raw count ≡ shown_from l.pins.number l.pins.«data» raw count =
            ap (λ (n : ℕ). shown_from n l.pins.«data» raw count) (sym (accepted e).accepted_pins) in
            let first = byte_raw flash_base cs0_base l count x set a m (ap (λ (n : ℕ). record { number = n; value = m.value }) e) raw stored in
            byte_demangled flash_base cs0_base l count x set a raw first r (shown ∙ pins) ∙ sym (ap byte_of (own_at_offset e))

        pub byte_own : r ≡ byte_of (rom_read flash_base cs0_base l count (own set address levels) x)
        byte_own = cases (eqb m.number 0) (λ h. accepted_alike (eqb-true m.number 0 h)) (λ h. refused_alike (eqb-false m.number 0 h))
