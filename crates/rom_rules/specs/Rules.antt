-- Document 01, "Mangling": the masks, the control pins and the levels of each type, as in the Rust; 77 and 78.
use Rattle.std.specs.Prelude.{ℕ, Bool, true, false, not, List, [], ◌∷◌, ltb, leb, eqb}
use Rattle.base.specs.Choice.{pick}
use Rattle.type_numbers.specs.TypeNumbers.{rom_type_number}
use Rattle.types.specs.declared.SdrrRomType.{SdrrRomType}
use Rattle.demangle.specs.Bits.{none}

-- what mangling goes by for a type of ROM
pub record TypeRules : Type 0 where
  pub supported : Bool
  pub mask : ℕ
  pub cs1 : ℕ
  pub cs2 : ℕ
  pub cs3 : ℕ
  pub oe : ℕ
  pub ce : ℕ
  pub by_cs1 : ℕ
  pub by_cs2 : ℕ
  pub by_cs3 : ℕ

abbrev pub rules : (mask cs1 cs2 cs3 oe ce by1 by2 by3 : ℕ) → TypeRules
rules m c1 c2 c3 o e b1 b2 b3 =
    record { supported = true; mask = m; cs1 = c1; cs2 = c2; cs3 = c3; oe = o; ce = e; by_cs1 = b1; by_cs2 = b2; by_cs3 = b3 }

abbrev pub unsupported : TypeRules
unsupported =
    record { supported = false; mask = 0; cs1 = none; cs2 = none; cs3 = none; oe = none; ce = none; by_cs1 = none; by_cs2 = none; by_cs3 = none }

-- mask; the input bits that the pins CS1, CS2, CS3, OE, CE go to; the input bits that the levels CS1, CS2, CS3 raise
unfoldable pub rules_of : SdrrRomType → TypeRules
rules_of SdrrRomType.Rom2316 = rules 0x7FF 13 11 12 none none 13 12 11
rules_of SdrrRomType.Rom2332 = rules 0xFFF 13 12 none none none 13 12 none
rules_of SdrrRomType.Rom2364 = rules 0x1FFF 13 none none none none 13 none none
rules_of SdrrRomType.Rom23128 = rules 0x3FFF 16 17 14 none none none none none
rules_of SdrrRomType.Rom23256 = rules 0x7FFF 16 17 none none none none none none
rules_of SdrrRomType.Rom23512 = rules 0xFFFF 16 17 none none none none none none
rules_of SdrrRomType.Rom2704 = unsupported
rules_of SdrrRomType.Rom2708 = unsupported
rules_of SdrrRomType.Rom2716 = rules 0x7FF none none none 13 11 13 12 none
rules_of SdrrRomType.Rom2732 = rules 0xFFF none none none 13 11 13 12 none
rules_of SdrrRomType.Rom2764 = rules 0x1FFF none none none 16 17 none none none
rules_of SdrrRomType.Rom27128 = rules 0x3FFF none none none 16 17 none none none
rules_of SdrrRomType.Rom27256 = rules 0x7FFF none none none 16 17 none none none
rules_of SdrrRomType.Rom27512 = rules 0xFFFF none none none 16 17 none none none
rules_of SdrrRomType.Rom231024 = rules 0x1FFFF 17 none none none none none none none
rules_of SdrrRomType.Rom27C010 = unsupported
rules_of SdrrRomType.Rom27C020 = unsupported
rules_of SdrrRomType.Rom27C040 = unsupported
rules_of SdrrRomType.Rom27C080 = unsupported
rules_of SdrrRomType.Rom27C400 = unsupported
rules_of SdrrRomType.Ram6116 = unsupported
rules_of SdrrRomType.Rom27C301 = unsupported
rules_of SdrrRomType.SystemPlugin = unsupported
rules_of SdrrRomType.UserPlugin = unsupported
rules_of SdrrRomType.PioPlugin = unsupported
rules_of SdrrRomType.RomSst39sf040 = unsupported
rules_of SdrrRomType.Rom28C16 = rules 0x7FF none none none 13 11 none none none
rules_of SdrrRomType.Rom28C64 = rules 0x1FFF none none none 16 17 none none none
rules_of SdrrRomType.Rom28C256 = rules 0x7FFF none none none 16 17 none none none
rules_of SdrrRomType.Rom28C512 = unsupported
rules_of SdrrRomType.Rom23QL512 = unsupported
rules_of SdrrRomType.Rom23QL384 = unsupported
rules_of SdrrRomType.Rom23C1001 = unsupported
rules_of SdrrRomType.Rom27C200 = unsupported

abbrev pub mask : SdrrRomType → ℕ
mask t = (rules_of t).mask

-- the input bits of the control pins, in the order in which they are written: CS1, CS2, CS3, OE, CE
abbrev pub control_bits : SdrrRomType → List ℕ
control_bits t = (rules_of t).cs1 ∷ (rules_of t).cs2 ∷ (rules_of t).cs3 ∷ (rules_of t).oe ∷ (rules_of t).ce ∷ []

-- 78
abbrev pub is_28c16 : SdrrRomType → Bool
is_28c16 t = eqb (rom_type_number t) 26

-- several ROMs
abbrev pub several : ℕ → Bool
several count = leb 2 count

-- the input bits that the levels raise: CS1, CS2, CS3 and, with several ROMs, X1 and X2
unfoldable pub drives : SdrrRomType → ℕ → List ℕ
drives t count =
    (rules_of t).by_cs1 ∷ (rules_of t).by_cs2 ∷ (rules_of t).by_cs3 ∷ pick (several count) 14 none ∷ pick (several count) 15 none ∷ []

-- 77: address above the mask
abbrev pub above_mask : SdrrRomType → ℕ → Bool
above_mask type address = ltb (mask type) address

-- 72 to 76 are the map's number n; 77 and 78 come after it
unfoldable pub mangle_number : ℕ → SdrrRomType → ℕ → ℕ
mangle_number n type address = pick (not (eqb n 0)) n (pick (above_mask type address) 77 (pick (is_28c16 type) 78 0))
