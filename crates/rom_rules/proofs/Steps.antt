-- 78: the type is a 28C16.
-- Assumes nothing.
use Rattle.std.specs.Prelude.{◌≡◌, refl, true, false}
use Rattle.std.proofs.Common.{ap}
use Rattle.type_numbers.specs.TypeNumbers.{rom_type_number}
use Rattle.types.specs.declared.SdrrRomType.{SdrrRomType}
use Rattle.rom_rules.specs.Rules.{is_28c16}

pub is_16 : (t : SdrrRomType) → t ≡ SdrrRomType.Rom28C16 → is_28c16 t ≡ true
unfolding rom_type_number
is_16 t e = ap is_28c16 e

pub no_16 : (t : SdrrRomType) → (t ≡ SdrrRomType.Rom28C16 → ⊥) → is_28c16 t ≡ false
unfolding rom_type_number
no_16 SdrrRomType.Rom28C16 n = absurd (n refl)
no_16 _ n = refl
