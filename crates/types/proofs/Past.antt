-- A number past the last has the first ROM type.
-- Assumes nothing.
use Rattle.std.specs.Prelude.{ℕ, ◌≡◌, ◌<◌}
use Rattle.std.proofs.Common.{arith}
use Rattle.std.proofs.lemmas.List.{get_or_past}
use Rattle.types.specs.declared.SdrrRomType.{SdrrRomType}
use Rattle.types.specs.Types.{rom_types, rom_type_of}

pub no_rom_type : (n : ℕ) → 33 < n → rom_type_of n ≡ SdrrRomType.Rom2316
unfolding rom_type_of
no_rom_type n h = get_or_past rom_types n SdrrRomType.Rom2316 (omega arith)
