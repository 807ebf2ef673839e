-- The case of each number of the enums of types.rs (document 01, "Info header", "ROM sets and ROM infos", "Pins").
use Rattle.std.specs.Prelude.{ℕ, Bool, true, false, Option, Some, None, List, [], ◌∷◌, get_or}
use Rattle.types.specs.declared.McuLine.{McuLine}
use Rattle.types.specs.declared.McuStorage.{McuStorage}
use Rattle.types.specs.declared.SdrrMcuPort.{SdrrMcuPort}
use Rattle.types.specs.declared.SdrrRomType.{SdrrRomType}

-- line (0..5, 5 = Rp2350)
abbrev pub lines : List McuLine
lines = McuLine.F401DE ∷ McuLine.F405 ∷ McuLine.F411 ∷ McuLine.F446 ∷ McuLine.F401BC ∷ McuLine.Rp2350 ∷ []

unfoldable pub line_of : ℕ → McuLine
line_of n = get_or lines n McuLine.F401DE

unfoldable pub is_rp2350 : McuLine → Bool
is_rp2350 McuLine.F401DE = false
is_rp2350 McuLine.F405 = false
is_rp2350 McuLine.F411 = false
is_rp2350 McuLine.F446 = false
is_rp2350 McuLine.F401BC = false
is_rp2350 McuLine.Rp2350 = true

-- storage (0..7)
abbrev pub storages : List McuStorage
storages = McuStorage.Storage8 ∷ McuStorage.StorageB ∷ McuStorage.StorageC ∷ McuStorage.StorageD ∷ McuStorage.StorageE ∷ McuStorage.StorageF ∷ McuStorage.StorageG ∷ McuStorage.Storage2MB ∷ []

unfoldable pub storage_of : ℕ → McuStorage
storage_of n = get_or storages n McuStorage.Storage8

-- ports (each 0..5); of a number that is none the USB port becomes None, which is 0
abbrev pub ports : List SdrrMcuPort
ports = SdrrMcuPort.None ∷ SdrrMcuPort.PortA ∷ SdrrMcuPort.PortB ∷ SdrrMcuPort.PortC ∷ SdrrMcuPort.PortD ∷ SdrrMcuPort.Port0 ∷ []

unfoldable pub port_of : ℕ → SdrrMcuPort
port_of n = get_or ports n SdrrMcuPort.None

-- type (0..33)
abbrev pub rom_types : List SdrrRomType
rom_types = SdrrRomType.Rom2316 ∷ SdrrRomType.Rom2332 ∷ SdrrRomType.Rom2364 ∷ SdrrRomType.Rom23128 ∷ SdrrRomType.Rom23256 ∷ SdrrRomType.Rom23512 ∷ SdrrRomType.Rom2704 ∷ SdrrRomType.Rom2708 ∷ SdrrRomType.Rom2716 ∷ SdrrRomType.Rom2732 ∷ SdrrRomType.Rom2764 ∷ SdrrRomType.Rom27128 ∷ SdrrRomType.Rom27256 ∷ SdrrRomType.Rom27512 ∷ SdrrRomType.Rom231024 ∷ SdrrRomType.Rom27C010 ∷ SdrrRomType.Rom27C020 ∷ SdrrRomType.Rom27C040 ∷ SdrrRomType.Rom27C080 ∷ SdrrRomType.Rom27C400 ∷ SdrrRomType.Ram6116 ∷ SdrrRomType.Rom27C301 ∷ SdrrRomType.SystemPlugin ∷ SdrrRomType.UserPlugin ∷ SdrrRomType.PioPlugin ∷ SdrrRomType.RomSst39sf040 ∷ SdrrRomType.Rom28C16 ∷ SdrrRomType.Rom28C64 ∷ SdrrRomType.Rom28C256 ∷ SdrrRomType.Rom28C512 ∷ SdrrRomType.Rom23QL512 ∷ SdrrRomType.Rom23QL384 ∷ SdrrRomType.Rom23C1001 ∷ SdrrRomType.Rom27C200 ∷ []

unfoldable pub rom_type_of : ℕ → SdrrRomType
rom_type_of n = get_or rom_types n SdrrRomType.Rom2316

-- a level not given is low
unfoldable pub is_high : Option Bool → Bool
is_high None = false
is_high (Some level) = level
