-- The case of a case's number is that case.
-- Assumes nothing.
use Rattle.std.specs.Prelude.{◌≡◌, refl}
use Rattle.types.specs.declared.McuLine.{McuLine}
use Rattle.types.specs.declared.McuStorage.{McuStorage}
use Rattle.types.specs.declared.SdrrMcuPort.{SdrrMcuPort}
use Rattle.types.specs.declared.SdrrRomType.{SdrrRomType}
use Rattle.types.specs.Types.{line_of, storage_of, port_of, rom_type_of}
use Rattle.type_numbers.specs.TypeNumbers.{line_number, storage_number, port_number, rom_type_number}

pub line_again : (v : McuLine) → line_of (line_number v) ≡ v
unfolding line_of
line_again McuLine.F401DE = refl
line_again McuLine.F405 = refl
line_again McuLine.F411 = refl
line_again McuLine.F446 = refl
line_again McuLine.F401BC = refl
line_again McuLine.Rp2350 = refl

pub storage_again : (v : McuStorage) → storage_of (storage_number v) ≡ v
unfolding storage_of
storage_again McuStorage.Storage8 = refl
storage_again McuStorage.StorageB = refl
storage_again McuStorage.StorageC = refl
storage_again McuStorage.StorageD = refl
storage_again McuStorage.StorageE = refl
storage_again McuStorage.StorageF = refl
storage_again McuStorage.StorageG = refl
storage_again McuStorage.Storage2MB = refl

pub port_again : (v : SdrrMcuPort) → port_of (port_number v) ≡ v
unfolding port_of
port_again SdrrMcuPort.None = refl
port_again SdrrMcuPort.PortA = refl
port_again SdrrMcuPort.PortB = refl
port_again SdrrMcuPort.PortC = refl
port_again SdrrMcuPort.PortD = refl
port_again SdrrMcuPort.Port0 = refl

pub rom_type_again : (v : SdrrRomType) → rom_type_of (rom_type_number v) ≡ v
unfolding rom_type_of rom_type_number
rom_type_again SdrrRomType.Rom2316 = refl
rom_type_again SdrrRomType.Rom2332 = refl
rom_type_again SdrrRomType.Rom2364 = refl
rom_type_again SdrrRomType.Rom23128 = refl
rom_type_again SdrrRomType.Rom23256 = refl
rom_type_again SdrrRomType.Rom23512 = refl
rom_type_again SdrrRomType.Rom2704 = refl
rom_type_again SdrrRomType.Rom2708 = refl
rom_type_again SdrrRomType.Rom2716 = refl
rom_type_again SdrrRomType.Rom2732 = refl
rom_type_again SdrrRomType.Rom2764 = refl
rom_type_again SdrrRomType.Rom27128 = refl
rom_type_again SdrrRomType.Rom27256 = refl
rom_type_again SdrrRomType.Rom27512 = refl
rom_type_again SdrrRomType.Rom231024 = refl
rom_type_again SdrrRomType.Rom27C010 = refl
rom_type_again SdrrRomType.Rom27C020 = refl
rom_type_again SdrrRomType.Rom27C040 = refl
rom_type_again SdrrRomType.Rom27C080 = refl
rom_type_again SdrrRomType.Rom27C400 = refl
rom_type_again SdrrRomType.Ram6116 = refl
rom_type_again SdrrRomType.Rom27C301 = refl
rom_type_again SdrrRomType.SystemPlugin = refl
rom_type_again SdrrRomType.UserPlugin = refl
rom_type_again SdrrRomType.PioPlugin = refl
rom_type_again SdrrRomType.RomSst39sf040 = refl
rom_type_again SdrrRomType.Rom28C16 = refl
rom_type_again SdrrRomType.Rom28C64 = refl
rom_type_again SdrrRomType.Rom28C256 = refl
rom_type_again SdrrRomType.Rom28C512 = refl
rom_type_again SdrrRomType.Rom23QL512 = refl
rom_type_again SdrrRomType.Rom23QL384 = refl
rom_type_again SdrrRomType.Rom23C1001 = refl
rom_type_again SdrrRomType.Rom27C200 = refl
