-- The number of each case of the enums of types.rs (document 01, "Info header", "ROM sets and ROM infos", "Pins").
use Rattle.std.specs.Prelude.{ℕ}
use Rattle.types.specs.declared.McuLine.{McuLine}
use Rattle.types.specs.declared.McuStorage.{McuStorage}
use Rattle.types.specs.declared.SdrrMcuPort.{SdrrMcuPort}
use Rattle.types.specs.declared.SdrrRomType.{SdrrRomType}

-- line (0..5, 5 = Rp2350)
abbrev pub line_number : McuLine → ℕ
line_number McuLine.F401DE = 0
line_number McuLine.F405 = 1
line_number McuLine.F411 = 2
line_number McuLine.F446 = 3
line_number McuLine.F401BC = 4
line_number McuLine.Rp2350 = 5

-- storage (0..7)
abbrev pub storage_number : McuStorage → ℕ
storage_number McuStorage.Storage8 = 0
storage_number McuStorage.StorageB = 1
storage_number McuStorage.StorageC = 2
storage_number McuStorage.StorageD = 3
storage_number McuStorage.StorageE = 4
storage_number McuStorage.StorageF = 5
storage_number McuStorage.StorageG = 6
storage_number McuStorage.Storage2MB = 7

-- ports (each 0..5)
abbrev pub port_number : SdrrMcuPort → ℕ
port_number SdrrMcuPort.None = 0
port_number SdrrMcuPort.PortA = 1
port_number SdrrMcuPort.PortB = 2
port_number SdrrMcuPort.PortC = 3
port_number SdrrMcuPort.PortD = 4
port_number SdrrMcuPort.Port0 = 5

-- type (0..33)
unfoldable pub rom_type_number : SdrrRomType → ℕ
rom_type_number SdrrRomType.Rom2316 = 0
rom_type_number SdrrRomType.Rom2332 = 1
rom_type_number SdrrRomType.Rom2364 = 2
rom_type_number SdrrRomType.Rom23128 = 3
rom_type_number SdrrRomType.Rom23256 = 4
rom_type_number SdrrRomType.Rom23512 = 5
rom_type_number SdrrRomType.Rom2704 = 6
rom_type_number SdrrRomType.Rom2708 = 7
rom_type_number SdrrRomType.Rom2716 = 8
rom_type_number SdrrRomType.Rom2732 = 9
rom_type_number SdrrRomType.Rom2764 = 10
rom_type_number SdrrRomType.Rom27128 = 11
rom_type_number SdrrRomType.Rom27256 = 12
rom_type_number SdrrRomType.Rom27512 = 13
rom_type_number SdrrRomType.Rom231024 = 14
rom_type_number SdrrRomType.Rom27C010 = 15
rom_type_number SdrrRomType.Rom27C020 = 16
rom_type_number SdrrRomType.Rom27C040 = 17
rom_type_number SdrrRomType.Rom27C080 = 18
rom_type_number SdrrRomType.Rom27C400 = 19
rom_type_number SdrrRomType.Ram6116 = 20
rom_type_number SdrrRomType.Rom27C301 = 21
rom_type_number SdrrRomType.SystemPlugin = 22
rom_type_number SdrrRomType.UserPlugin = 23
rom_type_number SdrrRomType.PioPlugin = 24
rom_type_number SdrrRomType.RomSst39sf040 = 25
rom_type_number SdrrRomType.Rom28C16 = 26
rom_type_number SdrrRomType.Rom28C64 = 27
rom_type_number SdrrRomType.Rom28C256 = 28
rom_type_number SdrrRomType.Rom28C512 = 29
rom_type_number SdrrRomType.Rom23QL512 = 30
rom_type_number SdrrRomType.Rom23QL384 = 31
rom_type_number SdrrRomType.Rom23C1001 = 32
rom_type_number SdrrRomType.Rom27C200 = 33
