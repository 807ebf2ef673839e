-- How each case is shown.
use Rattle.std.specs.Prelude.{ℕ, List, codes}
use Rattle.types.specs.declared.McuLine.{McuLine}
use Rattle.types.specs.declared.McuStorage.{McuStorage}
use Rattle.types.specs.declared.SdrrMcuPort.{SdrrMcuPort}
use Rattle.types.specs.declared.SdrrRomType.{SdrrRomType}

abbrev pub line_text : McuLine → List ℕ
line_text McuLine.F401DE = codes "STM32F401DE"
line_text McuLine.F405 = codes "STM32F405"
line_text McuLine.F411 = codes "STM32F411"
line_text McuLine.F446 = codes "STM32F446"
line_text McuLine.F401BC = codes "STM32F401BC"
line_text McuLine.Rp2350 = codes "RP2350"

abbrev pub storage_text : McuStorage → List ℕ
storage_text McuStorage.Storage8 = codes "8"
storage_text McuStorage.StorageB = codes "B"
storage_text McuStorage.StorageC = codes "C"
storage_text McuStorage.StorageD = codes "D"
storage_text McuStorage.StorageE = codes "E"
storage_text McuStorage.StorageF = codes "F"
storage_text McuStorage.StorageG = codes "G"
storage_text McuStorage.Storage2MB = codes "2MB"

abbrev pub port_text : SdrrMcuPort → List ℕ
port_text SdrrMcuPort.None = codes "None"
port_text SdrrMcuPort.PortA = codes "A"
port_text SdrrMcuPort.PortB = codes "B"
port_text SdrrMcuPort.PortC = codes "C"
port_text SdrrMcuPort.PortD = codes "D"
port_text SdrrMcuPort.Port0 = codes "0"

abbrev pub rom_type_text : SdrrRomType → List ℕ
rom_type_text SdrrRomType.Rom2316 = codes "2316"
rom_type_text SdrrRomType.Rom2332 = codes "2332"
rom_type_text SdrrRomType.Rom2364 = codes "2364"
rom_type_text SdrrRomType.Rom23128 = codes "23128"
rom_type_text SdrrRomType.Rom23256 = codes "23256"
rom_type_text SdrrRomType.Rom23512 = codes "23512"
rom_type_text SdrrRomType.Rom2704 = codes "2704"
rom_type_text SdrrRomType.Rom2708 = codes "2708"
rom_type_text SdrrRomType.Rom2716 = codes "2716"
rom_type_text SdrrRomType.Rom2732 = codes "2732"
rom_type_text SdrrRomType.Rom2764 = codes "2764"
rom_type_text SdrrRomType.Rom27128 = codes "27128"
rom_type_text SdrrRomType.Rom27256 = codes "27256"
rom_type_text SdrrRomType.Rom27512 = codes "27512"
rom_type_text SdrrRomType.Rom231024 = codes "231024"
rom_type_text SdrrRomType.Rom27C010 = codes "27C010"
rom_type_text SdrrRomType.Rom27C020 = codes "27C020"
rom_type_text SdrrRomType.Rom27C040 = codes "27C040"
rom_type_text SdrrRomType.Rom27C080 = codes "27C080"
rom_type_text SdrrRomType.Rom27C400 = codes "27C400"
rom_type_text SdrrRomType.Ram6116 = codes "6116 (RAM)"
rom_type_text SdrrRomType.Rom27C301 = codes "27C301"
rom_type_text SdrrRomType.SystemPlugin = codes "System Plugin"
rom_type_text SdrrRomType.UserPlugin = codes "User Plugin"
rom_type_text SdrrRomType.PioPlugin = codes "PIO Plugin"
rom_type_text SdrrRomType.RomSst39sf040 = codes "SST39SF040"
rom_type_text SdrrRomType.Rom28C16 = codes "28C16"
rom_type_text SdrrRomType.Rom28C64 = codes "28C64"
rom_type_text SdrrRomType.Rom28C256 = codes "28C256"
rom_type_text SdrrRomType.Rom28C512 = codes "28C512"
rom_type_text SdrrRomType.Rom23QL512 = codes "23QL512"
rom_type_text SdrrRomType.Rom23QL384 = codes "23QL384"
rom_type_text SdrrRomType.Rom23C1001 = codes "23C1001"
rom_type_text SdrrRomType.Rom27C200 = codes "27C200"
