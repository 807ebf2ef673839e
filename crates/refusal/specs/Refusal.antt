-- The number of each refusal; and what calls reply, by numbers.
use Rattle.std.specs.Prelude.{ℕ, Result, Ok, Err}
use Rattle.refusal.specs.declared.Refusal.{Refusal}
use Rattle.refusal.specs.declared.Refusal.TheVariants.{PastWindow, Ended, BelowBase, BadRow, HeaderMagic, McuLine, McuStorage, FirmwareVersion, Unterminated, NotUtf8, MetadataMagic, MetadataVersion, NoSetsPointer, Serve, MultiRomState, RomType, CsState, ShortSetRows, ShortRomRows, McuPort, RuntimeMagic, RuntimeSize, RamBase, NoPins, NoSets, XPinOff, XPinTaken, NoRom, UnsupportedType, ControlPinOff, AboveMask, Rom28C16, DataPinOff, NoSuchSet, PastSetSize, CountFull, NoSuchJob}

abbrev pub number_of : Refusal → ℕ
number_of PastWindow = 1
number_of Ended = 2
number_of BelowBase = 3
number_of BadRow = 4
number_of HeaderMagic = 10
number_of McuLine = 11
number_of McuStorage = 12
number_of FirmwareVersion = 13
number_of Unterminated = 20
number_of NotUtf8 = 21
number_of MetadataMagic = 30
number_of MetadataVersion = 31
number_of NoSetsPointer = 32
number_of Serve = 40
number_of MultiRomState = 41
number_of RomType = 42
number_of CsState = 43
number_of ShortSetRows = 44
number_of ShortRomRows = 45
number_of McuPort = 50
number_of RuntimeMagic = 60
number_of RuntimeSize = 61
number_of RamBase = 62
number_of NoPins = 70
number_of NoSets = 71
number_of XPinOff = 72
number_of XPinTaken = 73
number_of NoRom = 74
number_of UnsupportedType = 75
number_of ControlPinOff = 76
number_of AboveMask = 77
number_of Rom28C16 = 78
number_of DataPinOff = 79
number_of NoSuchSet = 80
number_of PastSetSize = 81
number_of CountFull = 82
number_of NoSuchJob = 83

-- 0 and a value, or a refusal's number and 0
pub record Valued : Type 0 where
  pub number : ℕ
  pub value : ℕ

abbrev pub valued : Result ℕ Refusal → Valued
valued (Ok v) = record { number = 0; value = v }
valued (Err r) = record { number = number_of r; value = 0 }

-- 0, or the refusal's number
abbrev pub refused_number : {A : Type 0} → Result A Refusal → ℕ
refused_number (Ok a) = 0
refused_number (Err r) = number_of r
