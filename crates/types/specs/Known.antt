-- Which numbers have a case: the case of the number, or the refusal of one that has none.
use Rattle.std.specs.Prelude.{ℕ, ◌≡◌, ◌≤◌, ◌<◌, Result, MatchResult}
use Rattle.refusal.specs.declared.Refusal.{Refusal}
use Rattle.refusal.specs.declared.Refusal.TheVariants.{McuLine as BadLine, McuStorage as BadStorage, RomType as BadType}
use Rattle.types.specs.declared.McuLine.{McuLine}
use Rattle.types.specs.declared.McuStorage.{McuStorage}
use Rattle.types.specs.declared.SdrrRomType.{SdrrRomType}
use Rattle.types.specs.Types.{line_of, storage_of, rom_type_of}

abbrev pub IsLine : ℕ → Result McuLine Refusal → Type 0
IsLine n r = MatchResult r (λ line. (n ≤ 5) × (line ≡ line_of n)) (λ e. (5 < n) × (e ≡ BadLine))

abbrev pub IsStorage : ℕ → Result McuStorage Refusal → Type 0
IsStorage n r = MatchResult r (λ storage. (n ≤ 7) × (storage ≡ storage_of n)) (λ e. (7 < n) × (e ≡ BadStorage))

abbrev pub IsRomType : ℕ → Result SdrrRomType Refusal → Type 0
IsRomType n r = MatchResult r (λ rom_type. (n ≤ 33) × (rom_type ≡ rom_type_of n)) (λ e. (33 < n) × (e ≡ BadType))
