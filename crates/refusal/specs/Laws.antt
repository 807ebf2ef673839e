-- A refusal's number says which it is, and is never 0; so what is shown of a Result determines it.
-- Assumes nothing.
use Rattle.std.specs.Prelude.{ℕ, eqb, cond, ◌<◌, ◌≡◌, refl, Option, Some, None, Result, Ok, Err}
use Rattle.std.proofs.Common.{sym, ◌∙◌, ap, lit<, arith}
use Rattle.refusal.specs.declared.Refusal.{Refusal}
use Rattle.refusal.specs.declared.Refusal.TheVariants.{PastWindow, Ended, BelowBase, BadRow, HeaderMagic, McuLine, McuStorage, FirmwareVersion, Unterminated, NotUtf8, MetadataMagic, MetadataVersion, NoSetsPointer, Serve, MultiRomState, RomType, CsState, ShortSetRows, ShortRomRows, McuPort, RuntimeMagic, RuntimeSize, RamBase, NoPins, NoSets, XPinOff, XPinTaken, NoRom, UnsupportedType, ControlPinOff, AboveMask, Rom28C16, DataPinOff, NoSuchSet, PastSetSize, CountFull, NoSuchJob}
use Rattle.refusal.specs.Refusal.{number_of, valued}

-- the refusal of a number
abbrev pub numbered : ℕ → Option Refusal
numbered n =
    cond (eqb n 1) (Some PastWindow) (
    cond (eqb n 2) (Some Ended) (
    cond (eqb n 3) (Some BelowBase) (
    cond (eqb n 4) (Some BadRow) (
    cond (eqb n 10) (Some HeaderMagic) (
    cond (eqb n 11) (Some McuLine) (
    cond (eqb n 12) (Some McuStorage) (
    cond (eqb n 13) (Some FirmwareVersion) (
    cond (eqb n 20) (Some Unterminated) (
    cond (eqb n 21) (Some NotUtf8) (
    cond (eqb n 30) (Some MetadataMagic) (
    cond (eqb n 31) (Some MetadataVersion) (
    cond (eqb n 32) (Some NoSetsPointer) (
    cond (eqb n 40) (Some Serve) (
    cond (eqb n 41) (Some MultiRomState) (
    cond (eqb n 42) (Some RomType) (
    cond (eqb n 43) (Some CsState) (
    cond (eqb n 44) (Some ShortSetRows) (
    cond (eqb n 45) (Some ShortRomRows) (
    cond (eqb n 50) (Some McuPort) (
    cond (eqb n 60) (Some RuntimeMagic) (
    cond (eqb n 61) (Some RuntimeSize) (
    cond (eqb n 62) (Some RamBase) (
    cond (eqb n 70) (Some NoPins) (
    cond (eqb n 71) (Some NoSets) (
    cond (eqb n 72) (Some XPinOff) (
    cond (eqb n 73) (Some XPinTaken) (
    cond (eqb n 74) (Some NoRom) (
    cond (eqb n 75) (Some UnsupportedType) (
    cond (eqb n 76) (Some ControlPinOff) (
    cond (eqb n 77) (Some AboveMask) (
    cond (eqb n 78) (Some Rom28C16) (
    cond (eqb n 79) (Some DataPinOff) (
    cond (eqb n 80) (Some NoSuchSet) (
    cond (eqb n 81) (Some PastSetSize) (
    cond (eqb n 82) (Some CountFull) (
    cond (eqb n 83) (Some NoSuchJob) None))))))))))))))))))))))))))))))))))))

pub numbered_is : (r : Refusal) → numbered (number_of r) ≡ Some r
numbered_is PastWindow = refl
numbered_is Ended = refl
numbered_is BelowBase = refl
numbered_is BadRow = refl
numbered_is HeaderMagic = refl
numbered_is McuLine = refl
numbered_is McuStorage = refl
numbered_is FirmwareVersion = refl
numbered_is Unterminated = refl
numbered_is NotUtf8 = refl
numbered_is MetadataMagic = refl
numbered_is MetadataVersion = refl
numbered_is NoSetsPointer = refl
numbered_is Serve = refl
numbered_is MultiRomState = refl
numbered_is RomType = refl
numbered_is CsState = refl
numbered_is ShortSetRows = refl
numbered_is ShortRomRows = refl
numbered_is McuPort = refl
numbered_is RuntimeMagic = refl
numbered_is RuntimeSize = refl
numbered_is RamBase = refl
numbered_is NoPins = refl
numbered_is NoSets = refl
numbered_is XPinOff = refl
numbered_is XPinTaken = refl
numbered_is NoRom = refl
numbered_is UnsupportedType = refl
numbered_is ControlPinOff = refl
numbered_is AboveMask = refl
numbered_is Rom28C16 = refl
numbered_is DataPinOff = refl
numbered_is NoSuchSet = refl
numbered_is PastSetSize = refl
numbered_is CountFull = refl
numbered_is NoSuchJob = refl

some_same : (r s : Refusal) → Some r ≡ Some s → r ≡ s
some_same r s h = cc

pub number_of_determines : (r s : Refusal) → number_of r ≡ number_of s → r ≡ s
number_of_determines r s h = some_same r s (sym (numbered_is r) ∙ ap numbered h ∙ numbered_is s)

pub number_of_positive : (r : Refusal) → 0 < number_of r
number_of_positive PastWindow = lit< tt
number_of_positive Ended = lit< tt
number_of_positive BelowBase = lit< tt
number_of_positive BadRow = lit< tt
number_of_positive HeaderMagic = lit< tt
number_of_positive McuLine = lit< tt
number_of_positive McuStorage = lit< tt
number_of_positive FirmwareVersion = lit< tt
number_of_positive Unterminated = lit< tt
number_of_positive NotUtf8 = lit< tt
number_of_positive MetadataMagic = lit< tt
number_of_positive MetadataVersion = lit< tt
number_of_positive NoSetsPointer = lit< tt
number_of_positive Serve = lit< tt
number_of_positive MultiRomState = lit< tt
number_of_positive RomType = lit< tt
number_of_positive CsState = lit< tt
number_of_positive ShortSetRows = lit< tt
number_of_positive ShortRomRows = lit< tt
number_of_positive McuPort = lit< tt
number_of_positive RuntimeMagic = lit< tt
number_of_positive RuntimeSize = lit< tt
number_of_positive RamBase = lit< tt
number_of_positive NoPins = lit< tt
number_of_positive NoSets = lit< tt
number_of_positive XPinOff = lit< tt
number_of_positive XPinTaken = lit< tt
number_of_positive NoRom = lit< tt
number_of_positive UnsupportedType = lit< tt
number_of_positive ControlPinOff = lit< tt
number_of_positive AboveMask = lit< tt
number_of_positive Rom28C16 = lit< tt
number_of_positive DataPinOff = lit< tt
number_of_positive NoSuchSet = lit< tt
number_of_positive PastSetSize = lit< tt
number_of_positive CountFull = lit< tt
number_of_positive NoSuchJob = lit< tt

pub valued_determines : (a b : Result ℕ Refusal) → valued a ≡ valued b → a ≡ b
valued_determines (Ok v) (Ok w) h = ap (λ n. Ok n) (ap (λ x. x.value) h)
valued_determines (Ok v) (Err s) h = absurd (let k = number_of_positive s in let e : 0 ≡ number_of s = ap (λ x. x.number) h in omega arith)
valued_determines (Err r) (Ok w) h = absurd (let k = number_of_positive r in let e : number_of r ≡ 0 = ap (λ x. x.number) h in omega arith)
valued_determines (Err r) (Err s) h = ap (λ n. Err n) (number_of_determines r s (ap (λ x. x.number) h))

pub number_not_0 : (r : Refusal) → number_of r ≡ 0 → ⊥
number_not_0 r e = let h = number_of_positive r in omega arith
