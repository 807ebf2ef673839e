-- Document 01, "Lent rows", and document 02, wish 1: what mangling goes by of the rows as lent, altered or not.
use Rattle.std.specs.Prelude.{ℕ, Bool, not, ◌&&◌, Result, Ok, Err, List, leb, eqb}
use Rattle.base.specs.Choice.{pick}
use Rattle.types.specs.declared.SdrrRomType.{SdrrRomType}
use Rattle.types.specs.Types.{rom_type_of}
use Rattle.rows.specs.LentRows.{has_set_row, first_rom, rom_count, type_word, bad_rom_row}
use Rattle.refusal.specs.declared.Refusal.{Refusal}
use Rattle.refusal.specs.Refusal.{number_of}
use Rattle.rom_rules.specs.declared.GoverningSet.{GoverningSet as CodeSet}

-- what mangling goes by of the rows: a set's ROM count and first type; or 70, 71, 80 or 4
pub record GoverningSet : Type 0 where
  pub number : ℕ
  pub rom_count : ℕ
  pub rom_type : SdrrRomType

-- Where nothing governs, beside the number stand no ROMs and type number 0.
abbrev pub ungoverned : ℕ → GoverningSet
ungoverned n = record { number = n; rom_count = 0; rom_type = SdrrRomType.Rom2316 }

-- as the code has it
abbrev pub governing_item : Result CodeSet Refusal → GoverningSet
governing_item (Ok s) = record { number = 0; rom_count = s.rom_count; rom_type = s.rom_type }
governing_item (Err r) = ungoverned (number_of r)

-- a set has ROMs, and its first ROM row isn't among those lent or has a type above 33
abbrev pub lacks_first_rom : (sets roms : List ℕ) → ℕ → Bool
lacks_first_rom sets roms i = not (eqb (rom_count sets i) 0) && bad_rom_row roms (first_rom sets i)

-- What mangling goes by of a set: its ROM count and first type. 4: its row, then unless 74 applies its first ROM row.
unfoldable pub governing : (sets roms : List ℕ) → ℕ → GoverningSet
governing sets roms i =
    pick (not (has_set_row sets i)) (ungoverned 4)
    (pick (lacks_first_rom sets roms i) (ungoverned 4)
    (record { number = 0; rom_count = rom_count sets i; rom_type = rom_type_of (type_word roms (first_rom sets i)) }))

-- Set 0 governs, whichever set is then read. 70: no pins. 71: no sets. Then 4.
unfoldable pub governing_set0 : (pins_number served : ℕ) → (sets roms : List ℕ) → GoverningSet
governing_set0 pins_number served sets roms = pick (not (eqb pins_number 0)) (ungoverned 70) (pick (eqb served 0) (ungoverned 71) (governing sets roms 0))

-- Wish 1: the named set governs. 80: no such set. 4: its row or its first ROM row. Then 70: no pins.
unfoldable pub governing_own : (pins_number served : ℕ) → (sets roms : List ℕ) → (set : ℕ) → GoverningSet
governing_own pins_number served sets roms set =
    pick (leb served set) (ungoverned 80)
    (pick (not (eqb (governing sets roms set).number 0)) (governing sets roms set)
    (pick (not (eqb pins_number 0)) (ungoverned 70) (governing sets roms set)))
