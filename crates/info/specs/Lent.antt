-- Document 01, "Lent rows", and document 02, wish 1: later calls go by the report and rows as lent, altered or not.
use Rattle.std.specs.Prelude.{ℕ, not, List, eqb}
use Rattle.base.specs.Choice.{pick}
use Rattle.types.specs.declared.McuLine.{McuLine}
use Rattle.types.specs.declared.SdrrCsSet.{SdrrCsSet}
use Rattle.board.specs.declared.BoardPins.{BoardPins}
pub use Rattle.rows.specs.LentRows.{has_set_row, has_rom_row, set_word, data_pointer, size_of, first_rom, rom_count, serve_of, type_word, bad_rom_row, set_number}
use Rattle.board.specs.declared.Board.{Board}
use Rattle.governing.specs.Governing.{GoverningSet, governing_set0, governing_own}
use Rattle.mangle.specs.Mangle.{Mangled, mangle_core}
use Rattle.demangle.specs.Demangle.{Demangled, demangle}

-- ---- mangling and demangling on a board

abbrev pub unmangled : ℕ → Mangled
unmangled n = record { number = n; value = 0 }

-- mangling by what governs: 72 to 78
unfoldable pub mangled_by : GoverningSet → BoardPins → ℕ → SdrrCsSet → Mangled
mangled_by g pins address levels =
    pick (not (eqb g.number 0)) (unmangled g.number) (mangle_core pins g.rom_count g.rom_type address levels)

unfoldable pub mangle_address : BoardPins → (served : ℕ) → (sets roms : List ℕ) → ℕ → SdrrCsSet → Mangled
mangle_address pins served sets roms address levels = mangled_by (governing_set0 pins.number served sets roms) pins address levels

-- Wish 1: by the named set's own ROMs
unfoldable pub mangle_own : BoardPins → (served : ℕ) → (sets roms : List ℕ) → (set : ℕ) → ℕ → SdrrCsSet → Mangled
mangle_own pins served sets roms set address levels = mangled_by (governing_own pins.number served sets roms set) pins address levels

-- 70: no pins. Then 79.
abbrev pub demangled_by : (number : ℕ) → (data_pins : List ℕ) → ℕ → Demangled
demangled_by number data_pins byte = pick (not (eqb number 0)) (record { number = 70; value = 0 }) (demangle data_pins byte)

unfoldable pub demangle_byte : BoardPins → ℕ → Demangled
demangle_byte pins byte = demangled_by pins.number pins.«data» byte

-- ---- all that later calls look at

-- Of the report the line, the sets served and the pins as reads look at them; and the rows, in words.
-- 01 coins "lent" for memory that a caller hands to a call, and "served" for the sets that 71 and 80 go by.
pub record Lent : Type 0 where
  pub line : McuLine
  pub pins : BoardPins
  pub served : ℕ
  pub set_words : List ℕ
  pub rom_words : List ℕ

-- on a board, with its rows
abbrev pub lent_by : Board → (sets roms : List ℕ) → Lent
lent_by b sets roms = record { line = b.line; pins = b.pins; served = b.served; set_words = sets; rom_words = roms }
