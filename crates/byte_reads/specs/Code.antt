-- The byte reads as the code goes about them: where the byte stands in the image, then the count, then demangling.
use Rattle.std.specs.Prelude.{ℕ, ◌+◌, not, List, ltb, eqb, get_or}
use Rattle.base.specs.Choice.{pick}
use Rattle.types.specs.declared.McuLine.{McuLine}
use Rattle.window.specs.Window.{base_after, beyond_window}
use Rattle.board.specs.declared.BoardPins.{BoardPins}
use Rattle.mangle.specs.Mangle.{Mangled}
use Rattle.info.specs.declared.SdrrAddress.{SdrrAddress}
use Rattle.info.specs.Lent.{mangle_address, demangled_by}
use Rattle.set_data.specs.declared.SetData.{SetData}
use Rattle.set_data.specs.Code.{set_data, found_of}
use Rattle.byte_reads.specs.declared.ByteRead.{ByteRead}

abbrev pub no_byte : ℕ → ℕ → ByteRead
no_byte n count = record { number = n; byte = 0; count = count }

-- mangling's number, then those of ROM data, then 82
unfoldable pub stored_byte : List ℕ → ℕ → SetData → Mangled → ℕ → ByteRead
stored_byte x base d m count =
    pick (not (eqb m.number 0)) (no_byte m.number count)
    (pick (not (eqb (found_of x base d m.value 1).number 0)) (no_byte (found_of x base d m.value 1).number count)
    (pick (ltb 4294967295 (count + 1)) (no_byte 82 count)
    (record { number = 0; byte = get_or x (found_of x base d m.value 1).at 0; count = count + 1 })))

-- 1 before anything else
unfoldable pub byte_at : (flash_base cs0_base : ℕ) → McuLine → (served : ℕ) → List ℕ → ℕ → Mangled → ℕ → List ℕ → ByteRead
byte_at flash_base cs0_base line served sets set m count x =
    pick (beyond_window flash_base cs0_base x) (no_byte 1 count) (stored_byte x (base_after flash_base cs0_base line) (set_data served sets set) m count)

-- a raw address skips mangling
abbrev pub physical_by : BoardPins → (served : ℕ) → (sets roms : List ℕ) → SdrrAddress → Mangled
physical_by pins served sets roms (SdrrAddress.Raw offset) = record { number = 0; value = offset }
physical_by pins served sets roms (SdrrAddress.Logical address levels) = mangle_address pins served sets roms address levels

-- 70 and 79, which count nothing
unfoldable pub shown_from : (number : ℕ) → (data_pins : List ℕ) → ByteRead → ℕ → ByteRead
shown_from number data_pins raw count =
    pick (not (eqb raw.number 0)) raw
    (pick (not (eqb (demangled_by number data_pins raw.byte).number 0)) (no_byte (demangled_by number data_pins raw.byte).number count)
    (record { number = 0; byte = (demangled_by number data_pins raw.byte).value; count = raw.count }))
