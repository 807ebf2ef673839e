-- Mangling and demangling as C and Rust call them.
use Rattle.std.specs.Prelude.{ℕ, List, replicate}
use Rattle.mangle.specs.Mangle.{Mangled}
use Rattle.demangle.specs.Demangle.{Demangled}
use Rattle.info.specs.Lent.{mangle_address, demangled_by}
use Rattle.c_board.specs.Board.{levels_from, pins_from}

unfoldable pub mangle_call : (number rom_pins : ℕ) → (address_pins control : List ℕ) → (served : ℕ) → (sets roms : List ℕ) → (address : ℕ) → (levels : List ℕ) → Mangled
mangle_call number rom_pins address_pins control served sets roms address levels =
    mangle_address (pins_from number rom_pins (replicate 8 0) address_pins control) served sets roms address (levels_from levels)

unfoldable pub demangle_call : (number : ℕ) → (data_pins : List ℕ) → (byte : ℕ) → Demangled
demangle_call number data_pins byte = demangled_by number data_pins byte
