-- Document 01, "Bench cases": M1 to M4, computed.
use Rattle.std.specs.Prelude.{ℕ, Bool, true, Option, Some, None, ◌+◌, ◌≡◌, refl, List, [], ◌∷◌, ◌++◌, map, replicate}
use Rattle.types.specs.Types.{is_high}
use Rattle.type_numbers.specs.TypeNumbers.{rom_type_number}
use Rattle.types.specs.declared.SdrrRomType.{SdrrRomType}
use Rattle.types.specs.declared.SdrrCsSet.{SdrrCsSet}
use Rattle.board.specs.declared.BoardPins.{BoardPins}
use Rattle.demangle.specs.Bits.{bit_at, taken_bit, gather}
use Rattle.least_pin.specs.LeastPin.{least_of, least_pin}
use Rattle.base_zero.specs.BaseZero.{lowered, lowered_by, base_zero}
use Rattle.rom_rules.specs.Rules.{rules_of, drives, mangle_number}
use Rattle.input_word.specs.Input.{raised, input_word}
use Rattle.mangle.specs.PinMap.{with_address, with_x, control_off, with_control, with_controls, map_number, whole_map, map_by, map_of, pin_map}
use Rattle.mangle.specs.Mangle.{mangle_by, mangle_of, mangle_core}

-- 24 pins, these address pins and CS1 to CS3, the others 255
abbrev pub board : List ℕ → (cs1 cs2 cs3 : ℕ) → BoardPins
board address c1 c2 c3 =
    record {
      number = 0;
      rom_pins = 24;
      «data» = replicate 8 255;
      addr = address;
      cs1 = c1;
      cs2 = c2;
      cs3 = c3;
      x1 = 255;
      x2 = 255;
      ce = 255;
      oe = 255;
    }

-- pins 0..10
abbrev eleven : List ℕ
eleven = 0 ∷ 1 ∷ 2 ∷ 3 ∷ 4 ∷ 5 ∷ 6 ∷ 7 ∷ 8 ∷ 9 ∷ 10 ∷ []

-- address pins 0..12 and CS1 13, each raised by k
abbrev pub board2364 : ℕ → BoardPins
board2364 k = board (map (λ p. k + p) (eleven ++ (11 ∷ 12 ∷ [])) ++ replicate 3 255) (k + 13) 255 255

-- CS1 and CS2 as given, the other levels not given
abbrev pub given : Option Bool → Option Bool → SdrrCsSet
given c1 c2 = record { cs1 = c1; cs2 = c2; cs3 = None; x1 = None; x2 = None }

-- address 5, CS1 high
pub M1 : mangle_core (board2364 0) 1 SdrrRomType.Rom2364 5 (given (Some true) None) ≡ record { number = 0; value = 8197 }
unfolding mangle_core mangle_of mangle_by mangle_number input_word raised drives rules_of gather taken_bit bit_at is_high rom_type_number pin_map map_of map_by map_number whole_map with_x with_address control_off with_control with_controls base_zero lowered_by least_pin least_of lowered
M1 = refl

-- all those pins raised by 8
pub M2 : mangle_core (board2364 8) 1 SdrrRomType.Rom2364 5 (given (Some true) None) ≡ record { number = 0; value = 8197 }
unfolding mangle_core mangle_of mangle_by mangle_number input_word raised drives rules_of gather taken_bit bit_at is_high rom_type_number pin_map map_of map_by map_number whole_map with_x with_address control_off with_control with_controls base_zero lowered_by least_pin least_of lowered
M2 = refl

-- address 8192
pub M3 : mangle_core (board2364 0) 1 SdrrRomType.Rom2364 8192 (given (Some true) None) ≡ record { number = 77; value = 0 }
unfolding mangle_core mangle_of mangle_by mangle_number rules_of pin_map map_of map_by map_number whole_map with_x with_address control_off with_control with_controls base_zero lowered_by least_pin least_of lowered
M3 = refl

-- address pins 0..10, CS2 11, CS3 12, CS1 13: address 0, CS2 high alone
pub M4 : mangle_core (board (eleven ++ replicate 5 255) 13 11 12) 1 SdrrRomType.Rom2316 0 (given None (Some true)) ≡ record { number = 0; value = 4096 }
unfolding mangle_core mangle_of mangle_by mangle_number input_word raised drives rules_of gather taken_bit bit_at is_high rom_type_number pin_map map_of map_by map_number whole_map with_x with_address control_off with_control with_controls base_zero lowered_by least_pin least_of lowered
M4 = refl
