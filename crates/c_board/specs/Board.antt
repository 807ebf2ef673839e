-- What a caller in another language hands over of a board: levels, pins, an address.
use Rattle.std.specs.Prelude.{ℕ, Bool, Option, Some, List, eqb, get_or}
use Rattle.base.specs.Choice.{pick}
use Rattle.types.specs.declared.SdrrCsSet.{SdrrCsSet}
use Rattle.board.specs.declared.BoardPins.{BoardPins}
use Rattle.info.specs.declared.SdrrAddress.{SdrrAddress}

-- a level is a number: 1 is high, every other is low
abbrev pub level_of : ℕ → Option Bool
level_of n = Some (eqb n 1)

-- CS1, CS2, CS3, X1, X2
abbrev pub levels_from : List ℕ → SdrrCsSet
levels_from ls =
    record { cs1 = level_of (get_or ls 0 0); cs2 = level_of (get_or ls 1 0); cs3 = level_of (get_or ls 2 0); x1 = level_of (get_or ls 3 0); x2 = level_of (get_or ls 4 0) }

-- the pins item's number and its pins; control pins CS1, CS2, CS3, X1, X2, CE, OE
unfoldable pub pins_from : (number rom_pins : ℕ) → (data_pins address_pins control : List ℕ) → BoardPins
pins_from number rom_pins data_pins address_pins control =
    record {
      number = number;
      rom_pins = rom_pins;
      «data» = data_pins;
      addr = address_pins;
      cs1 = get_or control 0 0;
      cs2 = get_or control 1 0;
      cs3 = get_or control 2 0;
      x1 = get_or control 3 0;
      x2 = get_or control 4 0;
      ce = get_or control 5 0;
      oe = get_or control 6 0;
    }

-- 1 is a logical address with its levels, every other a raw offset
abbrev pub address_from : (logical address : ℕ) → List ℕ → SdrrAddress
address_from logical address levels = pick (eqb logical 1) (SdrrAddress.Logical address (levels_from levels)) (SdrrAddress.Raw address)
