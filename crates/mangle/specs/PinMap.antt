-- Document 01, "Mangling": the sixteen-pin map, which says of each pin the input bit that it takes, and 72 to 76.
use Rattle.std.specs.Prelude.{ℕ, suc, Bool, false, not, ◌&&◌, ◌||◌, List, [], ◌∷◌, leb, eqb, get_or, set}
use Rattle.base.specs.Choice.{pick}
use Rattle.types.specs.declared.SdrrRomType.{SdrrRomType}
use Rattle.board.specs.declared.BoardPins.{BoardPins}
use Rattle.demangle.specs.Bits.{none, is_bit}
use Rattle.base_zero.specs.BaseZero.{base_zero}
use Rattle.rom_rules.specs.Rules.{rules_of, control_bits, several}

-- which input bit each of the sixteen pins takes, 255 for none; or a number, with no pin taking any
pub record PinMap : Type 0 where
  pub number : ℕ
  pub map : List ℕ

-- sixteen pins that take nothing
abbrev pub unmapped : List ℕ
unmapped =
    none ∷ none ∷ none ∷ none ∷ none ∷ none ∷ none ∷ none ∷ none ∷ none ∷ none ∷ none ∷ none ∷ none ∷ none ∷ none ∷ []

-- address bits i, i + 1, .. each to its pin, a later one over an earlier; a pin at 16 or above is left out
unfoldable pub with_address : List ℕ → ℕ → List ℕ → List ℕ
with_address [] i m = m
with_address (p ∷ ps) i m = with_address ps (suc i) (set m p i)

abbrev pub address_map : List ℕ → List ℕ
address_map addr = with_address addr 0 unmapped

abbrev pub off : ℕ → Bool
off pin = leb 16 pin

abbrev pub is_mapped : List ℕ → ℕ → Bool
is_mapped m pin = is_bit (get_or m pin none)

-- X1 takes input bit 14, X2 takes 15; X2 wins where they are one pin
unfoldable pub with_x : List ℕ → (x1 x2 : ℕ) → List ℕ
with_x m x1 x2 = set (set m x1 14) x2 15

-- the control pins in the order of control_bits
abbrev pub control_pins : BoardPins → List ℕ
control_pins pins = pins.cs1 ∷ pins.cs2 ∷ pins.cs3 ∷ pins.oe ∷ pins.ce ∷ []

-- a control pin that has an input bit, at 16 or above
unfoldable pub control_off : List ℕ → List ℕ → Bool
control_off [] bs = false
control_off (p ∷ ps) [] = false
control_off (p ∷ ps) (b ∷ bs) = (is_bit b && off p) || control_off ps bs

-- a control pin that has an input bit takes it, whatever the pin took before
unfoldable pub with_control : List ℕ → ℕ → ℕ → List ℕ
with_control m pin bit = pick (is_bit bit) (set m pin bit) m

unfoldable pub with_controls : List ℕ → List ℕ → List ℕ → List ℕ
with_controls [] bs m = m
with_controls (p ∷ ps) [] m = m
with_controls (p ∷ ps) (b ∷ bs) m = with_controls ps bs (with_control m p b)

-- the first of 72 to 76 that applies, or 0; m is the map of the address bits
unfoldable pub map_number : List ℕ → (x1 x2 : ℕ) → List ℕ → ℕ → SdrrRomType → ℕ
map_number m x1 x2 controls count type =
    pick (several count && (off x1 || off x2)) 72
    (pick (several count && (is_mapped m x1 || is_mapped m x2)) 73
    (pick (eqb count 0) 74
    (pick (not (rules_of type).supported) 75
    (pick (control_off controls (control_bits type)) 76 0))))

-- address, X1 and X2 with several ROMs, then the type's control pins
unfoldable pub whole_map : List ℕ → (x1 x2 : ℕ) → List ℕ → ℕ → SdrrRomType → List ℕ
whole_map m x1 x2 controls count type = with_controls controls (control_bits type) (pick (several count) (with_x m x1 x2) m)

unfoldable pub map_by : List ℕ → (x1 x2 : ℕ) → List ℕ → ℕ → SdrrRomType → PinMap
map_by m x1 x2 controls count type =
    record {
      number = map_number m x1 x2 controls count type;
      map = pick (eqb (map_number m x1 x2 controls count type) 0) (whole_map m x1 x2 controls count type) unmapped;
    }

-- of pins that are counted from zero
unfoldable pub map_of : BoardPins → ℕ → SdrrRomType → PinMap
map_of pins count type = map_by (address_map pins.addr) pins.x1 pins.x2 (control_pins pins) count type

-- of a pins record as it stands
unfoldable pub pin_map : BoardPins → ℕ → SdrrRomType → PinMap
pin_map pins count type = map_of (base_zero pins) count type
