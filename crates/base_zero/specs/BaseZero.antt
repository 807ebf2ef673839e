-- Document 01, "Mangling": base-zero. The pins of a record, counted from the least of them.
use Rattle.std.specs.Prelude.{ℕ, ◌-◌, List, map, eqb}
use Rattle.base.specs.Choice.{pick}
use Rattle.board.specs.declared.BoardPins.{BoardPins}
use Rattle.least_pin.specs.LeastPin.{has24, least_pin}

-- a pin goes down by m; 255, no pin, stays
unfoldable pub lowered : ℕ → ℕ → ℕ
lowered m p = pick (eqb p 255) p (p - m)

-- pins with other address pins, CS1..CS3, X1, X2, CE, OE
abbrev pub with_pins : BoardPins → List ℕ → (c1 c2 c3 y1 y2 e o : ℕ) → BoardPins
with_pins pins a c1 c2 c3 y1 y2 e o =
    record {
      number = pins.number;
      rom_pins = pins.rom_pins;
      «data» = pins.«data»;
      addr = a;
      cs1 = c1;
      cs2 = c2;
      cs3 = c3;
      x1 = y1;
      x2 = y2;
      ce = e;
      oe = o;
    }

-- the address pins go down by m, the seven control pins by k
unfoldable pub lowered_by : ℕ → ℕ → BoardPins → BoardPins
lowered_by m k pins =
    with_pins pins (map (lowered m) pins.addr) (lowered k pins.cs1) (lowered k pins.cs2) (lowered k pins.cs3) (lowered k pins.x1) (lowered k pins.x2) (lowered k pins.ce) (lowered k pins.oe)

-- all of these but 255 go down by the least; at another byte than 24 only the address pins do
unfoldable pub base_zero : BoardPins → BoardPins
base_zero pins = lowered_by (least_pin pins) (pick (has24 pins) (least_pin pins) 0) pins
