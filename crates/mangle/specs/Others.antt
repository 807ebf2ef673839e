-- The pins that are no address pins as the code has them: as recorded, beside what they go down by.
use Rattle.std.specs.Prelude.{ℕ, List, map}
use Rattle.base.specs.Choice.{pick}
use Rattle.board.specs.declared.BoardPins.{BoardPins}
use Rattle.least_pin.specs.LeastPin.{has24}
use Rattle.base_zero.specs.BaseZero.{lowered}
use Rattle.mangle.specs.declared.map.OtherPins.{OtherPins}
use Rattle.mangle.specs.PinMap.{control_pins}

-- where m is the least pin
abbrev pub others_from : ℕ → BoardPins → OtherPins
others_from m pins = record { lowered_by = pick (has24 pins) m 0; x1 = pins.x1; x2 = pins.x2; controls = control_pins pins }

-- counted from zero
abbrev pub x1_of : OtherPins → ℕ
x1_of p = lowered p.lowered_by p.x1

abbrev pub x2_of : OtherPins → ℕ
x2_of p = lowered p.lowered_by p.x2

abbrev pub controls_of : OtherPins → List ℕ
controls_of p = map (lowered p.lowered_by) p.controls
