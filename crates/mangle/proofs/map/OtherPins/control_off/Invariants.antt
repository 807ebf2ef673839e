use Rattle.std.proofs.Common.{◌≡◌, map, drop}
use Rattle.base_zero.specs.BaseZero.{lowered}
use Rattle.rom_rules.specs.Code.{bit_number}
use Rattle.mangle.specs.PinMap.{control_off}
use Rattle.mangle.specs.Others.{controls_of}
use Rattle.mangle.proofs.map.OtherPins.control_off.Given as goal

abbrev pub invariant-loop-i : goal.invariant-loop-i
invariant-loop-i l =
    control_off (map (lowered l.fn.self.lowered_by) (drop l.i l.pin-items)) (map bit_number (drop l.i l.bits)) ≡ control_off (controls_of l.fn.self) (map bit_number l.bits)
