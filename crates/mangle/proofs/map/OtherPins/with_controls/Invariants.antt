use Rattle.std.proofs.Common.{◌≡◌, map, drop}
use Rattle.base_zero.specs.BaseZero.{lowered}
use Rattle.rom_rules.specs.Code.{bit_number}
use Rattle.mangle.specs.Code.{on_controls}
use Rattle.mangle.specs.Others.{controls_of}
use Rattle.mangle.proofs.map.OtherPins.with_controls.Given as goal

abbrev pub invariant-loop-i : goal.invariant-loop-i
invariant-loop-i l =
    on_controls (map (lowered l.fn.self.lowered_by) (drop l.i l.pin-items)) (map bit_number (drop l.i l.bits)) l.word l.w
    ≡ on_controls (controls_of l.fn.self) (map bit_number l.bits) l.word l.v
