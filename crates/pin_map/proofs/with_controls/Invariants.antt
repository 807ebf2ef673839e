use Rattle.std.proofs.Common.{◌≡◌, map, drop}
use Rattle.rom_rules.specs.Code.{bit_number}
use Rattle.mangle.specs.PinMap.{with_controls}
use Rattle.pin_map.proofs.with_controls.Given as goal

abbrev pub invariant-loop-i : goal.invariant-loop-i
invariant-loop-i l =
    with_controls (drop l.i l.pin-items) (map bit_number (drop l.i l.bits)) l.pins ≡ with_controls l.fn.controls (map bit_number l.bits) l.fn.taken
