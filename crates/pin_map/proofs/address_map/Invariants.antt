use Rattle.std.proofs.Common.{◌≡◌, drop}
use Rattle.mangle.specs.PinMap.{with_address, address_map}
use Rattle.pin_map.proofs.address_map.Given as goal

abbrev pub invariant-loop-i : goal.invariant-loop-i
invariant-loop-i l = with_address (drop l.i l.pin-items) l.i l.pins ≡ address_map l.fn.addr
