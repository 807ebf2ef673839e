use Rattle.std.proofs.Common.{◌≡◌, map}
use Rattle.base_zero.specs.BaseZero.{lowered}
use Rattle.pin_words.specs.Code.{placed}
use Rattle.pin_words.proofs.Steps.{rest_on}
use Rattle.pin_words.proofs.address_pins.Given as goal

abbrev pub invariant-loop-i : goal.invariant-loop-i
invariant-loop-i l = rest_on (lowered l.m) l.pin-items l.word l.i l.s ≡ placed (map (lowered l.m) l.fn.addr) l.word
