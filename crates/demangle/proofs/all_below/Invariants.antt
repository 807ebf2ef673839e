use Rattle.std.proofs.Common.{drop, ◌≡◌}
use Rattle.demangle.specs.Demangle.{all_below}
use Rattle.demangle.proofs.all_below.Given as goal

abbrev pub invariant-loop-pin : goal.invariant-loop-pin
invariant-loop-pin l = all_below l.n l.pins ≡ all_below l.n (drop l.pin-index l.pins)
