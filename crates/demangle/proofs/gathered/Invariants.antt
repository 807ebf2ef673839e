use Rattle.std.proofs.Common.{◌≡◌, ◌+◌, ◌*◌, ◌^◌, ◌<◌, drop}
use Rattle.demangle.specs.Bits.{gather}
use Rattle.demangle.proofs.gathered.Given as goal

abbrev pub invariant-loop-i : goal.invariant-loop-i
invariant-loop-i l = (l.r < 2 ^ l.i) × (l.r + gather (drop l.i l.entries) l.x * 2 ^ l.i ≡ gather l.entries l.x)
