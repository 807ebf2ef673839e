use Rattle.std.proofs.Common.{◌≡◌, ◌++◌, length, take, drop, map}
use Rattle.base_zero.specs.BaseZero.{lowered}
use Rattle.base_zero.proofs.lower_all.Given as goal

abbrev pub invariant-loop-p : goal.invariant-loop-p
invariant-loop-p l = (length l.p-items ≡ 16) × (take l.p-index l.p-items ++ map (lowered l.m) (drop l.p-index l.p-items) ≡ map (lowered l.m) l.fn.ps)
