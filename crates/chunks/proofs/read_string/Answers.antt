use Rattle.std.proofs.Common.{arith, sym}
use Rattle.chunks.proofs.Steps.{rest_refused, rest_fits, rest_held}
use Rattle.chunks.proofs.read_string.Goals as goal

pub returns-then-not-can_read-clause-item : goal.returns-then-not-can_read-clause-item
returns-then-not-can_read-clause-item c = sym (rest_refused _ _ _ _ c.loop-n.invariant.1 (omega arith) (sym c.if-not-can_read.ensures))

pub slice_bounds-nul_at-end : goal.slice_bounds-nul_at-end
slice_bounds-nul_at-end c = omega (arith, rest_fits _ _ _ _ c.loop-n.invariant.1 (omega arith) (sym c.if-not-can_read.ensures))

pub returns-in-Some-clause-part : goal.returns-in-Some-clause-part
returns-in-Some-clause-part c =
    rest_held _ _ _ _ c.loop-n.invariant.1 (omega arith) (sym c.if-not-can_read.ensures) _ c.nul_at.ensures _ c.in-Some.is c.judge.result c.judge.ensures.part c.judge.ensures.item
