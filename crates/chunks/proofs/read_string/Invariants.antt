use Rattle.std.proofs.Common.{◌-◌, ◌≤◌}
use Rattle.chunks.proofs.Steps.{Rest}
use Rattle.chunks.proofs.read_string.Given as goal

abbrev pub invariant-loop-n : goal.invariant-loop-n
invariant-loop-n l = (l.n ≤ 1024) × Rest l.w.image.now l.w.base l.ptr l.n

abbrev pub decreases-loop-n : goal.decreases-loop-n
decreases-loop-n l = 1024 - l.n
