use Rattle.std.proofs.Common.{◌-◌, length}
use Rattle.boards.proofs.packed.unpack.Given as goal

abbrev pub decreases-loop-from : goal.decreases-loop-from
decreases-loop-from l = length l.packed - l.from
