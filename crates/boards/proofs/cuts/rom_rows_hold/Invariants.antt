use Rattle.std.proofs.Common.{◌-◌, ◌≤◌, length}
use Rattle.boards.proofs.cuts.rom_rows_hold.Given as goal

abbrev pub invariant-loop-at : goal.invariant-loop-at
invariant-loop-at l = l.at ≤ length l.cut

abbrev pub decreases-loop-at : goal.decreases-loop-at
decreases-loop-at l = length l.cut - l.at
