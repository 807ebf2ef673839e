-- What is left of the slice gives the whole slice's answer.
use Rattle.std.proofs.Common.{◌≡◌, ◌≤◌, drop}
use Rattle.utf8.specs.Points.{points_of}
use Rattle.utf8.proofs.Steps.{answer_after}
use Rattle.utf8.proofs.scan.Given as goal

abbrev pub invariant-loop-b : goal.invariant-loop-b
invariant-loop-b l =
    record {
      few : l.points ≤ l.b-index;
      rest : answer_after l.points l.lacks l.last (drop l.b-index l.s) ≡ points_of l.s;
    }
