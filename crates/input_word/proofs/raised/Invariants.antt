use Rattle.std.proofs.Common.{◌≡◌, drop}
use Rattle.input_word.specs.Laws.{raised_by}
use Rattle.input_word.proofs.raised.Given as goal

abbrev pub invariant-loop-i : goal.invariant-loop-i
invariant-loop-i l = raised_by (drop l.i l.masks) (drop l.i l.high-items) l.w ≡ raised_by l.masks l.fn.levels l.word
