use Rattle.std.proofs.Common.{◌≡◌}
use lib.Seq.{paste}
use Rattle.write_rows.proofs.put_words.Given as goal

-- the words so far, and then what stood there
abbrev pub invariant-loop-i : goal.invariant-loop-i
invariant-loop-i l = l.row ≡ paste l.initial.row 0 l.words l.i
