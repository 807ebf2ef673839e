use Rattle.pin_words.proofs.with_level.Goals as goal
use Rattle.pin_words.proofs.with_level.Goals.{then-high, else-high}
use Rattle.pin_words.proofs.Steps.{set_high, set_low}

pub returns : goal.returns
returns c =
    let a = c.args in
    elim c.if-high.branch [ then-high w ↦ rw (w.result-is, w.if-high.true) (set_high a.v a.bit) | else-high w ↦ rw (w.result-is, w.if-high.false) (set_low a.v a.bit) ]
