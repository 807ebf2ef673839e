use Rattle.std.proofs.Common.{◌+◌, ◌-◌, arith}
use Rattle.pin_words.specs.Laws.{top_shr}
use Rattle.pin_words.proofs.pin_bit.Goals as goal

pub returns : goal.returns
returns c =
    let a = c.args in
    top_shr (a.pin - a.m) (a.m + 15 - a.pin) (omega arith)
