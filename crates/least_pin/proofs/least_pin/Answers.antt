use Rattle.std.proofs.Common.{ap, ◌∙◌, eq-eqb}
use Rattle.least_pin.specs.LeastPin.{controls, least_of, least_pin}
use Rattle.least_pin.specs.Laws.{min_is, least_seven}
use Rattle.least_pin.proofs.least_pin.Goals as goal

pub returns : goal.returns
unfolding least_pin
returns c =
    let p = c.args.pins in
    simp (eq-eqb _ _ c.if-pins-ne24.false) (
    least_seven p.cs1 p.cs2 p.cs3 p.x1 p.x2 p.ce p.oe c.least_address-m.result c.least_of_four-k.result c.least_of_four-l.result c.min.result
    c.least_of_four-k.ensures c.least_of_four-l.ensures (c.min.ensures ∙ min_is _ _)
    ∙ ap (least_of (controls p)) c.least_address-m.ensures
    )
