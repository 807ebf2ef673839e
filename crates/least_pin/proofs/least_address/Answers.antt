use Rattle.std.proofs.Common.{rules}
use Rattle.least_pin.specs.Laws.{least_sixteen}
use Rattle.least_pin.proofs.least_address.Goals as goal

pub returns : goal.returns
returns c =
    least_sixteen c.args.a c.least_of_four-m0.result c.least_of_four-m1.result c.least_of_four-m2.result c.least_of_four-m3.result c.least_of_four.result (search rules) (search rules)
    c.least_of_four-m0.ensures c.least_of_four-m1.ensures c.least_of_four-m2.ensures c.least_of_four-m3.ensures c.least_of_four.ensures
