use Rattle.std.proofs.Common.{◌∙◌}
use Rattle.starred.specs.Table.{Case, starred}
use Rattle.starred.proofs.case_m2.Goals as goal

pub returns : goal.returns
returns c = c.address_answer.ensures ∙ starred Case.M2
