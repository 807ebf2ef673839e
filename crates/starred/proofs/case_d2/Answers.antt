use Rattle.std.proofs.Common.{◌∙◌}
use Rattle.starred.specs.Table.{Case, starred}
use Rattle.starred.proofs.case_d2.Goals as goal

pub returns : goal.returns
returns c = c.byte_answer.ensures ∙ starred Case.D2
