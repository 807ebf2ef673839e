use Rattle.std.proofs.Common.{◌∙◌}
use Rattle.starred.specs.Table.{Case, starred}
use Rattle.starred.proofs.case_t2.Goals as goal

pub returns : goal.returns
returns c = c.string_answer.ensures ∙ starred Case.T2
