use Rattle.std.proofs.Common.{◌∙◌}
use Rattle.starred.specs.Table.{Case, starred}
use Rattle.starred.proofs.case_r1.Goals as goal

pub returns : goal.returns
returns c = c.record_answer.ensures ∙ starred Case.R1
