use Rattle.std.proofs.Common.{rules, arith}
use Rattle.std.proofs.lemmas.Grind.{common_steps}
use Rattle.runs.proofs.Steps.{all_bytes}
use Rattle.runs.proofs.bytes_at.Goals as goal

pub returns : goal.returns
returns g c =
    all_bytes _ _ c.unwrap_or-part.result.now (λ i y q k. search rules) _ _ c.from_fn.ensures.items c.args.s.now c.args.at (grind (arith, common_steps))
