use Rattle.std.proofs.Common.{arith, sym}
use Rattle.strings.proofs.Steps.{short_told}
use Rattle.strings.proofs.short_ascii.Goals as goal

pub returns : goal.returns
returns c =
    let o = c.in_ok-offset.ensures in
    let part = c.in_ok-chunk.ensures.lookup.0 in
    let told = short_told c.args.w.image.now c.args.w.base c.args.ptr o.0 (omega (arith, c.ranges.ptr)) (omega (arith, o.1, part.1)) in
    let at = told _ (rw o.1 at part.2) _ (sym c.in_ok-n.ensures) (omega arith) in
    record { told = rw o.1 at; short = record { from = λ h. o.0; told = λ h. at } }
