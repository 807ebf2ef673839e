use Rattle.std.proofs.Common.{◌≡◌, ◌+◌, ◌*◌, ◌^◌, get_or, sym, ◌∙◌, arith}
use Rattle.demangle.specs.Bits.{taken_bit}
use Rattle.demangle.specs.Laws.{taken_lt}
use Rattle.demangle.proofs.Steps.{gather_on, gather_end, with_lt}
use Rattle.demangle.proofs.gathered.Goals as goal

pub loop-i-preserved : goal.loop-i-preserved
loop-i-preserved c =
    let l = c.loop-i in
    let a = c.args in
    let t = taken_bit a.x (get_or a.entries.now l.i 0) in
    let n : c.with_bit-r.result ≡ l.r + t * 2 ^ l.i = rw (c.with_bit-r.ensures, c.bit_of.ensures) in
    (rw n (with_lt l.r t l.i l.invariant.0 (taken_lt a.x _)), rw n (gather_on a.entries.now a.x l.r l.i (omega arith) ∙ l.invariant.1))

pub returns : goal.returns
returns c =
    let l = c.loop-i in
    sym (gather_end c.args.entries.now c.args.x l.r l.i c.loop-i-test.false) ∙ l.invariant.1
