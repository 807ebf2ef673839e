use Rattle.std.proofs.Common.{◌-◌, arith, refl, sym, ◌∙◌, le-ltb}
use Rattle.std.specs.Int.{from_bool}
use Rattle.base_zero.specs.BaseZero.{lowered}
use Rattle.pin_words.specs.Code.{on_pin}
use Rattle.pin_words.specs.Laws.{level_on, or_on, limit_in, limit_out, all_taken}
use Rattle.pin_words.proofs.one_pin.Goals as goal

pub returns-then-limit-pin : goal.returns-then-limit-pin
unfolding on_pin
returns-then-limit-pin c =
    let a = c.args in
    rw (le-ltb (lowered a.m a.pin) 16 (limit_out a.m a.pin (omega arith) (rw (sym c.limit.ensures) c.if-limit-pin.true))) refl

pub returns : goal.returns
returns c =
    let a = c.args in
    let i = limit_in a.m a.pin (rw (sym c.limit.ensures) c.if-limit-pin.false) in
    let v = c.with_level.ensures ∙ level_on a.s.value (a.pin - a.m) c.pin_bit-bit.result (from_bool c.bit_of.result) i.1 c.pin_bit-bit.ensures in
    let u = or_on a.s.mapped (a.pin - a.m) c.pin_bit-bit.result i.1 c.pin_bit-bit.ensures in
    rw (v, u, i.0, c.bit_of.ensures, all_taken a.i c.requires.0) refl
