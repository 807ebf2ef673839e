use Rattle.std.proofs.Common.{◌≡◌, ◌*◌, ◌%◌, ◌^◌, arith, refl, ◌∙◌, one-mul, le-ltb}
use Rattle.std.proofs.Math.Pow.{shl_exact}
use Rattle.std.specs.Int.{from_bool}
use Rattle.pin_words.specs.Code.{on_pin}
use Rattle.pin_words.specs.Laws.{level_on}
use Rattle.pin_words.proofs.put.Goals as goal

pub returns-then-pin-lt16 : goal.returns-then-pin-lt16
returns-then-pin-lt16 c =
    let a = c.args in
    let q : 1 * 2 ^ a.pin % 65536 ≡ 2 ^ a.pin = shl_exact {a = 1} 1 a.pin 16 (omega arith) (omega arith) ∙ one-mul (2 ^ a.pin) in
    c.with_level.ensures ∙ level_on a.v a.pin (1 * 2 ^ a.pin % 65536) (from_bool a.high) c.if-pin-lt16.true q

pub returns-else-pin-lt16 : goal.returns-else-pin-lt16
unfolding on_pin
returns-else-pin-lt16 c = rw (le-ltb c.args.pin 16 c.if-pin-lt16.false) refl
