use Rattle.base_zero.specs.BaseZero.{base_zero, lowered_by}
use Rattle.least_pin.specs.Laws.{least_from}
use Rattle.mangle.specs.Laws.Words.{word_core}
use Rattle.mangle.proofs.mangle_core.Goals as goal

pub address_pins-placed-requires : goal.address_pins-placed-requires
address_pins-placed-requires c = rw c.least_pin-least.ensures (least_from c.args.pins)

pub returns : goal.returns
unfolding base_zero lowered_by
returns c =
    let a = c.args in
    rw (c.mangled.ensures, c.address_pins-placed.ensures, c.input_word-word.ensures, c.levels.ensures, c.of.ensures, c.least_pin-least.ensures)
    (word_core a.pins a.set.rom_count a.set.rom_type a.address a.cs_set)
