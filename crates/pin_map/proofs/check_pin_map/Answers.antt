use Rattle.base_zero.specs.BaseZero.{base_zero, lowered_by}
use Rattle.least_pin.specs.Laws.{least_from}
use Rattle.mangle.specs.Laws.Words.{word_number_is}
use Rattle.pin_map.proofs.check_pin_map.Goals as goal

pub address_pins-placed-requires : goal.address_pins-placed-requires
address_pins-placed-requires c = rw c.least_pin-least.ensures (least_from c.args.pins)

pub returns : goal.returns
unfolding base_zero lowered_by
returns c =
    let a = c.args in
    rw (c.check.ensures, c.address_pins-placed.ensures, c.of.ensures, c.least_pin-least.ensures)
    (word_number_is a.pins a.set.rom_count a.set.rom_type 0)
