use Rattle.refusal.specs.Refusal.{valued}
use Rattle.c_own.specs.Laws.{own_read}
use Rattle.c_own.proofs.own_byte_on_count.Goals as goal

pub returns : goal.returns
returns c =
    let e = c.args in
    let read =
    own_read e.flash_base e.cs0_base e.report e.set_rows.now e.rom_rows.now e.set e.address e.levels.now e.count.now e.image.now
    c.line_in-line.result c.line_in-line.ensures c.pins_in-pins.result c.pins_in-pins.ensures c.levels_from-cs_set.result c.levels_from-cs_set.ensures
    (valued c.mangle_own-m.result) c.mangle_own-m.ensures c.byte_at-raw.result c.byte_at-raw.ensures c.shown_own-shown.result c.shown_own-shown.ensures in
    record { reply = cc; count = cc; value = cc }
