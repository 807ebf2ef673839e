use Rattle.info.specs.Lent.{lent_by}
use Rattle.own_reads.specs.Laws.Steps.{byte_own}
use Rattle.own_reads.proofs.byte_own_on_count.Goals as goal

pub returns : goal.returns
returns c =
    let a = c.args in
    byte_own a.board.flash_base a.board.cs0_base (lent_by a.board a.set_rows.now a.rom_rows.now) a.count a.image.now a.set a.address a.cs_set
    _ c.mangle_own-m.ensures _ c.byte_at-raw.ensures _ c.shown_own.ensures
