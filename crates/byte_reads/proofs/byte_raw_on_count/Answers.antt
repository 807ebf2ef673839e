use Rattle.info.specs.Lent.{lent_by}
use Rattle.byte_reads.specs.Laws.Steps.{byte_raw}
use Rattle.byte_reads.proofs.byte_raw_on_count.Goals as goal

pub returns : goal.returns
returns c =
    let a = c.args in
    byte_raw a.board.flash_base a.board.cs0_base (lent_by a.board a.set_rows.now a.rom_rows.now) a.count a.image.now a.set a.address
    _ c.physical_address-m.ensures _ c.byte_at.ensures
