use Rattle.std.proofs.Common.{arith}
use Rattle.write_rows.proofs.RowSteps.{roms_fit}
use Rattle.write_rows.proofs.write_rom_sets.Goals as goal

-- the rows of the sets so far lie within those of all
pub slice_bounds-roms-end : goal.slice_bounds-roms-end
slice_bounds-roms-end c =
    let v = c.loop-i.invariant in
    omega (
      arith,
      roms_fit _ _ c.args.by.filenames _ _ _ _ v.address_is_set _ c.part_from-s.ensures _ v.total_is_sum _ _ c.u8_at.ensures c.total_with-next.ensures _ c.loop-i-test.true,
      c.loop-i.auto.rom_rows,
    )
