use Rattle.std.proofs.Common.{◌≡◌, ◌*◌, ◌≤◌}
use Rattle.walk.specs.Walk.{roms_of}
use Rattle.walk.specs.Rows.{counts_of, set_rows_of, overwritten}
use Rattle.walk.specs.Code.Passes.{set_address, sets_at}
use Rattle.write_rows.specs.Code.{named_rows}
use Rattle.write_rows.proofs.write_rom_sets.Given as goal

-- Before set i:
-- the total is the sum of the earlier sets' counts;
-- the address is set i's;
-- the rows of the earlier sets and of their ROMs are written;
-- and the bound by which the sums fit.
abbrev pub invariant-loop-i : goal.invariant-loop-i
invariant-loop-i l =
    record {
      total_is_sum : l.total ≡ counts_of (sets_at l.by.window.image.now l.by.window.base l.by.filenames l.by.long l.ptr l.i);
      address_is_set : l.address ≡ set_address l.by.window.image.now l.by.window.base l.by.long l.ptr l.i;
      sets_written : l.set_rows ≡ overwritten (set_rows_of (sets_at l.by.window.image.now l.by.window.base l.by.filenames l.by.long l.ptr l.i)) l.initial.set_rows;
      roms_written : l.rom_rows ≡ overwritten (named_rows l.by.window.image.now l.by.window.base (roms_of (sets_at l.by.window.image.now l.by.window.base l.by.filenames l.by.long l.ptr l.i))) l.initial.rom_rows;
      total_fits : l.total ≤ 255 * l.i;
    }
