use Rattle.std.proofs.Common.{◌≡◌}
use Rattle.walk.specs.Rows.{overwritten}
use Rattle.walk.specs.Code.Passes.{roms_at}
use Rattle.write_rows.specs.Code.{named_rows}
use Rattle.write_rows.proofs.write_roms.Given as goal

-- the rows of the ROMs before ROM k are written
abbrev pub invariant-loop-k : goal.invariant-loop-k
invariant-loop-k l =
    l.rows ≡ overwritten (named_rows l.by.window.image.now l.by.window.base (roms_at l.by.window.image.now l.by.window.base l.by.filenames l.table l.k)) l.initial.rows
