use Rattle.std.proofs.Common.{◌≡◌, ◌+◌, ◌-◌, ◌*◌}
use Rattle.walk.specs.Code.Passes.{roms_number}
use Rattle.judge_walk.proofs.judge_roms.Given as goal

-- what is left of the table decides the number
abbrev pub invariant-loop-k : goal.invariant-loop-k
invariant-loop-k l =
    roms_number l.by.window.image.now l.by.window.base l.by.filenames (l.table + 4 * l.k) (l.count - l.k)
    ≡ roms_number l.by.window.image.now l.by.window.base l.by.filenames l.table l.count
