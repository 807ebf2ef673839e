use Rattle.std.proofs.Common.{◌≡◌, ◌*◌, ◌≤◌}
use Rattle.walk.specs.Rows.{counts_of}
use Rattle.walk.specs.Code.Passes.{sets_number, set_address, sets_at}
use Rattle.judge_walk.proofs.judge_sets.Given as goal

-- Before set i, also in a walk that is refused later:
-- the total is the sum of the earlier sets' counts;
-- the address is set i's;
-- no earlier set is refused;
-- and the bound by which the sums fit.
abbrev pub invariant-loop-i : goal.invariant-loop-i
invariant-loop-i l =
    record {
      total_is_sum : l.total ≡ counts_of (sets_at l.by.window.image.now l.by.window.base l.by.filenames l.by.long l.ptr l._i);
      address_is_set : l.address ≡ set_address l.by.window.image.now l.by.window.base l.by.long l.ptr l._i;
      none_refused : sets_number l.by.window.image.now l.by.window.base l.by.filenames l.by.long l.ptr l._i ≡ 0;
      total_fits : l.total ≤ 255 * l._i;
    }
