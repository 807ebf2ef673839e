-- The table of the classes obeys the rule, by one computed test of all 256 entries.
use Rattle.std.proofs.Common.{ℕ, List, length, ◌≡◌, refl}
use lib.Dec.{T}
use Rattle.utf8.specs.Utf8.{class_of, ClassTable}
use Rattle.utf8.proofs.Table.{obeys, at_place}
use Rattle.utf8.proofs.code_points.Goals as goal

class-table : (table : List ℕ) → length table ≡ 256 → T (obeys class_of 0 table) → ClassTable table
class-table table e t = record { rule = λ b h. at_place class_of table t b (rw e h) }

pub scan-requires : goal.scan-requires
unfolding class_of
scan-requires c = class-table _ refl tt
