-- ROM data as the code goes about it: what it needs of a set, and where the set's bytes stand in the image.
use Rattle.std.specs.Prelude.{ℕ, ◌+◌, ◌-◌, not, List, ltb, eqb}
use Rattle.base.specs.Choice.{pick}
use Rattle.window.specs.Window.{can_read}
use Rattle.rows.specs.LentRows.{set_number, data_pointer, size_of}
use Rattle.set_data.specs.declared.SetData.{SetData}
use Rattle.set_data.specs.declared.Found.{Found}

abbrev pub set_data : (served : ℕ) → List ℕ → ℕ → SetData
set_data served sets set = record { number = set_number served sets set; pointer = data_pointer sets set; size = size_of sets set }

abbrev pub not_found : ℕ → Found
not_found n = record { number = n; at = 0 }

-- 80 and 4, then 81, then 2
unfoldable pub found_of : List ℕ → ℕ → SetData → ℕ → ℕ → Found
found_of x base d offset n =
    pick (not (eqb d.number 0)) (not_found d.number)
    (pick (ltb d.size (offset + n)) (not_found 81)
    (pick (can_read x base (d.pointer + offset) n) (record { number = 0; at = d.pointer + offset - base }) (not_found 2)))
