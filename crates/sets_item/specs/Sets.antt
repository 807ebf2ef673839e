-- Document 01, "Report": the sets item.
use Rattle.std.specs.Prelude.{ℕ, List, []}
use Rattle.base.specs.Choice.{pick}
use Rattle.prog.specs.Prog.{Prog, done, map_p}
use Rattle.header.specs.declared.SdrrInfoHeader.{SdrrInfoHeader}
use Rattle.walk.specs.Walk.{RomSet, Part, stop, found, walk_p}
use Rattle.sets_source.specs.Looked.{Looked, set_count, sets_pointer, metadata_ended}
use Rattle.sets_item.specs.declared.SetsItem.{SetsItem}

-- what the sets item is made of: the set count that the walk was given, and the walk
pub record Sets : Type 0 where
  pub count : ℕ
  pub walk : Part (List RomSet)

abbrev pub counted : ℕ → Part (List RomSet) → Sets
counted n w = record { count = n; walk = w }

-- Sets are marked ended, and none is served, where metadata ended.
unfoldable pub sets_item_p : ℕ → SdrrInfoHeader → Looked → Prog Sets
sets_item_p base h l =
    map_p (counted (set_count h l)) (pick (metadata_ended l) (done (stop 2 [])) (walk_p base h.fields (set_count h l) (sets_pointer h l)))

-- An accepted item serves as many sets as are counted. A refused walk keeps that count and serves none.
abbrev pub sets_item : ℕ → Part (List RomSet) → SetsItem
sets_item count (stop n passed) = record { number = n; rom_set_count = count; served = 0 }
sets_item count (found ss) = record { number = 0; rom_set_count = count; served = count }
