-- The sets item as the code makes it, from what metadata gives and the walk's number. Laws has it that this is what Sets says.
use Rattle.std.specs.Prelude.{ℕ, List, [], eqb}
use Rattle.base.specs.Choice.{pick}
use Rattle.prog.specs.Prog.{run}
use Rattle.header.specs.declared.SdrrInfoFields.{SdrrInfoFields}
use Rattle.walk.specs.Walk.{RomSet, Part, stop, walk_p}
use Rattle.sets_source.specs.Code.{SourceShown}
use Rattle.sets_item.specs.declared.SetsItem.{SetsItem}

-- the walk that metadata leaves: ended where metadata ended
unfoldable pub walk_of : ℕ → SdrrInfoFields → SourceShown → List ℕ → Part (List RomSet)
walk_of base f s x = pick s.ended (stop 2 []) (run (walk_p base f s.rom_set_count s.rom_sets_ptr) x)

-- the sets item of a walk's number
unfoldable pub item_of : ℕ → ℕ → SetsItem
item_of number count = record { number = number; rom_set_count = count; served = pick (eqb number 0) count 0 }
