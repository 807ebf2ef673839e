-- Document 01, "Metadata": looked for or not, and what the walk then goes by.
use Rattle.std.specs.Prelude.{ℕ, Bool, eqb}
use Rattle.base.specs.Choice.{pick}
use Rattle.prog.specs.Prog.{Prog, done, map_p}
use Rattle.header.specs.declared.SdrrInfoHeader.{SdrrInfoHeader}
use Rattle.version.specs.Version.{from050}
use Rattle.metadata.specs.declared.MetadataItem.{MetadataItem}
use Rattle.metadata.specs.Metadata.{MetadataAnswer, metadata_p}

-- metadata: not looked for, or looked for with its answer
pub data Looked : Type 0 where
  not_looked_for : Looked
  looked : MetadataAnswer → Looked

-- "Metadata": looked for only from 0.5.0, at the header's sets pointer
unfoldable pub look_p : ℕ → SdrrInfoHeader → Prog Looked
look_p base h = pick (from050 h.fields.version) (map_p looked (metadata_p base h.rom_sets_ptr)) (done not_looked_for)

-- the set count and the sets pointer that the walk goes by. From 0.5.0 the header's are dropped; metadata's take their place where it is
-- accepted, and its refusals leave the count 0
abbrev pub set_count : SdrrInfoHeader → Looked → ℕ
set_count h not_looked_for = h.rom_set_count
set_count h (looked m) = m.rom_set_count

abbrev pub sets_pointer : SdrrInfoHeader → Looked → ℕ
sets_pointer h not_looked_for = h.rom_sets_ptr
sets_pointer h (looked m) = m.rom_sets_ptr

abbrev pub metadata_ended : Looked → Bool
metadata_ended not_looked_for = Bool.false
metadata_ended (looked m) = eqb m.number 2

-- the metadata item of the report
abbrev pub metadata_item : Looked → MetadataItem
metadata_item not_looked_for = MetadataItem.NotLookedFor
metadata_item (looked m) = MetadataItem.Looked m.number
