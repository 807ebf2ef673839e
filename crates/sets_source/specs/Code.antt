-- What metadata gives, as the code hands it on.
use Rattle.std.specs.Prelude.{ℕ, Bool, Option, Some, None}
use Rattle.header.specs.declared.SdrrInfoHeader.{SdrrInfoHeader}
use Rattle.metadata.specs.declared.MetadataItem.{MetadataItem}
use Rattle.metadata.specs.declared.OneRomMetadataHeader.{OneRomMetadataHeader}
use Rattle.metadata.specs.Metadata.{metadata_shown}
use Rattle.sets_source.specs.declared.SetsSource.{SetsSource}
use Rattle.sets_source.specs.Looked.{Looked, set_count, sets_pointer, metadata_ended, metadata_item}

-- metadata's item, whether metadata ended, and the set count and the sets pointer that the walk goes by
pub record SourceShown : Type 0 where
  pub metadata : MetadataItem
  pub ended : Bool
  pub rom_set_count : ℕ
  pub rom_sets_ptr : ℕ

-- what metadata, looked for or not, gives to the report and to the walk
abbrev pub source_of : SdrrInfoHeader → Looked → SourceShown
source_of h l = record { metadata = metadata_item l; ended = metadata_ended l; rom_set_count = set_count h l; rom_sets_ptr = sets_pointer h l }

-- the same of the code's source, which has no sets where metadata ended
abbrev pub lacks_sets : Option OneRomMetadataHeader → Bool
lacks_sets (Some s) = Bool.false
lacks_sets None = Bool.true

abbrev pub count_shown : Option OneRomMetadataHeader → ℕ
count_shown (Some s) = s.rom_set_count
count_shown None = 0

abbrev pub pointer_shown : Option OneRomMetadataHeader → ℕ
pointer_shown (Some s) = s.rom_sets_ptr
pointer_shown None = 0

abbrev pub source_shown : SetsSource → SourceShown
source_shown s =
    record {
      metadata = metadata_shown s.metadata;
      ended = lacks_sets s.sets;
      rom_set_count = count_shown s.sets;
      rom_sets_ptr = pointer_shown s.sets;
    }
