-- Demand 3: when an opening is ended, and what an image cut short shows beside the whole.
use Rattle.std.specs.Prelude.{ℕ, ◌<◌, ◌≡◌, ◌⊎◌, List, map, length, get_or}
use Rattle.text.specs.declared.Text.{Text}
use Rattle.text.specs.Text as T
use Rattle.metadata.specs.declared.MetadataItem.{MetadataItem}
use Rattle.walk.specs.Walk.{RomSet, roms_of}
use Rattle.walk.specs.Rows.{set_rows_of, rom_front}
use Rattle.sdrr_info.specs.declared.SdrrInfo.{SdrrInfo}
use Rattle.fw_parser.specs.Opening.{Opened, refused, opened}

-- a name of the list, by its ROM row
abbrev pub name_of : List Text → ℕ → Text
name_of names i = get_or names i (T.refused_text 1)

-- at least one item is marked as ended, the name of each ROM row being an item too
abbrev pub EndedReport : SdrrInfo → List RomSet → List Text → Type 0
EndedReport r ss names =
    (r.build_date.number ≡ 2)
    ⊎ ((r.hw_rev.number ≡ 2)
    ⊎ ((r.extra_info.number ≡ 2)
    ⊎ ((r.metadata ≡ MetadataItem.Looked 2)
    ⊎ ((r.rom_sets.number ≡ 2)
    ⊎ (((i : ℕ) × (i < length (roms_of ss)) × ((name_of names i).number ≡ 2))
    ⊎ (r.pins.number ≡ 2))))))

-- the opening is refused as ended, or an item is ended
abbrev pub EndedOpening : Opened → Type 0
EndedOpening (refused n) = n ≡ 2
EndedOpening (opened r ss names) = EndedReport r ss names

-- Item for item: the first's is ended, or the same in the second. The header's fields, without set count and sets pointer, count as an item. Sets
-- that are ended serve none. The rows go with the sets item, but for the words of the names, which are items themselves: each ROM row has one.
pub record Kept (r : SdrrInfo) (ss : List RomSet) (names : List Text) (r' : SdrrInfo) (ss' : List RomSet) (names' : List Text) : Type 0 where
  pub header : r.fields ≡ r'.fields
  pub build_date : (r.build_date.number ≡ 2) ⊎ (r.build_date ≡ r'.build_date)
  pub revision : (r.hw_rev.number ≡ 2) ⊎ (r.hw_rev ≡ r'.hw_rev)
  pub extra_info : (r.extra_info.number ≡ 2) ⊎ (r.extra_info ≡ r'.extra_info)
  pub metadata : (r.metadata ≡ MetadataItem.Looked 2) ⊎ (r.metadata ≡ r'.metadata)
  pub sets :
      ((r.rom_sets.number ≡ 2) × (r.rom_sets.served ≡ 0))
      ⊎ ((r.rom_sets ≡ r'.rom_sets)
      × (set_rows_of ss ≡ set_rows_of ss')
      × (map rom_front (roms_of ss) ≡ map rom_front (roms_of ss')))
  pub each_name : (i : ℕ) → i < length (roms_of ss)
      → (i < length names) × (((name_of names i).number ≡ 2) ⊎ ((i < length names') × (name_of names i ≡ name_of names' i)))
  pub pins : (r.pins.number ≡ 2) ⊎ (r.pins ≡ r'.pins)

-- what a cut image's opening shows beside the whole's: refused as ended, or every item kept
abbrev pub KeptOpening : Opened → Opened → Type 0
KeptOpening (refused n) w = n ≡ 2
KeptOpening (opened r ss names) (refused m) = ⊥
KeptOpening (opened r ss names) (opened r' ss' names') = Kept r ss names r' ss' names'
