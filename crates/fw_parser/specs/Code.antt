-- The opening as the code goes through it, from the records at the header's pointers and the walk's number.
-- Laws/Steps has it that this is what the opening's definition says.
use Rattle.std.specs.Prelude.{ℕ, Bool, ◌||◌, eqb}
use Rattle.header.specs.declared.SdrrInfoFields.{SdrrInfoFields}
use Rattle.records.specs.Code.{RecordsShown}
use Rattle.sets_item.specs.Code.{item_of}
use Rattle.sdrr_info.specs.declared.SdrrInfo.{SdrrInfo}

-- a walk's number that refuses the opening
abbrev pub is_short : ℕ → Bool
is_short n = eqb n 44 || eqb n 45

-- the report with that number
unfoldable pub report_with : SdrrInfoFields → RecordsShown → ℕ → SdrrInfo
report_with f r number =
    record {
      fields = f;
      build_date = r.build_date;
      hw_rev = r.hw_rev;
      extra_info = r.extra_info;
      metadata = r.sets.metadata;
      rom_sets = item_of number r.sets.rom_set_count;
      pins = r.pins;
    }
