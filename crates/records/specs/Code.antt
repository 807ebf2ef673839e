-- The records at the header's pointers, each by its own read program.
use Rattle.std.specs.Prelude.{ℕ, List}
use Rattle.prog.specs.Prog.{run}
use Rattle.text.specs.declared.Text.{Text}
use Rattle.text.specs.Text.{text_p}
use Rattle.header.specs.declared.SdrrInfoHeader.{SdrrInfoHeader}
use Rattle.extra_info.specs.declared.ExtraInfoItem.{ExtraInfoItem}
use Rattle.extra_info.specs.ExtraInfo.{extra_info_p}
use Rattle.pins.specs.declared.PinsItem.{PinsItem}
use Rattle.pins.specs.Pins.{pins_p}
use Rattle.records.specs.declared.Records.{Records}
use Rattle.sets_source.specs.Looked.{look_p}
use Rattle.sets_source.specs.Code.{SourceShown, source_of, source_shown}

pub record RecordsShown : Type 0 where
  pub build_date : Text
  pub hw_rev : Text
  pub extra_info : ExtraInfoItem
  pub sets : SourceShown
  pub pins : PinsItem

-- on the image x with the base in force after the header
unfoldable pub records_of : ℕ → SdrrInfoHeader → List ℕ → RecordsShown
records_of base h x =
    record {
      build_date = run (text_p base h.build_date_ptr) x;
      hw_rev = run (text_p base h.hw_rev_ptr) x;
      extra_info = run (extra_info_p base h.extra_ptr h.fields.version) x;
      sets = source_of h (run (look_p base h) x);
      pins = run (pins_p base h.pins_ptr) x;
    }

-- the same of the code's records
abbrev pub records_shown : Records → RecordsShown
records_shown r = record { build_date = r.build_date; hw_rev = r.hw_rev; extra_info = r.extra_info; sets = source_shown r.sets; pins = r.pins }
