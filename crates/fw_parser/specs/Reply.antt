-- What the opening replies: its number and report. A refused opening has fixed values beside its number.
use Rattle.std.specs.Prelude.{ℕ}
use Rattle.text.specs.Text.{refused_text}
use Rattle.header.specs.Header.{no_header}
use Rattle.metadata.specs.declared.MetadataItem.{MetadataItem}
use Rattle.extra_info.specs.ExtraInfo as extra
use Rattle.pins.specs.Pins as pins
use Rattle.sdrr_info.specs.declared.SdrrInfo.{SdrrInfo}
use Rattle.fw_parser.specs.declared.Opening.{Opening}
use Rattle.fw_parser.specs.Opening.{Opened, opened}
use Rattle.fw_parser.specs.Opening as o

-- zeros, the runtime pointer FFFFFFFF
unfoldable pub no_report : SdrrInfo
no_report =
    record {
      fields = no_header.fields;
      build_date = refused_text 0;
      hw_rev = refused_text 0;
      extra_info = extra.refused_extra_info 0;
      metadata = MetadataItem.NotLookedFor;
      rom_sets = record { number = 0; rom_set_count = 0; served = 0 };
      pins = pins.refused_pins 0;
    }

abbrev pub refused_opening : ℕ → Opening
refused_opening n = record { number = n; info = no_report }

unfoldable pub opening_reply : Opened → Opening
opening_reply (o.refused n) = refused_opening n
opening_reply (opened r ss names) = record { number = 0; info = r }
