-- The report as C and Rust hold it: every item's number and values, in numbers of their own widths.
use Rattle.std.specs.Prelude.{ℕ, Bool, Option, Some, None}
use Rattle.base.specs.Choice.{pick}
use Rattle.type_numbers.specs.TypeNumbers.{line_number, storage_number, port_number}
use Rattle.text.specs.declared.Text.{Text}
use Rattle.header.specs.declared.SdrrInfoFields.{SdrrInfoFields}
use Rattle.extra_info.specs.declared.ExtraInfoItem.{ExtraInfoItem}
use Rattle.metadata.specs.declared.MetadataItem.{MetadataItem}
use Rattle.pins.specs.declared.PinsItem.{PinsItem}
use Rattle.sets_item.specs.declared.SetsItem.{SetsItem}
use Rattle.sdrr_info.specs.declared.SdrrInfo.{SdrrInfo}
use Rattle.c_report.specs.declared.OneromHeader.{OneromHeader}
use Rattle.c_report.specs.declared.OneromString.{OneromString}
use Rattle.c_report.specs.declared.OneromExtraInfo.{OneromExtraInfo}
use Rattle.c_report.specs.declared.OneromMetadata.{OneromMetadata}
use Rattle.c_report.specs.declared.OneromSets.{OneromSets}
use Rattle.c_report.specs.declared.OneromPins.{OneromPins}
use Rattle.c_report.specs.declared.OneromReport.{OneromReport}

-- a flag is 1 or 0
abbrev pub bit : Bool → ℕ
bit b = pick b 1 0

unfoldable pub header_out : SdrrInfoFields → OneromHeader
header_out f =
    record {
      major = f.version.major;
      minor = f.version.minor;
      patch = f.version.patch;
      build = f.version.build;
      freq = f.freq;
      commit = f.commit;
      line = line_number f.stm_line;
      storage = storage_number f.stm_storage;
      overclock = bit f.overclock;
      swd_enabled = bit f.swd_enabled;
      preload_image_to_ram = bit f.preload_image_to_ram;
      bootloader_capable = bit f.bootloader_capable;
      status_led_enabled = bit f.status_led_enabled;
      boot_logging_enabled = bit f.boot_logging_enabled;
      mco_enabled = bit f.mco_enabled;
      count_rom_access = bit f.count_rom_access;
      boot_config = f.boot_config;
    }

unfoldable pub string_out : Text → OneromString
string_out t = record { number = t.number; offset = t.offset; length = t.length; width = t.width }

-- 0 off, 1 on, 2 not given
unfoldable pub pio_number : Option Bool → ℕ
pio_number None = 2
pio_number (Some on) = bit on

unfoldable pub extra_out : ExtraInfoItem → OneromExtraInfo
extra_out i =
    record {
      number = i.number;
      usb_dfu = bit i.extra_info.usb_dfu;
      usb_port = port_number i.extra_info.usb_port;
      vbus_pin = i.extra_info.vbus_pin;
      fire_pio_default = pio_number i.extra_info.fire_pio_default;
      rtt_ptr = i.extra_info.rtt_ptr;
      runtime_info_ptr = i.extra_info.runtime_info_ptr;
    }

-- not looked for: both 0
unfoldable pub metadata_out : MetadataItem → OneromMetadata
metadata_out MetadataItem.NotLookedFor = record { looked_for = 0; number = 0 }
metadata_out (MetadataItem.Looked n) = record { looked_for = 1; number = n }

unfoldable pub sets_out : SetsItem → OneromSets
sets_out s = record { number = s.number; rom_set_count = s.rom_set_count; served = s.served }

unfoldable pub pins_out : PinsItem → OneromPins
pins_out i =
    record {
      number = i.number;
      data_port = port_number i.pins.data_port;
      addr_port = port_number i.pins.addr_port;
      cs_port = port_number i.pins.cs_port;
      sel_port = port_number i.pins.sel_port;
      status_port = port_number i.pins.status_port;
      rom_pins = i.pins.rom_pins;
      «data» = i.pins.«data»;
      addr = i.pins.addr;
      cs1 = i.pins.cs1;
      cs2 = i.pins.cs2;
      cs3 = i.pins.cs3;
      reserved2a = i.pins.reserved2a;
      reserved2b = i.pins.reserved2b;
      reserved2c = i.pins.reserved2c;
      x1 = i.pins.x1;
      x2 = i.pins.x2;
      ce = i.pins.ce;
      oe = i.pins.oe;
      x_jumper_pull = i.pins.x_jumper_pull;
      swclk_sel = i.pins.swclk_sel;
      swdio_sel = i.pins.swdio_sel;
      sel0 = i.pins.sel0;
      sel1 = i.pins.sel1;
      sel2 = i.pins.sel2;
      sel3 = i.pins.sel3;
      sel4 = i.pins.sel4;
      sel5 = i.pins.sel5;
      sel6 = i.pins.sel6;
      sel_jumper_pull = i.pins.sel_jumper_pull;
      status = i.pins.status;
      extended = i.pins.extended;
      data2 = i.pins.data2;
      addr2 = i.pins.addr2;
    }

unfoldable pub report_out : SdrrInfo → OneromReport
report_out r =
    record {
      header = header_out r.fields;
      build_date = string_out r.build_date;
      hw_rev = string_out r.hw_rev;
      extra_info = extra_out r.extra_info;
      metadata = metadata_out r.metadata;
      rom_sets = sets_out r.rom_sets;
      pins = pins_out r.pins;
    }
