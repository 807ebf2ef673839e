-- Document 01, "Extra info": 256 bytes.
use Rattle.std.specs.Prelude.{ℕ, Bool, false, List, Option, Some, None, Result, Ok, Err, ltb, length}
use Rattle.base.specs.Choice.{pick}
use Rattle.le.specs.Le.{u8_at, u32_at, flag_at}
use Rattle.refusal.specs.declared.Refusal.{Refusal}
use Rattle.refusal.specs.Refusal.{number_of}
use Rattle.types.specs.declared.SdrrMcuPort.{SdrrMcuPort}
use Rattle.types.specs.Types.{port_of}
use Rattle.prog.specs.Prog.{Prog, record_p}
use Rattle.version.specs.declared.FirmwareVersion.{FirmwareVersion}
use Rattle.version.specs.Version.{from060}
use Rattle.extra_info.specs.declared.SdrrExtraInfo.{SdrrExtraInfo}
use Rattle.extra_info.specs.declared.ExtraInfoItem.{ExtraInfoItem}

-- the PIO default flag is given from 0.6.0
abbrev pub pio_default_of : FirmwareVersion → List ℕ → Option Bool
pio_default_of v s = pick (from060 v) (Some (flag_at s 7)) None

-- where each field stands in the record; a USB port that is not known counts as none
unfoldable pub extra_info_fields : FirmwareVersion → List ℕ → SdrrExtraInfo
extra_info_fields v s =
    record {
      rtt_ptr = u32_at s 0;
      usb_dfu = flag_at s 4;
      usb_port = port_of (u8_at s 5);
      vbus_pin = u8_at s 6;
      fire_pio_default = pio_default_of v s;
      runtime_info_ptr = u32_at s 8;
    }

-- Refused: the runtime pointer is FFFFFFFF.
unfoldable pub no_extra_info : SdrrExtraInfo
no_extra_info =
    record {
      rtt_ptr = 0;
      usb_dfu = false;
      usb_port = SdrrMcuPort.None;
      vbus_pin = 0;
      fire_pio_default = None;
      runtime_info_ptr = 4294967295;
    }

abbrev pub refused_extra_info : ℕ → ExtraInfoItem
refused_extra_info n = record { number = n; extra_info = no_extra_info }

-- that item of the code's result
abbrev pub extra_info_item : Result SdrrExtraInfo Refusal → ExtraInfoItem
extra_info_item (Ok e) = record { number = 0; extra_info = e }
extra_info_item (Err r) = refused_extra_info (number_of r)

-- the record from its address on; 2: ended
unfoldable pub extra_info_of : FirmwareVersion → List ℕ → ExtraInfoItem
extra_info_of v s = pick (ltb (length s) 256) (refused_extra_info 2) (record { number = 0; extra_info = extra_info_fields v s })

-- 3: below base. 2: ended.
unfoldable pub extra_info_p : ℕ → ℕ → FirmwareVersion → Prog ExtraInfoItem
extra_info_p base pointer v = record_p base pointer 256 refused_extra_info (extra_info_of v)
