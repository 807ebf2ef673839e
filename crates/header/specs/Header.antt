-- Document 01, "Info header": 64 bytes.
use Rattle.std.specs.Prelude.{ℕ, ◌+◌, Bool, false, not, ◌||◌, List, [], ◌∷◌, Result, Ok, Err, ltb, length}
use Rattle.base.specs.Choice.{pick}
use Rattle.le.specs.Le.{u8_at, u16_at, u32_at, flag_at}
use Rattle.magic.specs.Magic.{starts_with}
use Rattle.refusal.specs.declared.Refusal.{Refusal}
use Rattle.refusal.specs.Refusal.{number_of}
use Rattle.runs.specs.Runs.{four_at, eight_at}
use Rattle.types.specs.declared.McuLine.{McuLine}
use Rattle.types.specs.declared.McuStorage.{McuStorage}
use Rattle.types.specs.Types.{line_of, storage_of}
use Rattle.prog.specs.Prog.{Prog, done, fetch}
use Rattle.version.specs.declared.FirmwareVersion.{FirmwareVersion}
use Rattle.header.specs.declared.SdrrInfoFields.{SdrrInfoFields}
use Rattle.header.specs.declared.SdrrInfoHeader.{SdrrInfoHeader}
use Rattle.version.specs.Version.{version, below04, from051, from070}

-- "SDRR"
abbrev pub header_magic : List ℕ
header_magic = 83 ∷ 68 ∷ 82 ∷ 82 ∷ []

-- u16 major 4, minor 6, patch 8, build 10
abbrev pub version_of : List ℕ → FirmwareVersion
version_of s = version (u16_at s 4) (u16_at s 6) (u16_at s 8) (u16_at s 10)

-- commit of eight bytes 16; u16 line 28, storage 30, frequency 32; flags 34..40: overclock, SWD, preload, bootloader, LED, boot logging, MCO;
-- counting flag 42; boot config 52
unfoldable pub header_fields : List ℕ → SdrrInfoFields
header_fields s =
    record {
      version = version_of s;
      commit = eight_at s 16;
      stm_line = line_of (u16_at s 28);
      stm_storage = storage_of (u16_at s 30);
      freq = u16_at s 32;
      overclock = flag_at s 34;
      swd_enabled = flag_at s 35;
      preload_image_to_ram = flag_at s 36;
      bootloader_capable = flag_at s 37;
      status_led_enabled = flag_at s 38;
      boot_logging_enabled = flag_at s 39;
      mco_enabled = flag_at s 40;
      count_rom_access = flag_at s 42;
      boot_config = four_at s 52;
    }

-- extra pointer 56; below 0.4 it becomes FFFFFFFF
abbrev pub extra_pointer : List ℕ → ℕ
extra_pointer s = pick (below04 (version_of s)) 4294967295 (u32_at s 56)

-- build date pointer 12, hardware revision pointer 24, set count 41, sets pointer 44, pins pointer 48
unfoldable pub whole_of : List ℕ → SdrrInfoHeader
whole_of s =
    record {
      fields = header_fields s;
      build_date_ptr = u32_at s 12;
      hw_rev_ptr = u32_at s 24;
      rom_set_count = u8_at s 41;
      rom_sets_ptr = u32_at s 44;
      pins_ptr = u32_at s 48;
      extra_ptr = extra_pointer s;
    }

-- a refused header shows zeros
unfoldable pub no_header : SdrrInfoHeader
no_header =
    record {
      fields = record {
        version = version 0 0 0 0;
        commit = 0 ∷ 0 ∷ 0 ∷ 0 ∷ 0 ∷ 0 ∷ 0 ∷ 0 ∷ [];
        stm_line = McuLine.F401DE;
        stm_storage = McuStorage.Storage8;
        freq = 0;
        overclock = false;
        swd_enabled = false;
        preload_image_to_ram = false;
        bootloader_capable = false;
        status_led_enabled = false;
        boot_logging_enabled = false;
        mco_enabled = false;
        count_rom_access = false;
        boot_config = 0 ∷ 0 ∷ 0 ∷ 0 ∷ [];
      };
      build_date_ptr = 0;
      hw_rev_ptr = 0;
      rom_set_count = 0;
      rom_sets_ptr = 0;
      pins_ptr = 0;
      extra_ptr = 0;
    }

-- 0 and the header, or the number of its refusal and zeros
pub record HeaderAnswer : Type 0 where
  pub number : ℕ
  pub header : SdrrInfoHeader

abbrev pub refused_header : ℕ → HeaderAnswer
refused_header n = record { number = n; header = no_header }

-- that answer of the code's result
abbrev pub header_item : Result SdrrInfoHeader Refusal → HeaderAnswer
header_item (Ok h) = record { number = 0; header = h }
header_item (Err r) = refused_header (number_of r)

-- 2: fewer than 64 bytes. 10: magic. 11: line above 5. 12: storage above 7. 13: version at or past 0.7.0.
unfoldable pub header_of : List ℕ → HeaderAnswer
header_of s =
    pick (ltb (length s) 64) (refused_header 2)
    (pick (not (starts_with s header_magic)) (refused_header 10)
    (pick (ltb 5 (u16_at s 28)) (refused_header 11)
    (pick (ltb 7 (u16_at s 30)) (refused_header 12)
    (pick (from070 (version_of s)) (refused_header 13)
    (record { number = 0; header = whole_of s })))))

-- The header is read at flash base plus info offset, with the flash base in force.
unfoldable pub header_p : ℕ → ℕ → Prog HeaderAnswer
header_p flash_base info_offset = fetch flash_base (flash_base + info_offset) 64 (refused_header 2) λ s. done (header_of s)

-- "ROM sets and ROM infos": filenames from 0.5.1, or boot logging on
abbrev pub has_filenames : SdrrInfoFields → Bool
has_filenames f = from051 f.version || f.boot_logging_enabled
