-- Document 01, "Runtime": the record as a list of bytes s, with the RAM base that it was read at.
use Rattle.std.specs.Prelude.{ℕ, ◌+◌, Bool, not, ◌&&◌, ◌||◌, List, [], ◌∷◌, ltb, leb, eqb, length}
use Rattle.base.specs.Choice.{pick}
use Rattle.le.specs.Le.{u8_at, u16_at, u32_at, flag_at}
use Rattle.magic.specs.Magic.{starts_with}
use Rattle.runtime_info.specs.declared.SdrrRuntimeInfoHeader.{SdrrRuntimeInfoHeader}
use Rattle.runtime_info.specs.declared.RuntimeHeader.{RuntimeHeader}
use Rattle.runtime_info.specs.declared.GroupV060.{GroupV060}
use Rattle.runtime_info.specs.declared.GroupV062.{GroupV062}
use Rattle.runtime_info.specs.declared.GroupV063.{GroupV063}
use Rattle.runtime_info.specs.declared.GroupV067.{GroupV067}
use Rattle.runtime_info.specs.declared.RuntimeVersionedFields.{RuntimeVersionedFields}
use Rattle.runtime_info.specs.declared.SdrrRuntimeInfo.{SdrrRuntimeInfo}

-- "sdrr"
abbrev pub runtime_magic : List ℕ
runtime_magic = 115 ∷ 100 ∷ 114 ∷ 114 ∷ []

abbrev pub size_byte : List ℕ → ℕ
size_byte s = u8_at s 4

-- where each field stands in the record; the counting byte stays a number, and the access count is told with its address in RAM
unfoldable pub head_of : List ℕ → ℕ → SdrrRuntimeInfoHeader
head_of s ram_base =
    record {
      image_sel = u8_at s 5;
      rom_set_index = u8_at s 6;
      count_rom_access = u8_at s 7;
      access_count = u32_at s 8;
      access_count_address = ram_base + 8;
      rom_table_ptr = u32_at s 12;
      rom_table_size = u32_at s 16;
    }

-- 2: under 20 bytes. 60: magic. 61: size byte under 20. 62: RAM base plus 8 above 2^32 − 1.
unfoldable pub runtime_header : List ℕ → ℕ → RuntimeHeader
runtime_header s ram_base =
    pick (ltb (length s) 20) (RuntimeHeader.Refused 2)
    (pick (not (starts_with s runtime_magic)) (RuntimeHeader.Refused 60)
    (pick (ltb (size_byte s) 20) (RuntimeHeader.Refused 61)
    (pick (ltb 4294967295 (ram_base + 8)) (RuntimeHeader.Refused 62)
    (RuntimeHeader.Head (head_of s ram_base)))))

-- A group is there where both the size byte and the record reach its end, and every kind in it is a known one.
unfoldable pub reaches : List ℕ → ℕ → Bool
reaches s end = leb end (size_byte s) && leb end (length s)

-- voltage: 0..31, 254, 255
abbrev pub is_voltage : ℕ → Bool
is_voltage b = leb b 31 || (eqb b 254 || eqb b 255)

-- serve mode: 0, 1
abbrev pub is_serve_mode : ℕ → Bool
is_serve_mode b = leb b 1

-- bit mode: 1, 2
abbrev pub is_bit_mode : ℕ → Bool
is_bit_mode b = eqb b 1 || eqb b 2

-- limp: 0..3
abbrev pub is_limp_mode : ℕ → Bool
is_limp_mode b = leb b 3

-- 0.6.0 [34]: three flags 24, voltage 27, u16 ice 28, fire 30, sysclk 32
abbrev pub present060 : List ℕ → Bool
present060 s = reaches s 34 && is_voltage (u8_at s 27)

unfoldable pub group060_of : List ℕ → GroupV060
group060_of s =
    pick (present060 s)
    (GroupV060.Present
    (record {
      overclock_enabled = flag_at s 24;
      status_led_enabled = flag_at s 25;
      swd_enabled = flag_at s 26;
      fire_vreg = u8_at s 27;
      ice_freq_mhz = u16_at s 28;
      fire_freq_mhz = u16_at s 30;
      sysclk_mhz = u16_at s 32;
    }))
    GroupV060.Absent

-- 0.6.2 [36]: serve mode 34, bit mode 35
abbrev pub present062 : List ℕ → Bool
present062 s = reaches s 36 && (is_serve_mode (u8_at s 34) && is_bit_mode (u8_at s 35))

unfoldable pub group062_of : List ℕ → GroupV062
group062_of s =
    pick (present062 s) (GroupV062.Present (record { fire_serve_mode = u8_at s 34; bit_mode = u8_at s 35 })) GroupV062.Absent

-- 0.6.3 [39]: flag 36, data pins 37, flag 38
unfoldable pub group063_of : List ℕ → GroupV063
group063_of s =
    pick (reaches s 39)
    (GroupV063.Present (record { rom_dma_copy = flag_at s 36; num_data_pins = u8_at s 37; force_16_bit = flag_at s 38 }))
    GroupV063.Absent

-- 0.6.7 [57]: peri 39, limp 56
abbrev pub present067 : List ℕ → Bool
present067 s = reaches s 57 && is_limp_mode (u8_at s 56)

unfoldable pub group067_of : List ℕ → GroupV067
group067_of s =
    pick (present067 s)
    (GroupV067.Present (record { peri_en = u8_at s 39; limp_mode = u8_at s 56 }))
    GroupV067.Absent

-- Groups do not wait for each other.
abbrev pub runtime_fields : List ℕ → RuntimeVersionedFields
runtime_fields s = record { v0_6_0 = group060_of s; v0_6_2 = group062_of s; v0_6_3 = group063_of s; v0_6_7 = group067_of s }

-- the groups beside an accepted head
abbrev pub with_fields : RuntimeHeader → RuntimeVersionedFields → SdrrRuntimeInfo
with_fields (RuntimeHeader.Head h) fields = SdrrRuntimeInfo.Parsed h fields
with_fields (RuntimeHeader.Refused n) fields = SdrrRuntimeInfo.Refused n

-- the whole record
abbrev pub runtime_of : List ℕ → ℕ → SdrrRuntimeInfo
runtime_of s ram_base = with_fields (runtime_header s ram_base) (runtime_fields s)
