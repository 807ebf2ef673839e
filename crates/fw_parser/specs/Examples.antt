-- Two small whole boards, a cut of each, and one whose walk is refused: the definition gives the report and rows that document 01 says, by computation.
-- tests/model/boards.py has the images field by field.
-- Assumes nothing.
use Rattle.std.specs.Prelude.{ℕ, ◌≡◌, refl, Bool, true, false, List, [], ◌∷◌, ◌++◌, Option, Some, None, take, set, replicate}
use Rattle.window.specs.Window.{can_read, past_window}
use Rattle.magic.specs.Magic.{starts_with}
use Rattle.prog.specs.Prog.{run, trace, end_of, answer, reach, tried, tried_shown, reads_of, and_then, tried_reads}
use Rattle.utf8.specs.Utf8.{class_of, low_after, high_after, lacking, is_utf8}
use Rattle.utf8.specs.Points.{points_after, points}
use Rattle.types.specs.declared.McuLine.{McuLine}
use Rattle.types.specs.declared.McuStorage.{McuStorage}
use Rattle.types.specs.declared.SdrrMcuPort.{SdrrMcuPort}
use Rattle.types.specs.Types.{line_of, is_rp2350, storage_of, port_of}
use Rattle.text.specs.Text.{has_nul, before_nul, judged, chunks_p, text_p, accepted_text}
use Rattle.version.specs.declared.FirmwareVersion.{FirmwareVersion}
use Rattle.version.specs.Version.{version, before}
use Rattle.header.specs.declared.SdrrInfoFields.{SdrrInfoFields}
use Rattle.header.specs.Header.{header_fields, whole_of, header_of, header_p}
use Rattle.extra_info.specs.declared.ExtraInfoItem.{ExtraInfoItem}
use Rattle.extra_info.specs.ExtraInfo.{no_extra_info, extra_info_of, extra_info_p}
use Rattle.extra_info.specs.ExtraInfo as E
use Rattle.metadata.specs.declared.MetadataItem.{MetadataItem}
use Rattle.metadata.specs.Metadata.{metadata_of, metadata_p}
use Rattle.pins.specs.declared.SdrrPins.{SdrrPins}
use Rattle.pins.specs.declared.PinsItem.{PinsItem}
use Rattle.pins.specs.Pins.{no_pins, pins_of, pins_p}
use Rattle.pins.specs.Pins as P
use Rattle.walk.specs.Walk.{rom_of, judge_rom, rom_p, roms_p, table_p, pointed_p, set_p, sets_p, walk_p, roms_of}
use Rattle.walk.specs.Names.{name_p, names_p, walk_names_p}
use Rattle.walk.specs.Rows.{set_row, counts_of, set_rows_after, rom_front, name_words, rom_row, rom_rows_of}
use Rattle.window.specs.declared.Settings.{Settings}
use Rattle.sdrr_info.specs.declared.SdrrInfo.{SdrrInfo}
use Rattle.fw_parser.specs.Opening.{look_p, items_p, report_of, verdict, open_p, opening, Opened, refused, opened, set_rows_left, rom_rows_left}
use Rattle.fw_parser.specs.Opening as O

-- what a caller sees: a refusal's number, or the report and both row buffers
data Seen : Type 0 where
  closed : ℕ → Seen
  shows : SdrrInfo → List ℕ → List ℕ → Seen

abbrev seen_of : Opened → List ℕ → List ℕ → Seen
seen_of (refused n) sets roms = closed n
seen_of (opened r ss names) sets roms = shows r (set_rows_left (opened r ss names) sets) (rom_rows_left (opened r ss names) roms)

-- lent rows of zeros
abbrev seen : Settings → ℕ → ℕ → List ℕ → Seen
seen s n m x = seen_of (opening s n m x) (replicate n 0) (replicate m 0)

-- the pins of both boards but for these
abbrev pins_on : (data_pins address_pins : List ℕ) → (c1 c2 c3 one two : ℕ) → SdrrPins
pins_on data_pins address_pins c1 c2 c3 one two =
    record {
      data_port = SdrrMcuPort.PortA;
      addr_port = SdrrMcuPort.PortB;
      cs_port = SdrrMcuPort.PortB;
      sel_port = SdrrMcuPort.PortC;
      status_port = SdrrMcuPort.PortD;
      rom_pins = 24;
      «data» = data_pins;
      addr = address_pins;
      cs1 = c1;
      cs2 = c2;
      cs3 = c3;
      reserved2a = 0;
      reserved2b = 0;
      reserved2c = 0;
      x1 = one;
      x2 = two;
      ce = 255;
      oe = 255;
      x_jumper_pull = 0;
      swclk_sel = 0;
      swdio_sel = 0;
      sel0 = 0;
      sel1 = 0;
      sel2 = 0;
      sel3 = 0;
      sel4 = 0;
      sel5 = 0;
      sel6 = 0;
      sel_jumper_pull = 0;
      status = 0;
      extended = 0;
      data2 = replicate 8 0;
      addr2 = replicate 16 0;
    }

-- the flags in their order, boot logging among them, and counting
abbrev fields_on : FirmwareVersion → McuLine → McuStorage → (frequency : ℕ) → (clocked swd logging counting : Bool) → SdrrInfoFields
fields_on v line storage frequency clocked swd logging counting =
    record {
      version = v;
      commit = 48 ∷ 48 ∷ 97 ∷ 98 ∷ 99 ∷ 100 ∷ 101 ∷ 102 ∷ [];
      stm_line = line;
      stm_storage = storage;
      freq = frequency;
      overclock = clocked;
      swd_enabled = swd;
      preload_image_to_ram = false;
      bootloader_capable = false;
      status_led_enabled = true;
      boot_logging_enabled = logging;
      mco_enabled = false;
      count_rom_access = counting;
      boot_config = 1 ∷ 2 ∷ 3 ∷ 4 ∷ [];
    }

abbrev extra_on : (rtt vbus : ℕ) → Option Bool → (runtime : ℕ) → ExtraInfoItem
extra_on rtt vbus pio runtime =
    record {
      number = 0;
      extra_info = record {
        rtt_ptr = rtt;
        usb_dfu = true;
        usb_port = SdrrMcuPort.None;
        vbus_pin = vbus;
        fire_pio_default = pio;
        runtime_info_ptr = runtime;
      };
    }

-- both bases; the second is in force after the header of the second board
abbrev bases : Settings
bases = record { flash_base = 134217728; cs0_base = 268435456; info_offset = 0 }

-- ---- 0.4.2 on an STM32, one set with one ROM

old_image : List ℕ
old_image =
    83 ∷ 68 ∷ 82 ∷ 82 ∷ 0 ∷ 0 ∷ 4 ∷ 0 ∷ 2 ∷ 0 ∷ 7 ∷ 0 ∷ 64 ∷ 0 ∷ 0 ∷ 8 ∷ 48 ∷ 48 ∷ 97 ∷ 98 ∷ 99 ∷ 100 ∷ 101 ∷ 102 ∷ 68 ∷ 0 ∷ 0 ∷ 8 ∷ 1 ∷ 0 ∷
    2 ∷ 0 ∷ 84 ∷ 0 ∷ 0 ∷ 1 ∷ 0 ∷ 0 ∷ 1 ∷ 0 ∷ 0 ∷ 1 ∷ 1 ∷ 0 ∷ 64 ∷ 1 ∷ 0 ∷ 8 ∷ 144 ∷ 1 ∷ 0 ∷ 8 ∷ 1 ∷ 2 ∷ 3 ∷ 4 ∷ 64 ∷ 0 ∷ 0 ∷ 8 ∷ 255 ∷ 255 ∷
    255 ∷ 255 ∷ 77 ∷ 97 ∷ 121 ∷ 0 ∷ 50 ∷ 52 ∷ 45 ∷ 100 ∷ 0 ∷ 0 ∷ 0 ∷ 0 ∷ 0 ∷ 0 ∷ 0 ∷ 0 ∷ 0 ∷ 0 ∷ 0 ∷ 0 ∷ 0 ∷ 0 ∷ 0 ∷ 0 ∷ 0 ∷ 0 ∷ 0 ∷ 0 ∷ 0 ∷
    0 ∷ 0 ∷ 0 ∷ 0 ∷ 0 ∷ 0 ∷ 0 ∷ 0 ∷ 0 ∷ 0 ∷ 0 ∷ 0 ∷ 0 ∷ 0 ∷ 0 ∷ 0 ∷ 0 ∷ 0 ∷ 0 ∷ 0 ∷ 0 ∷ 0 ∷ 0 ∷ 0 ∷ 0 ∷ 0 ∷ 0 ∷ 0 ∷ 0 ∷ 0 ∷ 0 ∷ 0 ∷ 0 ∷ 0 ∷
    0 ∷ 0 ∷ 0 ∷ 0 ∷ 0 ∷ 0 ∷ 0 ∷ 0 ∷ 0 ∷ 0 ∷ 0 ∷ 0 ∷ 0 ∷ 0 ∷ 0 ∷ 0 ∷ 0 ∷ 0 ∷ 0 ∷ 0 ∷ 0 ∷ 0 ∷ 0 ∷ 0 ∷ 0 ∷ 0 ∷ 0 ∷ 0 ∷ 0 ∷ 0 ∷ 0 ∷ 0 ∷ 0 ∷ 0 ∷
    0 ∷ 0 ∷ 0 ∷ 0 ∷ 0 ∷ 0 ∷ 0 ∷ 0 ∷ 0 ∷ 0 ∷ 0 ∷ 0 ∷ 0 ∷ 0 ∷ 0 ∷ 0 ∷ 0 ∷ 0 ∷ 0 ∷ 0 ∷ 0 ∷ 0 ∷ 0 ∷ 0 ∷ 0 ∷ 0 ∷ 0 ∷ 0 ∷ 0 ∷ 0 ∷ 0 ∷ 0 ∷ 0 ∷ 0 ∷
    0 ∷ 0 ∷ 0 ∷ 0 ∷ 0 ∷ 0 ∷ 0 ∷ 0 ∷ 0 ∷ 0 ∷ 0 ∷ 0 ∷ 0 ∷ 0 ∷ 0 ∷ 0 ∷ 0 ∷ 0 ∷ 0 ∷ 0 ∷ 0 ∷ 0 ∷ 0 ∷ 0 ∷ 0 ∷ 0 ∷ 0 ∷ 0 ∷ 0 ∷ 0 ∷ 0 ∷ 0 ∷ 0 ∷ 0 ∷
    0 ∷ 0 ∷ 0 ∷ 0 ∷ 0 ∷ 0 ∷ 0 ∷ 0 ∷ 0 ∷ 0 ∷ 0 ∷ 0 ∷ 0 ∷ 0 ∷ 0 ∷ 0 ∷ 0 ∷ 0 ∷ 0 ∷ 0 ∷ 0 ∷ 0 ∷ 0 ∷ 0 ∷ 0 ∷ 0 ∷ 0 ∷ 0 ∷ 0 ∷ 0 ∷ 0 ∷ 0 ∷ 0 ∷ 0 ∷
    0 ∷ 0 ∷ 0 ∷ 0 ∷ 0 ∷ 0 ∷ 0 ∷ 0 ∷ 0 ∷ 0 ∷ 0 ∷ 0 ∷ 0 ∷ 0 ∷ 0 ∷ 0 ∷ 0 ∷ 0 ∷ 0 ∷ 0 ∷ 0 ∷ 0 ∷ 0 ∷ 0 ∷ 0 ∷ 0 ∷ 0 ∷ 0 ∷ 0 ∷ 0 ∷ 0 ∷ 0 ∷ 0 ∷ 0 ∷
    0 ∷ 0 ∷ 0 ∷ 0 ∷ 0 ∷ 0 ∷ 0 ∷ 0 ∷ 0 ∷ 0 ∷ 0 ∷ 0 ∷ 0 ∷ 0 ∷ 0 ∷ 0 ∷ 0 ∷ 0 ∷ 0 ∷ 0 ∷ 0 ∷ 0 ∷ 0 ∷ 0 ∷ 1 ∷ 0 ∷ 8 ∷ 0 ∷ 64 ∷ 0 ∷ 0 ∷ 128 ∷ 1 ∷
    0 ∷ 8 ∷ 1 ∷ 1 ∷ 2 ∷ 0 ∷ 0 ∷ 0 ∷ 0 ∷ 0 ∷ 0 ∷ 0 ∷ 0 ∷ 0 ∷ 0 ∷ 0 ∷ 0 ∷ 0 ∷ 0 ∷ 0 ∷ 0 ∷ 0 ∷ 0 ∷ 0 ∷ 0 ∷ 0 ∷ 0 ∷ 0 ∷ 0 ∷ 0 ∷ 0 ∷ 0 ∷ 0 ∷ 0 ∷
    0 ∷ 0 ∷ 0 ∷ 0 ∷ 0 ∷ 0 ∷ 0 ∷ 0 ∷ 0 ∷ 0 ∷ 0 ∷ 0 ∷ 0 ∷ 0 ∷ 0 ∷ 0 ∷ 0 ∷ 0 ∷ 0 ∷ 0 ∷ 132 ∷ 1 ∷ 0 ∷ 8 ∷ 2 ∷ 0 ∷ 2 ∷ 2 ∷ 0 ∷ 0 ∷ 0 ∷ 0 ∷ 0 ∷
    0 ∷ 0 ∷ 0 ∷ 1 ∷ 2 ∷ 2 ∷ 3 ∷ 4 ∷ 24 ∷ 0 ∷ 0 ∷ 7 ∷ 6 ∷ 5 ∷ 4 ∷ 3 ∷ 2 ∷ 1 ∷ 0 ∷ 0 ∷ 1 ∷ 2 ∷ 3 ∷ 4 ∷ 5 ∷ 6 ∷ 7 ∷ 8 ∷ 9 ∷ 10 ∷ 11 ∷ 12 ∷
    255 ∷ 255 ∷ 255 ∷ 0 ∷ 0 ∷ 0 ∷ 0 ∷ 13 ∷ 255 ∷ 255 ∷ 0 ∷ 0 ∷ 0 ∷ 255 ∷ 255 ∷ 255 ∷ 255 ∷ 0 ∷ 0 ∷ 0 ∷ 0 ∷ 0 ∷ 0 ∷ 0 ∷ 0 ∷ 0 ∷ 0 ∷ 0 ∷ 0 ∷
    0 ∷ 0 ∷ 0 ∷ 0 ∷ 0 ∷ 0 ∷ 0 ∷ 0 ∷ 0 ∷ 0 ∷ 0 ∷ 0 ∷ 0 ∷ 0 ∷ 0 ∷ 0 ∷ 0 ∷ 0 ∷ 0 ∷ 0 ∷ 0 ∷ 0 ∷ 0 ∷ 0 ∷ 0 ∷ 0 ∷ 0 ∷ 0 ∷ 0 ∷ 0 ∷ []

-- extra info lies over the strings; its USB port, 52, is none
abbrev old_report : PinsItem → SdrrInfo
old_report pins =
    record {
      fields = fields_on (version 0 4 2 7) McuLine.F405 McuStorage.StorageC 84 false true false true;
      build_date = accepted_text 64 3 3;
      hw_rev = accepted_text 68 4 4;
      extra_info = extra_on 7954765 45 None 0;
      metadata = MetadataItem.NotLookedFor;
      rom_sets = record { number = 0; rom_set_count = 1; served = 1 };
      pins = pins;
    }

abbrev old_pins : SdrrPins
old_pins = pins_on (7 ∷ 6 ∷ 5 ∷ 4 ∷ 3 ∷ 2 ∷ 1 ∷ 0 ∷ []) (0 ∷ 1 ∷ 2 ∷ 3 ∷ 4 ∷ 5 ∷ 6 ∷ 7 ∷ 8 ∷ 9 ∷ 10 ∷ 11 ∷ 12 ∷ 255 ∷ 255 ∷ 255 ∷ []) 13 255 255 255 255

abbrev old_set_row : List ℕ
old_set_row = 134217984 ∷ 16384 ∷ 0 ∷ 1 ∷ 1 ∷ 2 ∷ 0 ∷ 0 ∷ []

abbrev old_rom_row : List ℕ
old_rom_row = 2 ∷ 0 ∷ 2 ∷ 2 ∷ 0 ∷ 0 ∷ 1 ∷ 0 ∷ []

old_board : seen bases 8 8 old_image ≡ shows (old_report (record { number = 0; pins = old_pins })) old_set_row old_rom_row
unfolding past_window starts_with run trace end_of can_read answer tried tried_shown reads_of and_then tried_reads class_of low_after high_after lacking is_utf8 points points_after line_of is_rp2350 storage_of port_of has_nul before_nul judged chunks_p text_p before header_fields whole_of header_of header_p E.extra_info_fields no_extra_info extra_info_of extra_info_p metadata_of metadata_p P.pins_fields no_pins pins_of pins_p rom_of judge_rom rom_p roms_p table_p pointed_p set_p sets_p O.sets_item_p walk_p roms_of name_p names_p walk_names_p set_row counts_of set_rows_after rom_front name_words rom_row rom_rows_of look_p items_p report_of verdict open_p opening old_image
old_board = refl

-- every read: header, date, revision, extra info, set, ROM pointer, ROM info, pins
old_reads : tried (open_p bases 8 8) old_image ≡ 8
unfolding past_window starts_with run trace end_of can_read answer tried tried_shown reads_of and_then tried_reads class_of low_after high_after lacking is_utf8 points points_after line_of is_rp2350 storage_of port_of has_nul before_nul judged chunks_p text_p before header_fields whole_of header_of header_p E.extra_info_fields no_extra_info extra_info_of extra_info_p metadata_of metadata_p P.pins_fields no_pins pins_of pins_p rom_of judge_rom rom_p roms_p table_p pointed_p set_p sets_p O.sets_item_p walk_p roms_of name_p names_p walk_names_p set_row counts_of set_rows_after rom_front name_words rom_row rom_rows_of look_p items_p report_of verdict open_p opening old_image
old_reads = refl

old_reach : reach (open_p bases 8 8) old_image ≡ 488
unfolding past_window starts_with run trace end_of can_read answer tried tried_shown reads_of and_then tried_reads class_of low_after high_after lacking is_utf8 points points_after line_of is_rp2350 storage_of port_of has_nul before_nul judged chunks_p text_p before header_fields whole_of header_of header_p E.extra_info_fields no_extra_info extra_info_of extra_info_p metadata_of metadata_p P.pins_fields no_pins pins_of pins_p rom_of judge_rom rom_p roms_p table_p pointed_p set_p sets_p O.sets_item_p walk_p roms_of name_p names_p walk_names_p set_row counts_of set_rows_after rom_front name_words rom_row rom_rows_of look_p items_p report_of verdict open_p opening old_image
old_reach = refl

-- one byte less, and the pins are ended
old_cut : seen bases 8 8 (take 487 old_image) ≡ shows (old_report (P.refused_pins 2)) old_set_row old_rom_row
unfolding past_window starts_with run trace end_of can_read answer tried tried_shown reads_of and_then tried_reads class_of low_after high_after lacking is_utf8 points points_after line_of is_rp2350 storage_of port_of has_nul before_nul judged chunks_p text_p before header_fields whole_of header_of header_p E.extra_info_fields no_extra_info extra_info_of extra_info_p metadata_of metadata_p P.pins_fields no_pins pins_of pins_p rom_of judge_rom rom_p roms_p table_p pointed_p set_p sets_p O.sets_item_p walk_p roms_of name_p names_p walk_names_p set_row counts_of set_rows_after rom_front name_words rom_row rom_rows_of look_p items_p report_of verdict open_p opening old_image
old_cut = refl

-- a word short: 45; no row at all: 44
old_short : seen bases 8 7 old_image ≡ closed 45
unfolding past_window starts_with run trace end_of can_read answer tried tried_shown reads_of and_then tried_reads class_of low_after high_after lacking is_utf8 points points_after line_of is_rp2350 storage_of port_of has_nul before_nul judged chunks_p text_p before header_fields whole_of header_of header_p E.extra_info_fields no_extra_info extra_info_of extra_info_p metadata_of metadata_p P.pins_fields no_pins pins_of pins_p rom_of judge_rom rom_p roms_p table_p pointed_p set_p sets_p O.sets_item_p walk_p roms_of name_p names_p walk_names_p set_row counts_of set_rows_after rom_front name_words rom_row rom_rows_of look_p items_p report_of verdict open_p opening old_image
old_short = refl

old_none : seen bases 0 0 old_image ≡ closed 44
unfolding past_window starts_with run trace end_of can_read answer tried tried_shown reads_of and_then tried_reads class_of low_after high_after lacking is_utf8 points points_after line_of is_rp2350 storage_of port_of has_nul before_nul judged chunks_p text_p before header_fields whole_of header_of header_p E.extra_info_fields no_extra_info extra_info_of extra_info_p metadata_of metadata_p P.pins_fields no_pins pins_of pins_p rom_of judge_rom rom_p roms_p table_p pointed_p set_p sets_p O.sets_item_p walk_p roms_of name_p names_p walk_names_p set_row counts_of set_rows_after rom_front name_words rom_row rom_rows_of look_p items_p report_of verdict open_p opening old_image
old_none = refl

-- ---- 0.6.1 on an Rp2350, two sets, three ROMs, of which two have the same name

new_image : List ℕ
new_image =
    83 ∷ 68 ∷ 82 ∷ 82 ∷ 0 ∷ 0 ∷ 6 ∷ 0 ∷ 1 ∷ 0 ∷ 0 ∷ 0 ∷ 64 ∷ 0 ∷ 0 ∷ 16 ∷ 48 ∷ 48 ∷ 97 ∷ 98 ∷ 99 ∷ 100 ∷ 101 ∷ 102 ∷ 70 ∷ 0 ∷ 0 ∷ 16 ∷ 5 ∷
    0 ∷ 7 ∷ 0 ∷ 150 ∷ 0 ∷ 1 ∷ 0 ∷ 0 ∷ 0 ∷ 1 ∷ 1 ∷ 0 ∷ 9 ∷ 0 ∷ 0 ∷ 128 ∷ 0 ∷ 0 ∷ 16 ∷ 248 ∷ 2 ∷ 0 ∷ 16 ∷ 1 ∷ 2 ∷ 3 ∷ 4 ∷ 128 ∷ 1 ∷ 0 ∷ 16 ∷
    255 ∷ 255 ∷ 255 ∷ 255 ∷ 74 ∷ 117 ∷ 110 ∷ 101 ∷ 33 ∷ 0 ∷ 102 ∷ 105 ∷ 114 ∷ 101 ∷ 45 ∷ 50 ∷ 52 ∷ 0 ∷ 0 ∷ 0 ∷ 0 ∷ 0 ∷ 0 ∷ 0 ∷ 0 ∷ 0 ∷ 0 ∷
    0 ∷ 0 ∷ 0 ∷ 0 ∷ 0 ∷ 0 ∷ 0 ∷ 0 ∷ 0 ∷ 0 ∷ 0 ∷ 0 ∷ 0 ∷ 0 ∷ 0 ∷ 0 ∷ 0 ∷ 0 ∷ 0 ∷ 0 ∷ 0 ∷ 0 ∷ 0 ∷ 0 ∷ 0 ∷ 0 ∷ 0 ∷ 0 ∷ 0 ∷ 0 ∷ 0 ∷ 0 ∷ 0 ∷ 0 ∷
    0 ∷ 0 ∷ 0 ∷ 0 ∷ 0 ∷ 0 ∷ 0 ∷ 79 ∷ 78 ∷ 69 ∷ 82 ∷ 79 ∷ 77 ∷ 95 ∷ 77 ∷ 69 ∷ 84 ∷ 65 ∷ 68 ∷ 65 ∷ 84 ∷ 65 ∷ 0 ∷ 1 ∷ 0 ∷ 0 ∷ 0 ∷ 2 ∷ 0 ∷ 0 ∷
    0 ∷ 128 ∷ 2 ∷ 0 ∷ 16 ∷ 0 ∷ 0 ∷ 0 ∷ 0 ∷ 0 ∷ 0 ∷ 0 ∷ 0 ∷ 0 ∷ 0 ∷ 0 ∷ 0 ∷ 0 ∷ 0 ∷ 0 ∷ 0 ∷ 0 ∷ 0 ∷ 0 ∷ 0 ∷ 0 ∷ 0 ∷ 0 ∷ 0 ∷ 0 ∷ 0 ∷ 0 ∷ 0 ∷
    0 ∷ 0 ∷ 0 ∷ 0 ∷ 0 ∷ 0 ∷ 0 ∷ 0 ∷ 0 ∷ 0 ∷ 0 ∷ 0 ∷ 0 ∷ 0 ∷ 0 ∷ 0 ∷ 0 ∷ 0 ∷ 0 ∷ 0 ∷ 0 ∷ 0 ∷ 0 ∷ 0 ∷ 0 ∷ 0 ∷ 0 ∷ 0 ∷ 0 ∷ 0 ∷ 0 ∷ 0 ∷ 0 ∷ 0 ∷
    0 ∷ 0 ∷ 0 ∷ 0 ∷ 0 ∷ 0 ∷ 0 ∷ 0 ∷ 0 ∷ 0 ∷ 0 ∷ 0 ∷ 0 ∷ 0 ∷ 0 ∷ 0 ∷ 0 ∷ 0 ∷ 0 ∷ 0 ∷ 0 ∷ 0 ∷ 0 ∷ 0 ∷ 0 ∷ 0 ∷ 0 ∷ 0 ∷ 0 ∷ 0 ∷ 0 ∷ 0 ∷ 0 ∷ 0 ∷
    0 ∷ 0 ∷ 0 ∷ 0 ∷ 0 ∷ 0 ∷ 0 ∷ 0 ∷ 0 ∷ 0 ∷ 0 ∷ 0 ∷ 0 ∷ 0 ∷ 0 ∷ 0 ∷ 0 ∷ 0 ∷ 0 ∷ 0 ∷ 0 ∷ 0 ∷ 0 ∷ 0 ∷ 0 ∷ 0 ∷ 0 ∷ 0 ∷ 0 ∷ 0 ∷ 0 ∷ 0 ∷ 0 ∷ 0 ∷
    0 ∷ 0 ∷ 0 ∷ 0 ∷ 0 ∷ 0 ∷ 0 ∷ 0 ∷ 0 ∷ 0 ∷ 0 ∷ 0 ∷ 0 ∷ 0 ∷ 0 ∷ 0 ∷ 0 ∷ 0 ∷ 0 ∷ 0 ∷ 0 ∷ 0 ∷ 0 ∷ 0 ∷ 0 ∷ 0 ∷ 0 ∷ 0 ∷ 0 ∷ 0 ∷ 0 ∷ 0 ∷ 0 ∷ 0 ∷
    0 ∷ 0 ∷ 0 ∷ 0 ∷ 0 ∷ 0 ∷ 0 ∷ 0 ∷ 0 ∷ 0 ∷ 0 ∷ 0 ∷ 0 ∷ 0 ∷ 0 ∷ 0 ∷ 0 ∷ 0 ∷ 0 ∷ 0 ∷ 0 ∷ 0 ∷ 0 ∷ 0 ∷ 0 ∷ 0 ∷ 0 ∷ 0 ∷ 0 ∷ 0 ∷ 0 ∷ 0 ∷ 0 ∷ 0 ∷
    0 ∷ 0 ∷ 0 ∷ 0 ∷ 0 ∷ 0 ∷ 0 ∷ 0 ∷ 0 ∷ 0 ∷ 0 ∷ 0 ∷ 0 ∷ 0 ∷ 0 ∷ 0 ∷ 0 ∷ 0 ∷ 0 ∷ 0 ∷ 0 ∷ 0 ∷ 0 ∷ 0 ∷ 0 ∷ 0 ∷ 0 ∷ 0 ∷ 0 ∷ 0 ∷ 0 ∷ 16 ∷ 0 ∷
    32 ∷ 1 ∷ 9 ∷ 12 ∷ 1 ∷ 0 ∷ 32 ∷ 0 ∷ 32 ∷ 0 ∷ 0 ∷ 0 ∷ 0 ∷ 0 ∷ 0 ∷ 0 ∷ 0 ∷ 0 ∷ 0 ∷ 0 ∷ 0 ∷ 0 ∷ 0 ∷ 0 ∷ 0 ∷ 0 ∷ 0 ∷ 0 ∷ 0 ∷ 0 ∷ 0 ∷ 0 ∷ 0 ∷
    0 ∷ 0 ∷ 0 ∷ 0 ∷ 0 ∷ 0 ∷ 0 ∷ 0 ∷ 0 ∷ 0 ∷ 0 ∷ 0 ∷ 0 ∷ 0 ∷ 0 ∷ 0 ∷ 0 ∷ 0 ∷ 0 ∷ 0 ∷ 0 ∷ 0 ∷ 0 ∷ 0 ∷ 0 ∷ 0 ∷ 0 ∷ 0 ∷ 0 ∷ 0 ∷ 0 ∷ 0 ∷ 0 ∷ 0 ∷
    0 ∷ 0 ∷ 0 ∷ 0 ∷ 0 ∷ 0 ∷ 0 ∷ 0 ∷ 0 ∷ 0 ∷ 0 ∷ 0 ∷ 0 ∷ 0 ∷ 0 ∷ 0 ∷ 0 ∷ 0 ∷ 0 ∷ 0 ∷ 0 ∷ 0 ∷ 0 ∷ 0 ∷ 0 ∷ 0 ∷ 0 ∷ 0 ∷ 0 ∷ 0 ∷ 0 ∷ 0 ∷ 0 ∷ 0 ∷
    0 ∷ 0 ∷ 0 ∷ 0 ∷ 0 ∷ 0 ∷ 0 ∷ 0 ∷ 0 ∷ 0 ∷ 0 ∷ 0 ∷ 0 ∷ 0 ∷ 0 ∷ 0 ∷ 0 ∷ 0 ∷ 0 ∷ 0 ∷ 0 ∷ 0 ∷ 0 ∷ 0 ∷ 0 ∷ 0 ∷ 0 ∷ 0 ∷ 0 ∷ 0 ∷ 0 ∷ 0 ∷ 0 ∷ 0 ∷
    0 ∷ 0 ∷ 0 ∷ 0 ∷ 0 ∷ 0 ∷ 0 ∷ 0 ∷ 0 ∷ 0 ∷ 0 ∷ 0 ∷ 0 ∷ 0 ∷ 0 ∷ 0 ∷ 0 ∷ 0 ∷ 0 ∷ 0 ∷ 0 ∷ 0 ∷ 0 ∷ 0 ∷ 0 ∷ 0 ∷ 0 ∷ 0 ∷ 0 ∷ 0 ∷ 0 ∷ 0 ∷ 0 ∷ 0 ∷
    0 ∷ 0 ∷ 0 ∷ 0 ∷ 0 ∷ 0 ∷ 0 ∷ 0 ∷ 0 ∷ 0 ∷ 0 ∷ 0 ∷ 0 ∷ 0 ∷ 0 ∷ 0 ∷ 0 ∷ 0 ∷ 0 ∷ 0 ∷ 0 ∷ 0 ∷ 0 ∷ 0 ∷ 0 ∷ 0 ∷ 0 ∷ 0 ∷ 0 ∷ 0 ∷ 0 ∷ 0 ∷ 0 ∷ 0 ∷
    0 ∷ 0 ∷ 0 ∷ 0 ∷ 0 ∷ 0 ∷ 0 ∷ 0 ∷ 0 ∷ 0 ∷ 0 ∷ 0 ∷ 0 ∷ 0 ∷ 0 ∷ 0 ∷ 0 ∷ 0 ∷ 0 ∷ 0 ∷ 0 ∷ 0 ∷ 0 ∷ 0 ∷ 0 ∷ 0 ∷ 0 ∷ 0 ∷ 0 ∷ 0 ∷ 0 ∷ 0 ∷ 0 ∷ 0 ∷
    0 ∷ 0 ∷ 0 ∷ 0 ∷ 0 ∷ 0 ∷ 0 ∷ 0 ∷ 0 ∷ 0 ∷ 0 ∷ 0 ∷ 0 ∷ 0 ∷ 0 ∷ 0 ∷ 0 ∷ 16 ∷ 0 ∷ 16 ∷ 0 ∷ 32 ∷ 0 ∷ 0 ∷ 208 ∷ 2 ∷ 0 ∷ 16 ∷ 1 ∷ 0 ∷ 2 ∷ 1 ∷
    255 ∷ 255 ∷ 255 ∷ 255 ∷ 64 ∷ 0 ∷ 0 ∷ 16 ∷ 0 ∷ 0 ∷ 0 ∷ 0 ∷ 0 ∷ 0 ∷ 0 ∷ 0 ∷ 0 ∷ 0 ∷ 0 ∷ 0 ∷ 0 ∷ 0 ∷ 0 ∷ 0 ∷ 0 ∷ 0 ∷ 0 ∷ 0 ∷ 0 ∷ 0 ∷ 0 ∷
    0 ∷ 0 ∷ 0 ∷ 0 ∷ 0 ∷ 0 ∷ 0 ∷ 0 ∷ 0 ∷ 0 ∷ 0 ∷ 0 ∷ 0 ∷ 0 ∷ 0 ∷ 0 ∷ 0 ∷ 0 ∷ 48 ∷ 0 ∷ 16 ∷ 0 ∷ 0 ∷ 1 ∷ 0 ∷ 212 ∷ 2 ∷ 0 ∷ 16 ∷ 2 ∷ 2 ∷ 0 ∷ 0 ∷
    220 ∷ 2 ∷ 0 ∷ 16 ∷ 228 ∷ 2 ∷ 0 ∷ 16 ∷ 220 ∷ 2 ∷ 0 ∷ 16 ∷ 2 ∷ 0 ∷ 2 ∷ 2 ∷ 236 ∷ 2 ∷ 0 ∷ 16 ∷ 0 ∷ 0 ∷ 1 ∷ 2 ∷ 255 ∷ 255 ∷ 255 ∷ 255 ∷
    106 ∷ 105 ∷ 98 ∷ 46 ∷ 98 ∷ 105 ∷ 110 ∷ 0 ∷ 0 ∷ 0 ∷ 0 ∷ 0 ∷ 1 ∷ 2 ∷ 2 ∷ 3 ∷ 4 ∷ 24 ∷ 0 ∷ 0 ∷ 0 ∷ 1 ∷ 2 ∷ 3 ∷ 4 ∷ 5 ∷ 6 ∷ 7 ∷ 8 ∷ 9 ∷ 10 ∷
    11 ∷ 12 ∷ 13 ∷ 14 ∷ 15 ∷ 16 ∷ 17 ∷ 18 ∷ 255 ∷ 255 ∷ 255 ∷ 255 ∷ 255 ∷ 0 ∷ 0 ∷ 0 ∷ 0 ∷ 20 ∷ 19 ∷ 21 ∷ 0 ∷ 0 ∷ 0 ∷ 22 ∷ 23 ∷ 255 ∷ 255 ∷
    0 ∷ 0 ∷ 0 ∷ 0 ∷ 0 ∷ 0 ∷ 0 ∷ 0 ∷ 0 ∷ 0 ∷ 0 ∷ 0 ∷ 0 ∷ 0 ∷ 0 ∷ 0 ∷ 0 ∷ 0 ∷ 0 ∷ 0 ∷ 0 ∷ 0 ∷ 0 ∷ 0 ∷ 0 ∷ 0 ∷ 0 ∷ 0 ∷ 0 ∷ 0 ∷ 0 ∷ 0 ∷ 0 ∷ 0 ∷
    0 ∷ 0 ∷ 0 ∷ 0 ∷ 0 ∷ 0 ∷ 0 ∷ 0 ∷ []

abbrev new_report : PinsItem → SdrrInfo
new_report pins =
    record {
      fields = fields_on (version 0 6 1 0) McuLine.Rp2350 McuStorage.Storage2MB 150 true false true false;
      build_date = accepted_text 64 5 5;
      hw_rev = accepted_text 70 7 7;
      extra_info = extra_on 536875008 12 (Some true) 536879104;
      metadata = MetadataItem.Looked 0;
      rom_sets = record { number = 0; rom_set_count = 2; served = 2 };
      pins = pins;
    }

abbrev new_pins : SdrrPins
new_pins = pins_on (0 ∷ 1 ∷ 2 ∷ 3 ∷ 4 ∷ 5 ∷ 6 ∷ 7 ∷ []) (8 ∷ 9 ∷ 10 ∷ 11 ∷ 12 ∷ 13 ∷ 14 ∷ 15 ∷ 16 ∷ 17 ∷ 18 ∷ 255 ∷ 255 ∷ 255 ∷ 255 ∷ 255 ∷ []) 20 19 21 22 23

-- set 0 has overrides and stride 64; the first ROM row of set 1 is 1
abbrev new_set_rows : List ℕ
new_set_rows =
    268439552 ∷ 8192 ∷ 0 ∷ 1 ∷ 0 ∷ 2 ∷ 0 ∷ 268435520 ∷ 268447744 ∷ 65536 ∷ 1 ∷ 2 ∷ 2 ∷ 0 ∷ 0 ∷ 0 ∷ []

abbrev new_rom_rows : (offset len reason wide : ℕ) → List ℕ → List ℕ
new_rom_rows o l n w rest = 2 ∷ 0 ∷ 2 ∷ 2 ∷ o ∷ l ∷ n ∷ w ∷ 0 ∷ 0 ∷ 1 ∷ 2 ∷ 0 ∷ 0 ∷ 1 ∷ 0 ∷ 2 ∷ 0 ∷ 2 ∷ 2 ∷ o ∷ l ∷ n ∷ w ∷ rest

-- a word more than is needed stays as it was
new_board : seen bases 16 25 new_image ≡ shows (new_report (record { number = 0; pins = new_pins })) new_set_rows (new_rom_rows 748 7 0 7 (0 ∷ []))
unfolding past_window starts_with run trace end_of can_read answer tried tried_shown reads_of and_then tried_reads class_of low_after high_after lacking is_utf8 points points_after line_of is_rp2350 storage_of port_of has_nul before_nul judged chunks_p text_p before header_fields whole_of header_of header_p E.extra_info_fields no_extra_info extra_info_of extra_info_p metadata_of metadata_p P.pins_fields no_pins pins_of pins_p rom_of judge_rom rom_p roms_p table_p pointed_p set_p sets_p O.sets_item_p walk_p roms_of name_p names_p walk_names_p set_row counts_of set_rows_after rom_front name_words rom_row rom_rows_of look_p items_p report_of verdict open_p opening new_image
new_board = refl

new_reads : tried (open_p bases 16 24) new_image ≡ 17
unfolding past_window starts_with run trace end_of can_read answer tried tried_shown reads_of and_then tried_reads class_of low_after high_after lacking is_utf8 points points_after line_of is_rp2350 storage_of port_of has_nul before_nul judged chunks_p text_p before header_fields whole_of header_of header_p E.extra_info_fields no_extra_info extra_info_of extra_info_p metadata_of metadata_p P.pins_fields no_pins pins_of pins_p rom_of judge_rom rom_p roms_p table_p pointed_p set_p sets_p O.sets_item_p walk_p roms_of name_p names_p walk_names_p set_row counts_of set_rows_after rom_front name_words rom_row rom_rows_of look_p items_p report_of verdict open_p opening new_image
new_reads = refl

-- cut within the name's chunk: the names and the pins are ended, all else is shown
new_cut : seen bases 16 24 (take 811 new_image) ≡ shows (new_report (P.refused_pins 2)) new_set_rows (new_rom_rows 0 0 2 0 [])
unfolding past_window starts_with run trace end_of can_read answer tried tried_shown reads_of and_then tried_reads class_of low_after high_after lacking is_utf8 points points_after line_of is_rp2350 storage_of port_of has_nul before_nul judged chunks_p text_p before header_fields whole_of header_of header_p E.extra_info_fields no_extra_info extra_info_of extra_info_p metadata_of metadata_p P.pins_fields no_pins pins_of pins_p rom_of judge_rom rom_p roms_p table_p pointed_p set_p sets_p O.sets_item_p walk_p roms_of name_p names_p walk_names_p set_row counts_of set_rows_after rom_front name_words rom_row rom_rows_of look_p items_p report_of verdict open_p opening new_image
new_cut = refl

-- ---- the same board with serve 3 in its second set: refused with 40, after the name of the first set's ROM was read

-- that name stands behind all else: the end of what is shown does not count it
abbrev refused_image : List ℕ
refused_image = set (set (set new_image 717 3) 736 80) 737 3 ++ replicate 64 0

abbrev refused_report : SdrrInfo
refused_report =
    record {
      fields = fields_on (version 0 6 1 0) McuLine.Rp2350 McuStorage.Storage2MB 150 true false true false;
      build_date = accepted_text 64 5 5;
      hw_rev = accepted_text 70 7 7;
      extra_info = extra_on 536875008 12 (Some true) 536879104;
      metadata = MetadataItem.Looked 0;
      rom_sets = record { number = 40; rom_set_count = 2; served = 0 };
      pins = record { number = 0; pins = new_pins };
    }

-- the count is kept, and every lent word
refused_board : seen_of (opening bases 3 2 refused_image) (5 ∷ 6 ∷ 7 ∷ []) (8 ∷ 9 ∷ []) ≡ shows refused_report (5 ∷ 6 ∷ 7 ∷ []) (8 ∷ 9 ∷ [])
unfolding past_window starts_with run trace end_of can_read answer tried tried_shown reads_of and_then tried_reads class_of low_after high_after lacking is_utf8 points points_after line_of is_rp2350 storage_of port_of has_nul before_nul judged chunks_p text_p before header_fields whole_of header_of header_p E.extra_info_fields no_extra_info extra_info_of extra_info_p metadata_of metadata_p P.pins_fields no_pins pins_of pins_p rom_of judge_rom rom_p roms_p table_p pointed_p set_p sets_p O.sets_item_p walk_p roms_of name_p names_p walk_names_p set_row counts_of set_rows_after rom_front name_words rom_row rom_rows_of look_p items_p report_of verdict open_p opening new_image
refused_board = refl

-- every read: header, date, revision, extra info, metadata, set 0, its overrides, ROM pointer, ROM info, set 1, the name, pins
refused_reads : tried (open_p bases 3 2) refused_image ≡ 12
unfolding past_window starts_with run trace end_of can_read answer tried tried_shown reads_of and_then tried_reads class_of low_after high_after lacking is_utf8 points points_after line_of is_rp2350 storage_of port_of has_nul before_nul judged chunks_p text_p before header_fields whole_of header_of header_p E.extra_info_fields no_extra_info extra_info_of extra_info_p metadata_of metadata_p P.pins_fields no_pins pins_of pins_p rom_of judge_rom rom_p roms_p table_p pointed_p set_p sets_p O.sets_item_p walk_p roms_of name_p names_p walk_names_p set_row counts_of set_rows_after rom_front name_words rom_row rom_rows_of look_p items_p report_of verdict open_p opening new_image
refused_reads = refl

-- the name is not shown
refused_shown : tried_shown (open_p bases 3 2) refused_image ≡ 11
unfolding past_window starts_with run trace end_of can_read answer tried tried_shown reads_of and_then tried_reads class_of low_after high_after lacking is_utf8 points points_after line_of is_rp2350 storage_of port_of has_nul before_nul judged chunks_p text_p before header_fields whole_of header_of header_p E.extra_info_fields no_extra_info extra_info_of extra_info_p metadata_of metadata_p P.pins_fields no_pins pins_of pins_p rom_of judge_rom rom_p roms_p table_p pointed_p set_p sets_p O.sets_item_p walk_p roms_of name_p names_p walk_names_p set_row counts_of set_rows_after rom_front name_words rom_row rom_rows_of look_p items_p report_of verdict open_p opening new_image
refused_shown = refl

refused_reach : reach (open_p bases 3 2) refused_image ≡ 848
unfolding past_window starts_with run trace end_of can_read answer tried tried_shown reads_of and_then tried_reads class_of low_after high_after lacking is_utf8 points points_after line_of is_rp2350 storage_of port_of has_nul before_nul judged chunks_p text_p before header_fields whole_of header_of header_p E.extra_info_fields no_extra_info extra_info_of extra_info_p metadata_of metadata_p P.pins_fields no_pins pins_of pins_p rom_of judge_rom rom_p roms_p table_p pointed_p set_p sets_p O.sets_item_p walk_p roms_of name_p names_p walk_names_p set_row counts_of set_rows_after rom_front name_words rom_row rom_rows_of look_p items_p report_of verdict open_p opening new_image
refused_reach = refl
