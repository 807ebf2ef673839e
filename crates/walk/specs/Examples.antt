-- Document 02, wish 2, by computation: first ROM rows that are sums of counts, and the total before a set at which a walk is refused.
-- Assumes nothing.
use Rattle.std.specs.Prelude.{ℕ, ◌≡◌, refl, false, List, [], ◌∷◌, ◌++◌, map, replicate}
use Rattle.window.specs.Window.{can_read}
use Rattle.prog.specs.Prog.{run, answer}
use Rattle.rows.specs.LentRows.{first_rom}
use Rattle.version.specs.Version.{version, before}
use Rattle.header.specs.declared.SdrrInfoFields.{SdrrInfoFields}
use Rattle.walk.specs.Walk.{RomSet, Part, stop, found, rom_of, judge_rom, rom_p, roms_p, table_p, pointed_p, set_p, sets_p, walk_p, roms_of}
use Rattle.walk.specs.Rows.{set_row, counts_of, set_rows_after, set_rows_of}

-- ---- counts 3, 0, 2

abbrev counting : ℕ → RomSet
counting n = record { data_pointer = 0; size = 0; rom_count = n; serve = 0; state = 0; config = 0; overrides = 0; roms = [] }

first_rows : map (first_rom (set_rows_of (counting 3 ∷ counting 0 ∷ counting 2 ∷ []))) (0 ∷ 1 ∷ 2 ∷ []) ≡ 0 ∷ 3 ∷ 3 ∷ []
unfolding set_rows_after set_row counts_of
first_rows = refl

-- ---- counts 3 and 4, and a third set whose serve is 3

-- 0.4.0 without boot logging: no filenames, and stride 16; the other fields are any
abbrev fields_of : SdrrInfoFields → SdrrInfoFields
fields_of f =
    record {
      version = version 0 4 0 0;
      commit = f.commit;
      stm_line = f.stm_line;
      stm_storage = f.stm_storage;
      freq = f.freq;
      overclock = f.overclock;
      swd_enabled = f.swd_enabled;
      preload_image_to_ram = f.preload_image_to_ram;
      bootloader_capable = f.bootloader_capable;
      status_led_enabled = f.status_led_enabled;
      boot_logging_enabled = false;
      mco_enabled = f.mco_enabled;
      count_rom_access = f.count_rom_access;
      boot_config = f.boot_config;
    }

-- a set's header: so many ROMs, the table at 48, and serve
abbrev set_bytes : ℕ → ℕ → List ℕ
set_bytes count serve = replicate 8 0 ++ (48 ∷ 0 ∷ 0 ∷ 0 ∷ count ∷ serve ∷ 0 ∷ 0 ∷ [])

-- a pointer to the one ROM info, at 64
abbrev pointer : List ℕ
pointer = 64 ∷ 0 ∷ 0 ∷ 0 ∷ []

board : List ℕ
board = set_bytes 3 0 ++ set_bytes 4 0 ++ set_bytes 0 3 ++ pointer ++ pointer ++ pointer ++ pointer ++ replicate 32 0

abbrev walk_number_of : Part (List RomSet) → ℕ
walk_number_of (stop n roms) = n
walk_number_of (found ss) = 0

abbrev total_of : Part (List RomSet) → ℕ
total_of (stop n roms) = 0
total_of (found ss) = counts_of ss

refused_at_the_third : (f : SdrrInfoFields) → walk_number_of (run (walk_p 0 (fields_of f) 3 0) board) ≡ 40
unfolding board run answer can_read before rom_of judge_rom rom_p roms_p table_p pointed_p set_p sets_p walk_p roms_of
refused_at_the_third f = refl

total_before_it : (f : SdrrInfoFields) → total_of (run (sets_p 2 0 (fields_of f) 0 []) board) ≡ 7
unfolding board run answer can_read before rom_of judge_rom rom_p roms_p table_p pointed_p set_p sets_p roms_of counts_of
total_before_it f = refl
