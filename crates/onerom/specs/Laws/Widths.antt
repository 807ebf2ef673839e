-- Document 02, wish 3, for the calls that C and Rust make: what `onerom_open` hands out of widths, of an image cut short too, and that no later call
-- looks at one.
-- Assumes nothing.
use Rattle.std.specs.Prelude.{ℕ, ◌<◌, ◌≡◌, ◌⊎◌, Bool, List, length, take}
use Rattle.rows.specs.LentRows.{name_reason}
use Rattle.rows.specs.Laws.{width_altered, altered_length, altered_types}
use Rattle.walk.specs.Walk.{roms_of}
use Rattle.window.specs.declared.Settings.{Settings}
use Rattle.info.specs.Reads.{byte, own}
use Rattle.info.proofs.Laws.RomRows.{mangle_by_types, width_altered_reads}
use Rattle.jobs.proofs.Laws.Carry.{job_same}
use Rattle.same_set.specs.Same.{same_set}
use Rattle.same_set.specs.Laws.{width_altered_same}
use Rattle.fw_parser.specs.Opening.{rom_rows_left}
use Rattle.fw_parser.specs.Laws.Promises.{accepted_changes_rows}
use Rattle.fw_parser.specs.Laws.Strings as opening
use Rattle.cut_short.proofs.Laws.CutNames as cut_names
use Rattle.c_board.specs.Board.{levels_from, address_from}
use Rattle.c_report.specs.declared.OneromReport.{OneromReport}
use Rattle.c_handed.specs.Handed.{board_in}
use Rattle.c_open.specs.Opening.{open_call, opening_out}
use Rattle.c_job_reads.specs.Reads.{byte_call, own_call}
use Rattle.c_mangle.specs.Board.{mangle_call}

-- ---- what the opening hands out

module _ (f c o : ℕ) (sets roms x : List ℕ) (e : (opening_out (open_call f c o sets roms x)).number ≡ 0) where
  abbrev settings : Settings
  settings = record { flash_base = f; cs0_base = c; info_offset = o }

  -- how many ROM rows it lists
  abbrev pub rom_row_count : ℕ
  rom_row_count = length (roms_of (accepted_changes_rows settings sets roms x e).listed)

  -- each row: the name's width as it is counted, or no name and zeros
  pub names_told : (row : ℕ) → row < rom_row_count → opening.NameTold x (rom_rows_left (open_call f c o sets roms x) roms) row
  names_told row l = opening.names_told settings sets roms x e row l

-- a row of a cut image that opens: the name is ended, or its four words are the whole image's
pub names_kept : (f c o : ℕ) (sets roms x : List ℕ) (k : ℕ) → (opening_out (open_call f c o sets roms x)).number ≡ 0
    → (e : (opening_out (open_call f c o sets roms (take k x))).number ≡ 0) → (row : ℕ) → row < rom_row_count f c o sets roms (take k x) e
    → (name_reason (rom_rows_left (open_call f c o sets roms (take k x)) roms) row ≡ 2)
    ⊎ cut_names.SameName (rom_rows_left (open_call f c o sets roms (take k x)) roms) (rom_rows_left (open_call f c o sets roms x) roms) row
names_kept f c o sets roms x k whole e row l =
    cut_names.names_kept (record { flash_base = f; cs0_base = c; info_offset = o }) sets roms x k whole e row l

-- ---- lent with another width every call gives the same answer. ROM data and size are given no ROM rows.

module _ (roms : List ℕ) (row width : ℕ) where
  pub byte_width_altered : (demangled : Bool) (f c : ℕ) (report : OneromReport) (sets : List ℕ) (set logical address : ℕ) (levels : List ℕ) (job : ℕ) (counts x : List ℕ)
      → byte_call demangled f c report sets (width_altered roms row width) set logical address levels job counts x
      ≡ byte_call demangled f c report sets roms set logical address levels job counts x
  unfolding byte_call
  byte_width_altered demangled f c report sets set logical address levels job counts x =
      job_same f c _ _ _ _ job counts x (λ count. width_altered_reads roms row width (board_in f c report) sets f c count (byte set (address_from logical address levels) demangled) x)

  pub own_width_altered : (f c : ℕ) (report : OneromReport) (sets : List ℕ) (set address : ℕ) (levels : List ℕ) (job : ℕ) (counts x : List ℕ)
      → own_call f c report sets (width_altered roms row width) set address levels job counts x ≡ own_call f c report sets roms set address levels job counts x
  unfolding own_call
  own_width_altered f c report sets set address levels job counts x =
      job_same f c _ _ _ _ job counts x (λ count. width_altered_reads roms row width (board_in f c report) sets f c count (own set address (levels_from levels)) x)

  pub mangle_width_altered : (number rom_pins : ℕ) (address_pins control : List ℕ) (served : ℕ) (sets : List ℕ) (address : ℕ) (levels : List ℕ)
      → mangle_call number rom_pins address_pins control served sets (width_altered roms row width) address levels
      ≡ mangle_call number rom_pins address_pins control served sets roms address levels
  unfolding mangle_call
  mangle_width_altered number rom_pins address_pins control served sets address levels =
      mangle_by_types roms (width_altered roms row width) (altered_length roms row width) (altered_types roms row width) _ served sets address (levels_from levels)

  pub same_width_altered : (served : ℕ) (sets : List ℕ) (a b : ℕ) → same_set served sets (width_altered roms row width) a b ≡ same_set served sets roms a b
  same_width_altered served sets a b = width_altered_same roms row width served sets a b
