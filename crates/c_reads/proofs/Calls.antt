-- The byte reads by a report handed back, by the calls that they are made of.
-- Assumes nothing.
use Rattle.std.proofs.Common.{◌≡◌, ℕ, List, true, false, refl, sym, ◌∙◌}
use borrow.Author.Tests.{eq-eqb, ne_eqb}
use Rattle.info.specs.Lent.{lent_by, mangle_address}
use Rattle.byte_reads.specs.Code.{byte_at, physical_by, shown_from}
use Rattle.byte_reads.specs.Laws.Steps.{byte_raw, byte_demangled}
use Rattle.c_report.specs.declared.OneromReport.{OneromReport}
use Rattle.c_handed.specs.Handed.{line_in, pins_in, board_in}
use Rattle.c_board.specs.Board.{levels_from, address_from}
use Rattle.c_reads.specs.Code.{byte_on_count}

module _ (f c : ℕ) (report : OneromReport) (sets roms : List ℕ) (set logical address : ℕ) (levels : List ℕ) (count : ℕ) (x : List ℕ) where
  raw_by_address : byte_on_count false f c report sets roms set logical address levels count x
      ≡ byte_at f c (line_in report.header.line) report.rom_sets.served sets set (physical_by (pins_in report.pins) report.rom_sets.served sets roms (address_from logical address levels)) count x
  unfolding byte_on_count board_in
  raw_by_address = sym (byte_raw f c (lent_by (board_in f c report) sets roms) count x set (address_from logical address levels) _ refl _ refl)

  pub raw_logical : logical ≡ 1 → byte_on_count false f c report sets roms set logical address levels count x
      ≡ byte_at f c (line_in report.header.line) report.rom_sets.served sets set (mangle_address (pins_in report.pins) report.rom_sets.served sets roms address (levels_from levels)) count x
  raw_logical h = raw_by_address ∙ rw (eq-eqb logical 1 h) refl

  pub raw_offset : (logical ≡ 1 → ⊥) → byte_on_count false f c report sets roms set logical address levels count x
      ≡ byte_at f c (line_in report.header.line) report.rom_sets.served sets set (record { number = 0; value = address }) count x
  raw_offset h = raw_by_address ∙ rw (ne_eqb logical 1 h) refl

  pub shown_raw : byte_on_count true f c report sets roms set logical address levels count x
      ≡ shown_from report.pins.number report.pins.«data» (byte_on_count false f c report sets roms set logical address levels count x) count
  unfolding byte_on_count board_in pins_in
  shown_raw = sym (byte_demangled f c (lent_by (board_in f c report) sets roms) count x set (address_from logical address levels) _ refl _ refl)

pub ruleset by_calls = (raw_logical, raw_offset, shown_raw)
