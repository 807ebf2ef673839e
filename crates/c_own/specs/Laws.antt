-- The byte by the set's own ROMs, put together from what the call makes of its report: what its proof cites.
-- Assumes nothing.
use Rattle.std.specs.Prelude.{ℕ, ◌≡◌, refl, List}
use Rattle.std.proofs.Math.Path.{ap₂}
use Rattle.std.proofs.Common.{◌∙◌}
use Rattle.types.specs.declared.McuLine.{McuLine}
use Rattle.types.specs.declared.SdrrCsSet.{SdrrCsSet}
use Rattle.board.specs.declared.BoardPins.{BoardPins}
use Rattle.mangle.specs.Mangle.{Mangled}
use Rattle.info.specs.Lent.{lent_by, mangle_own}
use Rattle.byte_reads.specs.declared.ByteRead.{ByteRead}
use Rattle.byte_reads.specs.Code.{byte_at, shown_from}
use Rattle.own_reads.specs.Laws.Steps.{byte_own}
use Rattle.c_report.specs.declared.OneromReport.{OneromReport}
use Rattle.c_handed.specs.Handed.{line_in, pins_in, board_in}
use Rattle.c_board.specs.Board.{levels_from}
use Rattle.c_own.specs.Code.{own_on_count}

module _ (f c : ℕ) (report : OneromReport) (sets roms : List ℕ) (set address : ℕ) (levels : List ℕ) (count : ℕ) (x : List ℕ)
    (line : McuLine) (told : line ≡ line_in report.header.line)
    (pins : BoardPins) (held : pins ≡ pins_in report.pins)
    (given : SdrrCsSet) (taken : given ≡ levels_from levels)
    (m : Mangled) (leads : m ≡ mangle_own pins report.rom_sets.served sets roms set address given)
    (raw : ByteRead) (read : raw ≡ byte_at f c line report.rom_sets.served sets set m count x)
    (shown : ByteRead) (demangled : shown ≡ shown_from 0 report.pins.«data» raw count) where
  pub own_read : shown ≡ own_on_count f c report sets roms set address levels count x
  unfolding own_on_count board_in pins_in
  own_read =
      byte_own f c (lent_by (board_in f c report) sets roms) count x set address (levels_from levels) m
      (leads ∙ ap₂ (λ (p : BoardPins) (s : SdrrCsSet). mangle_own p report.rom_sets.served sets roms set address s) held taken)
      raw (read ∙ rw told refl) shown demangled
