-- The report as it is handed back, altered or not: what reads look at.
use Rattle.std.specs.Prelude.{ℕ, eqb}
use Rattle.base.specs.Choice.{pick}
use Rattle.types.specs.declared.McuLine.{McuLine}
use Rattle.board.specs.declared.Board.{Board}
use Rattle.board.specs.declared.BoardPins.{BoardPins}
use Rattle.c_report.specs.declared.OneromPins.{OneromPins}
use Rattle.c_report.specs.declared.OneromReport.{OneromReport}

-- 5 is Rp2350, and no other
abbrev pub line_in : ℕ → McuLine
line_in n = pick (eqb n 5) McuLine.Rp2350 McuLine.F401DE

-- of the pins what reads look at
unfoldable pub pins_in : OneromPins → BoardPins
pins_in p =
    record {
      number = p.number;
      rom_pins = p.rom_pins;
      «data» = p.«data»;
      addr = p.addr;
      cs1 = p.cs1;
      cs2 = p.cs2;
      cs3 = p.cs3;
      x1 = p.x1;
      x2 = p.x2;
      ce = p.ce;
      oe = p.oe;
    }

unfoldable pub board_in : (flash_base cs0_base : ℕ) → OneromReport → Board
board_in flash_base cs0_base r =
    record { flash_base = flash_base; cs0_base = cs0_base; line = line_in r.header.line; pins = pins_in r.pins; served = r.rom_sets.served }
