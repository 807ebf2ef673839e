-- A report that is handed back as it was handed out: reads look at what the opening's report says.
-- Assumes nothing.
use Rattle.std.specs.Prelude.{ℕ, ◌≡◌, refl}
use Rattle.window.specs.Window.{base_after}
use Rattle.types.specs.declared.McuLine.{McuLine}
use Rattle.types.specs.Types.{is_rp2350}
use Rattle.type_numbers.specs.TypeNumbers.{line_number}
use Rattle.pins.specs.declared.PinsItem.{PinsItem}
use Rattle.board.specs.Board.{board_pins}
use Rattle.sdrr_info.specs.declared.SdrrInfo.{SdrrInfo}
use Rattle.c_report.specs.Report.{header_out, sets_out, pins_out, report_out}
use Rattle.c_handed.specs.Handed.{line_in, pins_in, board_in}

pins_back : (i : PinsItem) → pins_in (pins_out i) ≡ board_pins i
unfolding pins_in pins_out board_pins
pins_back i = refl

base_back : (f c : ℕ) (l : McuLine) → base_after f c (line_in (line_number l)) ≡ base_after f c l
unfolding is_rp2350
base_back f c McuLine.F401DE = refl
base_back f c McuLine.F405 = refl
base_back f c McuLine.F411 = refl
base_back f c McuLine.F446 = refl
base_back f c McuLine.F401BC = refl
base_back f c McuLine.Rp2350 = refl

pub record Handed (flash_base cs0_base : ℕ) (r : SdrrInfo) : Type 0 where
  pub base : base_after flash_base cs0_base (board_in flash_base cs0_base (report_out r)).line ≡ base_after flash_base cs0_base r.fields.stm_line
  pub pins : (board_in flash_base cs0_base (report_out r)).pins ≡ board_pins r.pins
  pub served : (board_in flash_base cs0_base (report_out r)).served ≡ r.rom_sets.served

pub handed_back : (flash_base cs0_base : ℕ) (r : SdrrInfo) → Handed flash_base cs0_base r
unfolding board_in report_out header_out sets_out
handed_back f c r = record { base = base_back f c r.fields.stm_line; pins = pins_back r.pins; served = refl }
