-- The opening as C and Rust call it.
use Rattle.std.specs.Prelude.{ℕ, List}
use Rattle.fw_parser.specs.declared.Opening.{Opening}
use Rattle.fw_parser.specs.Opening.{Opened, open_with}
use Rattle.fw_parser.specs.Reply.{opening_reply}
use Rattle.c_report.specs.Report.{report_out}
use Rattle.c_open.specs.declared.OneromOpening.{OneromOpening}

abbrev pub open_call : (flash_base cs0_base info_offset : ℕ) → (sets roms : List ℕ) → List ℕ → Opened
open_call flash_base cs0_base info_offset sets roms x =
    open_with (record { flash_base = flash_base; cs0_base = cs0_base; info_offset = info_offset }) sets roms x

-- the number and the report
abbrev pub handed_out : Opening → OneromOpening
handed_out o = record { number = o.number; report = report_out o.info }

abbrev pub opening_out : Opened → OneromOpening
opening_out o = handed_out (opening_reply o)
