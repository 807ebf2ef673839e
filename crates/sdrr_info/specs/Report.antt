-- What later calls look at of a report, and where the image stands.
use Rattle.board.specs.declared.Board.{Board}
use Rattle.board.specs.Board.{board_pins}
use Rattle.window.specs.declared.Settings.{Settings}
use Rattle.sdrr_info.specs.declared.SdrrInfo.{SdrrInfo}

abbrev pub board_of : Settings → SdrrInfo → Board
board_of s r =
    record { flash_base = s.flash_base; cs0_base = s.cs0_base; line = r.fields.stm_line; pins = board_pins r.pins; served = r.rom_sets.served }
