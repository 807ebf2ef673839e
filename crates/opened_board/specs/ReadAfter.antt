-- A ROM read after an opening: by the report that it handed out and the rows as it left them. A refused opening too has handed out a report and
-- left the rows.
use Rattle.std.specs.Prelude.{ℕ, List}
use Rattle.info.specs.Lent.{Lent, lent_by}
use Rattle.info.specs.Reads.{RomRead, Reply}
use Rattle.jobs.specs.Jobs.{job_read}
use Rattle.window.specs.declared.Settings.{Settings}
use Rattle.sdrr_info.specs.Report.{board_of}
use Rattle.fw_parser.specs.Opening.{Opened, set_rows_left, rom_rows_left}
use Rattle.fw_parser.specs.Reply.{opening_reply}

abbrev pub lent_after : Settings → (sets roms : List ℕ) → Opened → Lent
lent_after s sets roms o = lent_by (board_of s (opening_reply o).info) (set_rows_left o sets) (rom_rows_left o roms)

abbrev pub read_after : Settings → (sets roms : List ℕ) → Opened → (job : ℕ) → (counts : List ℕ) → RomRead → List ℕ → Reply
read_after s sets roms o job counts r x = job_read s.flash_base s.cs0_base (lent_after s sets roms o) job counts r x
