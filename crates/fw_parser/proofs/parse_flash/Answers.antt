use Rattle.std.proofs.Common.{refl, sym, ◌∙◌}
use Rattle.refusal.specs.Laws.{number_not_0}
use Rattle.sets_item.specs.Laws.{walk_number_is}
use Rattle.fw_parser.specs.Laws.Steps.{refused_by, opened_by, left_beyond, left_header, left_short, left_open}
use Rattle.fw_parser.proofs.parse_flash.Goals as goal

pub returns-then-beyond_window : goal.returns-then-beyond_window
returns-then-beyond_window c =
    let a = c.args in
    let l = left_beyond a.settings a.image.now a.set_rows.now a.rom_rows.now (sym c.if-beyond_window.ensures) in
    record { reply = refused_by _ _ c.no_report-none.ensures ∙ l.reply; sets = l.set_rows; roms = l.rom_rows }

pub returns-in-Err : goal.returns-in-Err
returns-in-Err c =
    let a = c.args in
    let r = c.in-Err.refusal in
    let h = rw c.in-Err.is at c.read_header.ensures in
    let l = left_header a.settings a.image.now a.set_rows.now a.rom_rows.now (sym c.if-beyond_window.ensures) _ h (number_not_0 r) in
    record { reply = rw c.number.ensures (refused_by _ _ c.no_report-none.ensures ∙ l.reply); sets = l.set_rows; roms = l.rom_rows }

pub returns-then-is_short : goal.returns-then-is_short
returns-then-is_short c =
    let a = c.args in
    let w = c.walk_sets-walk.ensures in
    let h = rw c.in-Ok.is at c.read_header.ensures in
    let l =
    left_short a.settings a.image.now a.set_rows.now a.rom_rows.now (sym c.if-beyond_window.ensures) _ h refl _ c.base_after-base.ensures
    _ c.read_records-records.ensures _ _ _ (record { reply = walk_number_is _ _ _ c.walk_number-number.ensures w.reply; set_rows = w.sets; rom_rows = w.roms }) (sym c.if-is_short.ensures) in
    record { reply = refused_by _ _ c.no_report-none.ensures ∙ l.reply; sets = l.set_rows; roms = l.rom_rows }

pub returns : goal.returns
returns c =
    let a = c.args in
    let w = c.walk_sets-walk.ensures in
    let h = rw c.in-Ok.is at c.read_header.ensures in
    let l =
    left_open a.settings a.image.now a.set_rows.now a.rom_rows.now (sym c.if-beyond_window.ensures) _ h refl _ c.base_after-base.ensures
    _ c.read_records-records.ensures _ _ _ (record { reply = walk_number_is _ _ _ c.walk_number-number.ensures w.reply; set_rows = w.sets; rom_rows = w.roms }) (sym c.if-is_short.ensures) in
    record { reply = opened_by _ _ (rw (← c.walk_number-number.ensures) at c.report-info.ensures) ∙ l.reply; sets = l.set_rows; roms = l.rom_rows }
