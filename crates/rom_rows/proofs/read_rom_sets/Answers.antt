use Rattle.std.proofs.Common.{arith}
use Rattle.judge_walk.proofs.Steps.{not_0}
use Rattle.rom_rows.proofs.ReadSteps.{left_refused, left_44, left_45, enough, left_written}
use Rattle.rom_rows.proofs.read_rom_sets.Goals as goal

pub returns-in_err-rom_count : goal.returns-in_err-rom_count
returns-in_err-rom_count c =
    let a = c.args in
    let l = left_refused a.w.image.now a.w.base a.fields a.count a.ptr a.set_rows.now a.rom_rows.now _ c.in_err-rom_count.ensures (not_0 _) in
    record { reply = grind (arith, l.reply); sets = l.sets; roms = l.roms }

pub returns-then-set_rows-count : goal.returns-then-set_rows-count
returns-then-set_rows-count c =
    let a = c.args in
    let l = left_44 a.w.image.now a.w.base a.fields a.count a.ptr a.set_rows.now a.rom_rows.now _ c.in_ok-rom_count.ensures c.if-set_rows-count.true in
    record { reply = l.reply; sets = l.sets; roms = l.roms }

pub returns-then-rom_rows-rom_count : goal.returns-then-rom_rows-rom_count
returns-then-rom_rows-rom_count c =
    let a = c.args in
    let l = left_45 a.w.image.now a.w.base a.fields a.count a.ptr a.set_rows.now a.rom_rows.now _ c.in_ok-rom_count.ensures c.if-set_rows-count.false c.if-rom_rows-rom_count.true in
    record { reply = l.reply; sets = l.sets; roms = l.roms }

pub write_rom_sets-requires : goal.write_rom_sets-requires
write_rom_sets-requires c =
    let a = c.args in
    let e = c.new.ensures in
    let l = enough a.w.image.now a.w.base a.fields a.count a.ptr a.set_rows.now a.rom_rows.now _ c.in_ok-rom_count.ensures c.if-set_rows-count.false c.if-rom_rows-rom_count.false _ _ e.filenames e.long in
    rw e.window (record { sets = c.if-set_rows-count.false; roms = l })

pub returns : goal.returns
returns c =
    let a = c.args in
    let e = c.new.ensures in
    let w = c.write_rom_sets.ensures in
    let l =
    left_written a.w.image.now a.w.base a.fields a.count a.ptr a.set_rows.now a.rom_rows.now _ c.in_ok-rom_count.ensures c.if-set_rows-count.false c.if-rom_rows-rom_count.false
    _ _ e.filenames e.long _ _ (rw e.window at w.sets) (rw e.window at w.roms) in
    record { reply = l.reply; sets = l.sets; roms = l.roms }
