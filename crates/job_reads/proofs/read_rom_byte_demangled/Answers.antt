use Rattle.std.proofs.Common.{true, refl, sym, ap, ◌∙◌}
use Rattle.info.specs.Lent.{lent_by}
use Rattle.info.specs.Reads.{byte}
use Rattle.byte_reads.specs.declared.ByteRead.{ByteRead}
use Rattle.byte_reads.specs.Calls.{byte_of}
use Rattle.jobs.proofs.Laws.Tested.{none_read, none_left, its_read, its_left}
use Rattle.job_reads.proofs.read_rom_byte_demangled.Goals as goal

pub returns-then-not-is_job-clause-reply : goal.returns-then-not-is_job-clause-reply
returns-then-not-is_job-clause-reply c =
    let a = c.args in
    c.no_byte.ensures ∙ ap byte_of (none_read a.board.flash_base a.board.cs0_base (lent_by a.board a.set_rows.now a.rom_rows.now) a.job a.counts.now (byte a.set a.address true) a.image.now (sym c.is_job.ensures ∙ c.if-not-is_job.true) c.told-counts _ refl)

pub returns-then-not-is_job-clause-counts : goal.returns-then-not-is_job-clause-counts
returns-then-not-is_job-clause-counts c =
    let a = c.args in
    none_left a.board.flash_base a.board.cs0_base (lent_by a.board a.set_rows.now a.rom_rows.now) a.job a.counts.now (byte a.set a.address true) a.image.now (sym c.is_job.ensures ∙ c.if-not-is_job.true)

pub returns-clause-reply : goal.returns-clause-reply
returns-clause-reply c =
    let a = c.args in
    c.byte_demangled_on_count-shown.ensures ∙ ap byte_of (its_read a.board.flash_base a.board.cs0_base (lent_by a.board a.set_rows.now a.rom_rows.now) a.job a.counts.now (byte a.set a.address true) a.image.now (sym c.is_job.ensures ∙ c.if-not-is_job.false) _ c.count_of-before.ensures)

pub returns-clause-counts : goal.returns-clause-counts
returns-clause-counts c =
    let a = c.args in
    its_left a.board.flash_base a.board.cs0_base (lent_by a.board a.set_rows.now a.rom_rows.now) a.job a.counts.now (byte a.set a.address true) a.image.now (sym c.is_job.ensures ∙ c.if-not-is_job.false) _ c.count_of-before.ensures
    _ (ap (λ (t : ByteRead). t.count) c.byte_demangled_on_count-shown.ensures) _ c.leave.ensures
