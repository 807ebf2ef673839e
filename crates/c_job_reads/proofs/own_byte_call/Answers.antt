use Rattle.std.proofs.Common.{sym, ap, ◌∙◌}
use Rattle.info.specs.Lent.{lent_by}
use Rattle.info.specs.Reads.{own, Reply}
use Rattle.byte_reads.specs.Calls.{byte_of}
use Rattle.jobs.proofs.Laws.Tested.{none_read, none_left, its_read, its_left}
use Rattle.c_handed.specs.Handed.{board_in}
use Rattle.c_board.specs.Board.{levels_from}
use Rattle.c_board.specs.Value.{value_after}
use Rattle.c_own.specs.Code.{own_on_count}
use Rattle.c_job_reads.specs.Reads.{own_call}
use Rattle.c_job_reads.proofs.own_byte_call.Goals as goal

pub returns-then-not-is_job-clause-reply : goal.returns-then-not-is_job-clause-reply
unfolding own_call
returns-then-not-is_job-clause-reply c =
    let a = c.args in
    ap (λ (t : Reply). t.number) (none_read a.flash_base a.cs0_base (lent_by (board_in a.flash_base a.cs0_base a.report) a.set_rows.now a.rom_rows.now) a.job a.counts.now (own a.set a.address (levels_from a.levels.now)) a.image.now (sym c.is_job.ensures ∙ c.if-not-is_job.true) c.told-counts _ (c.number.ensures ∙ c.no_job.ensures))

pub returns-then-not-is_job-clause-counts : goal.returns-then-not-is_job-clause-counts
unfolding own_call
returns-then-not-is_job-clause-counts c =
    let a = c.args in
    none_left a.flash_base a.cs0_base (lent_by (board_in a.flash_base a.cs0_base a.report) a.set_rows.now a.rom_rows.now) a.job a.counts.now (own a.set a.address (levels_from a.levels.now)) a.image.now (sym c.is_job.ensures ∙ c.if-not-is_job.true)

pub returns-clause-reply : goal.returns-clause-reply
unfolding own_call own_on_count
returns-clause-reply c =
    let a = c.args in
    c.own_byte_on_count-number.ensures.reply ∙ ap (λ (t : Reply). t.number) (its_read a.flash_base a.cs0_base (lent_by (board_in a.flash_base a.cs0_base a.report) a.set_rows.now a.rom_rows.now) a.job a.counts.now (own a.set a.address (levels_from a.levels.now)) a.image.now (sym c.is_job.ensures ∙ c.if-not-is_job.false) _ c.count_of-own_count.ensures)

pub returns-clause-counts : goal.returns-clause-counts
unfolding own_call own_on_count
returns-clause-counts c =
    let a = c.args in
    its_left a.flash_base a.cs0_base (lent_by (board_in a.flash_base a.cs0_base a.report) a.set_rows.now a.rom_rows.now) a.job a.counts.now (own a.set a.address (levels_from a.levels.now)) a.image.now (sym c.is_job.ensures ∙ c.if-not-is_job.false) _ c.count_of-own_count.ensures
    _ c.own_byte_on_count-number.ensures.count _ c.leave.ensures

pub returns-clause-value : goal.returns-clause-value
unfolding own_call own_on_count
returns-clause-value c =
    let a = c.args in
    c.own_byte_on_count-number.ensures.value ∙ ap (λ (t : Reply). value_after c.own_byte_on_count-number.result (byte_of t).byte a.value.now) (its_read a.flash_base a.cs0_base (lent_by (board_in a.flash_base a.cs0_base a.report) a.set_rows.now a.rom_rows.now) a.job a.counts.now (own a.set a.address (levels_from a.levels.now)) a.image.now (sym c.is_job.ensures ∙ c.if-not-is_job.false) _ c.count_of-own_count.ensures)
