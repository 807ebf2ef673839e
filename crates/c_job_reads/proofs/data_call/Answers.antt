use Rattle.std.proofs.Common.{[], length, sym, ap, ◌∙◌}
use Rattle.info.specs.Lent.{lent_by}
use Rattle.info.specs.Reads.{range, Reply, buffer_left}
use Rattle.jobs.proofs.Laws.Tested.{none_read, none_left, none_buffer, its_read, its_left}
use Rattle.c_handed.specs.Handed.{board_in}
use Rattle.c_reads.specs.Code.{data_on_count}
use Rattle.c_job_reads.specs.Reads.{data_call}
use Rattle.c_job_reads.proofs.data_call.Goals as goal

pub returns-then-not-is_job-clause-reply : goal.returns-then-not-is_job-clause-reply
unfolding data_call
returns-then-not-is_job-clause-reply c =
    let a = c.args in
    ap (λ (t : Reply). t.number) (none_read a.flash_base a.cs0_base (lent_by (board_in a.flash_base a.cs0_base a.report) a.set_rows.now []) a.job a.counts.now (range a.set a.offset (length a.buffer.now)) a.image.now (sym c.is_job.ensures ∙ c.if-not-is_job.true) c.told-counts _ (c.number.ensures ∙ c.no_job.ensures))

pub returns-then-not-is_job-clause-buffer : goal.returns-then-not-is_job-clause-buffer
unfolding data_call
returns-then-not-is_job-clause-buffer c =
    let a = c.args in
    none_buffer a.flash_base a.cs0_base (lent_by (board_in a.flash_base a.cs0_base a.report) a.set_rows.now []) a.job a.counts.now (range a.set a.offset (length a.buffer.now)) a.image.now (sym c.is_job.ensures ∙ c.if-not-is_job.true) a.buffer.now

pub returns-then-not-is_job-clause-counts : goal.returns-then-not-is_job-clause-counts
unfolding data_call
returns-then-not-is_job-clause-counts c =
    let a = c.args in
    none_left a.flash_base a.cs0_base (lent_by (board_in a.flash_base a.cs0_base a.report) a.set_rows.now []) a.job a.counts.now (range a.set a.offset (length a.buffer.now)) a.image.now (sym c.is_job.ensures ∙ c.if-not-is_job.true)

pub returns-clause-reply : goal.returns-clause-reply
unfolding data_call data_on_count
returns-clause-reply c =
    let a = c.args in
    c.data_on_count-number.ensures.reply ∙ ap (λ (t : Reply). t.number) (its_read a.flash_base a.cs0_base (lent_by (board_in a.flash_base a.cs0_base a.report) a.set_rows.now []) a.job a.counts.now (range a.set a.offset (length a.buffer.now)) a.image.now (sym c.is_job.ensures ∙ c.if-not-is_job.false) _ c.count_of-data_count.ensures)

pub returns-clause-buffer : goal.returns-clause-buffer
unfolding data_call data_on_count
returns-clause-buffer c =
    let a = c.args in
    c.data_on_count-number.ensures.buffer ∙ ap (λ (t : Reply). buffer_left t a.buffer.now) (its_read a.flash_base a.cs0_base (lent_by (board_in a.flash_base a.cs0_base a.report) a.set_rows.now []) a.job a.counts.now (range a.set a.offset (length a.buffer.now)) a.image.now (sym c.is_job.ensures ∙ c.if-not-is_job.false) _ c.count_of-data_count.ensures)

pub returns-clause-counts : goal.returns-clause-counts
unfolding data_call data_on_count
returns-clause-counts c =
    let a = c.args in
    its_left a.flash_base a.cs0_base (lent_by (board_in a.flash_base a.cs0_base a.report) a.set_rows.now []) a.job a.counts.now (range a.set a.offset (length a.buffer.now)) a.image.now (sym c.is_job.ensures ∙ c.if-not-is_job.false) _ c.count_of-data_count.ensures
    _ c.data_on_count-number.ensures.count _ c.leave.ensures
