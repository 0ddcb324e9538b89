use Rattle.std.proofs.Common.{◌≡◌, ◌+◌, ◌∙◌, subst, slice_get, Some, take}
use Rattle.std.proofs.lemmas.Result.{err_from_is_err_and}
use Rattle.sd_model_record.specs.Record.{Record}
use Rattle.sd_record.specs.Record.{record_view}
use Rattle.sd_record.specs.Row.{row_view}
use Rattle.sd_record.specs.RowTexts.{rows_text}
use Rattle.sd_record.proofs.RowLemmas.{rows_text-more, rows_text-split}
use Rattle.sd_record.proofs.WriteSteps.{next_part, next_prefix, prefix_prefix}
use Rattle.sd_record.proofs.rows.write_rows.Goals as goal

pub returns-in_err-write_row_through-clause-failed : goal.returns-in_err-write_row_through-clause-failed
returns-in_err-write_row_through-clause-failed g c =
    let r = record_view c.args.rec.now in
    let lines = g.T.RowText.lines_of c.args.form.now in
    let failed = err_from_is_err_and c.from_residual.result c.from_residual.ensures.1 in
    let there = subst (λ (s : Record). slice_get s.rows c.loop-i.i ≡ Some (row_view c.put_row.new.row)) c.loop-i.invariant.same c.put_row.ensures.row in
    let more = rows_text-more lines r.rows c.loop-i.i _ there in
    let prefix = next_prefix _ _ _ (rows_text lines (take c.loop-i.i r.rows)) _ _ c.loop-i.invariant.written more c.in_err-write_row_through.ensures.failed in
    rw failed.1 (prefix_prefix _ _ _ _ _ (rows_text-split lines r.rows (c.loop-i.i + 1)) prefix)

pub loop-i-preserved : goal.loop-i-preserved
loop-i-preserved g c =
    let r = record_view c.args.rec.now in
    let lines = g.T.RowText.lines_of c.args.form.now in
    let there = subst (λ (s : Record). slice_get s.rows c.loop-i.i ≡ Some (row_view c.put_row.new.row)) c.loop-i.invariant.same c.put_row.ensures.row in
    record {
      written = next_part _ _ _ (rows_text lines (take c.loop-i.i r.rows)) _ _ c.loop-i.invariant.written (rows_text-more lines r.rows c.loop-i.i _ there) c.in_ok-write_row_through.ensures.ok;
      all = c.loop-i.invariant.all;
      same = c.put_row.ensures.record ∙ c.loop-i.invariant.same;
      room = c.put_row.ensures.room ∙ c.loop-i.invariant.room;
      scratch = c.put_row.ensures.same_scratch ∙ c.loop-i.invariant.scratch;
    }
