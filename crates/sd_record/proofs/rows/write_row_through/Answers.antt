use Rattle.std.proofs.Common.{◌≡◌, ◌+◌, ◌-◌, ◌≤◌, ap, length, arith}
use Rattle.std.proofs.lemmas.List.{take_all}
use Rattle.std.specs.List.{concat}
use Rattle.std.proofs.lemmas.Result.{err_from_is_err_and}
use Rattle.sd_model_outside.proofs.LineWrites.{line_written, line_failed}
use Rattle.sd_record.specs.Row.{row_view}
use Rattle.sd_record.proofs.WriteSteps.{same_part}
use Rattle.sd_record.proofs.rows.write_row_through.Goals as goal

pub returns-in_err-write_line-clause-failed : goal.returns-in_err-write_line-clause-failed
returns-in_err-write_line-clause-failed g c =
    let failed = err_from_is_err_and c.from_residual.result c.from_residual.ensures.1 in
    let lines = g.T.RowText.lines_of c.args.form.now (row_view c.args.row.now) in
    rw failed.1 (line_failed lines c.loop-place.place _ c.put_next.ensures _ _ c.loop-place.invariant.written _ c.in_err-write_line.ensures.failed)

pub loop-place-preserved : goal.loop-place-preserved
loop-place-preserved g c =
    let lines = g.T.RowText.lines_of c.args.form.now (row_view c.args.row.now) in
    record {
      written = line_written lines c.loop-place.place _ c.put_next.ensures _ _ c.loop-place.invariant.written _ c.in_ok-write_line.ensures.ok;
      all = c.loop-place.invariant.all;
      before = λ _. let same : c.loop-place.place + 1 - 1 ≡ c.loop-place.place = omega arith in rw same c.put_next.ensures;
    }

pub returns-clause-ok : goal.returns-clause-ok
returns-clause-ok g c =
    let lines = g.T.RowText.lines_of c.args.form.now (row_view c.args.row.now) in
    let all : length lines ≤ c.loop-place.place = omega (arith, c.loop-place.invariant.all) in
    same_part _ _ _ _ (ap concat (take_all c.loop-place.place lines all)) c.loop-place.invariant.written
