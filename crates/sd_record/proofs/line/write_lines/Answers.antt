use Rattle.std.proofs.lemmas.Result.{err_from_is_err_and}
use Rattle.sd_model_outside.proofs.LineWrites.{line_written, line_failed}
use Rattle.sd_record.proofs.RowLemmas.{map-at}
use Rattle.sd_record.proofs.line.write_lines.Goals as goal

pub returns-in_err-write_line-clause-failed : goal.returns-in_err-write_line-clause-failed
returns-in_err-write_line-clause-failed g c =
    let failed = err_from_is_err_and c.from_residual.result c.from_residual.ensures.1 in
    let there = map-at (λ line. line.items) c.args.lines.now c.loop-line.line-index c.line-item.result c.loop-line-test.true c.line-item.is in
    rw failed.1 (line_failed _ c.loop-line.line-index _ there _ _ c.loop-line.invariant _ c.in_err-write_line.ensures.failed)

pub loop-line-preserved : goal.loop-line-preserved
loop-line-preserved g c =
    let there = map-at (λ line. line.items) c.args.lines.now c.loop-line.line-index c.line-item.result c.loop-line-test.true c.line-item.is in
    line_written _ c.loop-line.line-index _ there _ _ c.loop-line.invariant _ c.in_ok-write_line.ensures.ok
