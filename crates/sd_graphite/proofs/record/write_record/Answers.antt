use Rattle.std.proofs.Common.{◌++◌, ◌∙◌, ap, sym}
use Rattle.std.proofs.lemmas.Result.{err_from_is_err_and, on_ok_weaker, on_err_weaker}
use Rattle.sd_record.specs.Record.{record_view}
use Rattle.sd_record.specs.RowTexts.{rows_text}
use Rattle.sd_record.proofs.WriteSteps.{next_part, next_prefix, prefix_prefix}
use Rattle.sd_graphite.specs.Texts.{row_texts, tail_text}
use Rattle.sd_graphite.proofs.TextLemmas.{graphite_text-parts}
use Rattle.sd_graphite.proofs.record.write_record.Goals as goal

pub returns-in_err-write_rows-clause-failed : goal.returns-in_err-write_rows-clause-failed
returns-in_err-write_rows-clause-failed g c =
    let failed = err_from_is_err_and c.from_residual.result c.from_residual.ensures.1 in
    rw failed.1 (prefix_prefix _ _ _ _ _ (graphite_text-parts c.args.names.now (record_view c.args.rec.now) c.calculated.result.now c.of-second.result c.calculated.ensures (c.of-second.ensures ∙ c.ts.ensures)) c.in_err-write_rows.ensures.failed)

pub returns-clause-ok : goal.returns-clause-ok
returns-clause-ok g c =
    let names = c.args.names.now in
    let r = record_view c.args.rec.now in
    let parts = graphite_text-parts names r c.calculated.result.now c.of-second.result c.calculated.ensures (c.of-second.ensures ∙ c.ts.ensures) ∙ ap (λ s. rows_text (row_texts names c.calculated.result.now c.of-second.result) r.rows ++ tail_text names s) (sym c.in_ok-write_rows.ensures.record) in
    on_ok_weaker _ (next_part _ _ _ _ _ _ c.in_ok-write_rows.ensures.ok parts) c.write_tail.ensures.ok

pub returns-clause-failed : goal.returns-clause-failed
returns-clause-failed g c =
    let names = c.args.names.now in
    let r = record_view c.args.rec.now in
    let parts = graphite_text-parts names r c.calculated.result.now c.of-second.result c.calculated.ensures (c.of-second.ensures ∙ c.ts.ensures) ∙ ap (λ s. rows_text (row_texts names c.calculated.result.now c.of-second.result) r.rows ++ tail_text names s) (sym c.in_ok-write_rows.ensures.record) in
    on_err_weaker _ (next_prefix _ _ _ _ _ _ c.in_ok-write_rows.ensures.ok parts) c.write_tail.ensures.failed
