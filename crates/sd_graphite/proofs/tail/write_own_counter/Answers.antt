use Rattle.std.proofs.Common.{◌∙◌}
use Rattle.std.proofs.lemmas.Result.{on_ok_weaker, on_err_weaker}
use Rattle.sd_record.specs.Record.{record_view}
use Rattle.sd_record.specs.Row.{row_view}
use Rattle.sd_record.proofs.WriteSteps.{same_part, same_prefix}
use Rattle.sd_graphite.proofs.TextLemmas.{own_text-row, row_texts-joined}
use Rattle.sd_graphite.proofs.tail.write_own_counter.Goals as goal

pub returns-clause-ok : goal.returns-clause-ok
returns-clause-ok g c =
    let names = c.args.names.now in
    let text = row_texts-joined names c.calculated.result.now c.args.second.now (row_view c.own_row.result) ∙ own_text-row names c.calculated.result.now (record_view c.args.rec.now) c.args.name.now c.args.number _ _ c.requires.second c.own_row.ensures in
    on_ok_weaker _ (same_part _ _ _ _ text) c.write_row.ensures.ok

pub returns-clause-failed : goal.returns-clause-failed
returns-clause-failed g c =
    let names = c.args.names.now in
    let text = row_texts-joined names c.calculated.result.now c.args.second.now (row_view c.own_row.result) ∙ own_text-row names c.calculated.result.now (record_view c.args.rec.now) c.args.name.now c.args.number _ _ c.requires.second c.own_row.ensures in
    on_err_weaker _ (same_prefix _ _ _ _ text) c.write_row.ensures.failed
