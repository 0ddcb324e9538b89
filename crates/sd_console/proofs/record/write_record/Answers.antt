use Rattle.std.proofs.Common.{refl, sym, ◌∙◌, append-nil}
use Rattle.std.proofs.lemmas.Result.{err_from_is_err_and, on_ok_weaker, on_err_weaker}
use Rattle.sd_record.specs.Record.{record_view}
use Rattle.sd_record.proofs.WriteSteps.{prefix_1, prefix_2, prefix_3, prefix_4, three_parts, next_part}
use Rattle.sd_console.proofs.TextLemmas.{console_text-parts}
use Rattle.sd_console.proofs.record.write_record.Goals as goal

pub returns-in_err-write_line-clause-failed : goal.returns-in_err-write_line-clause-failed
returns-in_err-write_line-clause-failed g c =
    let failed = err_from_is_err_and c.from_residual.result c.from_residual.ensures.1 in
    let parts = console_text-parts (record_view c.args.rec.now) _ _ _ _ c.second_line.result.items _ _ refl refl c.ts.ensures refl c.second_line.ensures refl refl ∙ sym (append-nil _) in
    rw failed.1 (prefix_1 _ _ _ _ _ _ _ parts _ c.in_err-write_line.ensures.failed)

pub returns-in_err-write_rows-clause-failed : goal.returns-in_err-write_rows-clause-failed
returns-in_err-write_rows-clause-failed g c =
    let failed = err_from_is_err_and c.from_residual-in_err-write_rows.result c.from_residual-in_err-write_rows.ensures.1 in
    let parts = console_text-parts (record_view c.args.rec.now) _ _ _ _ c.second_line.result.items _ _ refl c.calculated.ensures c.ts.ensures refl c.second_line.ensures refl refl ∙ sym (append-nil _) in
    rw failed.1 (prefix_2 _ _ _ _ _ _ _ parts _ c.in_ok-write_line.ensures.ok _ c.in_err-write_rows.ensures.failed)

pub returns-in_err-write_lines-clause-failed : goal.returns-in_err-write_lines-clause-failed
returns-in_err-write_lines-clause-failed g c =
    let failed = err_from_is_err_and c.from_residual-in_err-write_lines.result c.from_residual-in_err-write_lines.ensures.1 in
    let parts = console_text-parts (record_view c.args.rec.now) _ _ _ _ c.second_line.result.items _ _ c.in_ok-write_rows.ensures.record c.calculated.ensures c.ts.ensures refl c.second_line.ensures c.count_lines.ensures refl ∙ sym (append-nil _) in
    rw failed.1 (prefix_3 _ _ _ _ _ _ _ parts _ c.in_ok-write_line.ensures.ok _ c.in_ok-write_rows.ensures.ok _ c.in_err-write_lines.ensures.failed)

pub returns-clause-ok : goal.returns-clause-ok
returns-clause-ok g c =
    let whole = console_text-parts (record_view c.args.rec.now) _ _ _ _ c.second_line.result.items c.second_line-2.result.items _ c.in_ok-write_rows.ensures.record c.calculated.ensures c.ts.ensures c.ts-2.ensures c.second_line.ensures c.count_lines.ensures c.second_line-2.ensures in
    on_ok_weaker _ (next_part _ _ _ _ _ _ (three_parts _ _ _ _ _ _ _ (whole ∙ sym (append-nil _)) _ c.in_ok-write_line.ensures.ok _ c.in_ok-write_rows.ensures.ok _ c.in_ok-write_lines.ensures.ok) whole) c.write_line-2.ensures.ok

pub returns-clause-failed : goal.returns-clause-failed
returns-clause-failed g c =
    let parts = console_text-parts (record_view c.args.rec.now) _ _ _ _ c.second_line.result.items c.second_line-2.result.items _ c.in_ok-write_rows.ensures.record c.calculated.ensures c.ts.ensures c.ts-2.ensures c.second_line.ensures c.count_lines.ensures c.second_line-2.ensures ∙ sym (append-nil _) in
    on_err_weaker _ (prefix_4 _ _ _ _ _ _ _ parts _ c.in_ok-write_line.ensures.ok _ c.in_ok-write_rows.ensures.ok _ c.in_ok-write_lines.ensures.ok _) c.write_line-2.ensures.failed
