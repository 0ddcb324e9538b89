use Rattle.std.proofs.Common.{refl, ◌∙◌}
use Rattle.std.proofs.lemmas.Result.{err_from_is_err_and, on_ok_weaker, on_err_weaker}
use Rattle.sd_record.specs.Record.{record_view}
use Rattle.sd_desk.specs.Tally.{tally_of}
use Rattle.sd_graphite.proofs.TextLemmas.{tail_text-parts}
use Rattle.sd_record.proofs.WriteSteps.{prefix_1, prefix_2, prefix_3, prefix_4, prefix_5, five_parts}
use Rattle.sd_graphite.proofs.tail.write_tail.Goals as goal

pub returns-in_err-write_own_counter-clause-failed : goal.returns-in_err-write_own_counter-clause-failed
returns-in_err-write_own_counter-clause-failed g c =
    let failed = err_from_is_err_and c.from_residual.result c.from_residual.ensures.1 in
    let parts = tail_text-parts c.args.names.now (record_view c.args.rec.now) (tally_of c.tally-tally.result) c.tally-tally.ensures _ _ refl refl _ refl in
    rw failed.1 (prefix_1 _ _ _ _ _ _ _ parts _ c.in_err-write_own_counter.ensures.failed)

pub returns-in_err-write_own_counter-2-clause-failed : goal.returns-in_err-write_own_counter-2-clause-failed
returns-in_err-write_own_counter-2-clause-failed g c =
    let failed = err_from_is_err_and c.from_residual-in_err-write_own_counter-2.result c.from_residual-in_err-write_own_counter-2.ensures.1 in
    let parts = tail_text-parts c.args.names.now (record_view c.args.rec.now) (tally_of c.tally-tally.result) c.tally-tally.ensures _ _ refl refl _ refl in
    rw failed.1 (prefix_2 _ _ _ _ _ _ _ parts _ c.in_ok-write_own_counter.ensures.ok _ c.in_err-write_own_counter-2.ensures.failed)

pub returns-in_err-write_own_counter-3-clause-failed : goal.returns-in_err-write_own_counter-3-clause-failed
returns-in_err-write_own_counter-3-clause-failed g c =
    let failed = err_from_is_err_and c.from_residual-in_err-write_own_counter-3.result c.from_residual-in_err-write_own_counter-3.ensures.1 in
    let parts = tail_text-parts c.args.names.now (record_view c.args.rec.now) (tally_of c.tally-tally.result) c.tally-tally.ensures _ _ refl refl _ refl in
    rw failed.1 (prefix_3 _ _ _ _ _ _ _ parts _ c.in_ok-write_own_counter.ensures.ok _ c.in_ok-write_own_counter-2.ensures.ok _ c.in_err-write_own_counter-3.ensures.failed)

pub returns-in_err-write_own_counter-4-clause-failed : goal.returns-in_err-write_own_counter-4-clause-failed
returns-in_err-write_own_counter-4-clause-failed g c =
    let failed = err_from_is_err_and c.from_residual-in_err-write_own_counter-4.result c.from_residual-in_err-write_own_counter-4.ensures.1 in
    let parts = tail_text-parts c.args.names.now (record_view c.args.rec.now) (tally_of c.tally-tally.result) c.tally-tally.ensures _ _ refl refl _ refl in
    rw failed.1 (prefix_4 _ _ _ _ _ _ _ parts _ c.in_ok-write_own_counter.ensures.ok _ c.in_ok-write_own_counter-2.ensures.ok _ c.in_ok-write_own_counter-3.ensures.ok _ c.in_err-write_own_counter-4.ensures.failed)

pub returns-clause-ok : goal.returns-clause-ok
returns-clause-ok g c =
    let parts = tail_text-parts c.args.names.now (record_view c.args.rec.now) (tally_of c.tally-tally.result) c.tally-tally.ensures _ _ c.rows.ensures (c.of-second.ensures ∙ c.ts.ensures) c.put_rows.new.line.items c.put_rows.ensures in
    on_ok_weaker _ (five_parts _ _ _ _ _ _ _ parts _ c.in_ok-write_own_counter.ensures.ok _ c.in_ok-write_own_counter-2.ensures.ok _ c.in_ok-write_own_counter-3.ensures.ok _ c.in_ok-write_own_counter-4.ensures.ok _) c.write_line.ensures.ok

pub returns-clause-failed : goal.returns-clause-failed
returns-clause-failed g c =
    let parts = tail_text-parts c.args.names.now (record_view c.args.rec.now) (tally_of c.tally-tally.result) c.tally-tally.ensures _ _ c.rows.ensures (c.of-second.ensures ∙ c.ts.ensures) c.put_rows.new.line.items c.put_rows.ensures in
    on_err_weaker _ (prefix_5 _ _ _ _ _ _ _ parts _ c.in_ok-write_own_counter.ensures.ok _ c.in_ok-write_own_counter-2.ensures.ok _ c.in_ok-write_own_counter-3.ensures.ok _ c.in_ok-write_own_counter-4.ensures.ok _) c.write_line.ensures.failed
