use Rattle.std.proofs.Common.{◌≡◌, ◌++◌, inl, inr, ap, subst, ◌∙◌}
use Rattle.sd_model_outside.specs.Outside.{HasFailedBehind, given}
use Rattle.sd_model_record.specs.Totals.{totals_text}
use Rattle.sd_model_call.specs.Call.{cut_answer}
use Rattle.sd_top.specs.Serving.{ends_of, lines_in, skips_in, totals_in}
use Rattle.sd_top.proofs.server_end.finish.Goals as goal

pub returns-in-Ok : goal.returns-in-Ok
returns-in-Ok g c =
    let served = c.args.served.now in
    let text : c.as_slice.result.now ≡ lines_in served.books.items served.desk served.outs =
    c.as_slice.ensures.value ∙ c.lines_of.ensures ∙ ap (λ totals. totals_text (totals ++ skips_in served.outs)) (c.totals_of-totals.ensures ∙ ap (λ books. totals_in books served.desk served.outs) c.deref-2.ensures.0) in
    inl (
      c.status_after-status.ensures ∙ ap (λ received. ends_of received served.ends) c.deref.ensures.value,
      c.in-Ok.ensures.ok ∙ ap (λ t. given t (g.O.Faulty.seen c.args.output.now)) text,
    )

pub returns-in-Err : goal.returns-in-Err
returns-in-Err g c =
    let served = c.args.served.now in
    let text : c.as_slice.result.now ≡ lines_in served.books.items served.desk served.outs =
    c.as_slice.ensures.value ∙ c.lines_of.ensures ∙ ap (λ totals. totals_text (totals ++ skips_in served.outs)) (c.totals_of-totals.ensures ∙ ap (λ books. totals_in books served.desk served.outs) c.deref-2.ensures.0) in
    inr (
      c.cut.ensures ∙ ap cut_answer (c.status_after-status.ensures ∙ ap (λ received. ends_of received served.ends) c.deref.ensures.value),
      subst (λ t. HasFailedBehind t (g.O.Faulty.seen c.args.output.now) (g.O.Faulty.seen c.write_all.new.sink)) text c.in-Err.ensures.failed,
    )
