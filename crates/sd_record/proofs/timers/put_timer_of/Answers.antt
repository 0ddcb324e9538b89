use Rattle.std.proofs.Common.{length, sym, ap, ◌∙◌}
use Rattle.std.specs.Prelude.{filter_map}
use Rattle.std.proofs.lemmas.List.{length-map}
use Rattle.sd_model_shard.specs.Values.{bins, pct, whole_statistics}
use Rattle.sd_model_record.specs.Record.{limits_for}
use Rattle.sd_decimal.specs.declared.number.Micro.{Micro}
use Rattle.sd_plan.specs.Plan.{plan_view}
use Rattle.sd_stats.specs.Seen.{timer_seen}
use Rattle.sd_stats.specs.Timer.{numbers}
use Rattle.sd_record.proofs.TimerLemmas.{figures-made}
use Rattle.sd_record.proofs.timers.put_timer_of.Goals as goal

pub returns : goal.returns
returns c =
    let plan = plan_view c.args.plan.now in
    let values = c.args.values.now in
    let seen = timer_seen c.of-stats.result in
    let timer = c.of-stats.ensures.timer in
    figures-made plan c.args.key.now c.args.weight.0 _ (numbers values) _ _ _ (length values)
    (sym c.is_empty.ensures ∙ c.if-is_empty.false)
    (sym (length-map values (λ (m : Micro). m.0)))
    c.per_second-timer.ensures
    (c.whole.ensures ∙ ap whole_statistics timer)
    (c.put_parts.ensures ∙ ap (λ ts. filter_map (λ t. pct t seen.values) ts) c.as_slice.ensures.value ∙ ap (λ s. filter_map (λ t. pct t s.values) plan.thresholds) timer)
    (c.put_bins.ensures ∙ ap (λ ls. bins ls seen.values) (c.limits_for-limits.ensures.limits ∙ ap (limits_for c.args.key.now) c.as_slice-2.ensures.value) ∙ ap (λ s. bins (limits_for c.args.key.now plan.histograms) s.values) timer)
