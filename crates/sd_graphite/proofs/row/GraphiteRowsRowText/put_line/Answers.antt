use Rattle.std.proofs.Common.{◌≡◌, ◌<◌, ◌∷◌, [], slice_get, Some, ap, sym, subst, ◌∙◌, arith}
use Rattle.sd_record.specs.Row.{row_view, timer_view}
use Rattle.sd_graphite.specs.Texts.{rate_line, count_line}
use Rattle.sd_graphite.proofs.TextLemmas.{counter_count, counter_at, timer_count, timer_at, gauge_at, set_at}
use Rattle.sd_graphite.proofs.row.GraphiteRowsRowText.put_line.Goals as goal

pub figure_parts-figure-requires : goal.figure_parts-figure-requires
figure_parts-figure-requires c =
    subst (λ n. c.args.place < n) (timer_count c.args.self.now.names.now c.args.self.now.calculated.now c.args.self.now.second.now _ _ _ (ap row_view c.in-Timer.is)) c.requires

pub returns-in-0 : goal.returns-in-0
returns-in-0 c =
    counter_at c.args.self.now.names.now c.args.self.now.calculated.now c.args.self.now.second.now _ c.in-Counter.key c.in-Counter.count.0 c.in-Counter.rate.0 (ap row_view c.in-Counter.is) c.args.place
    ∙ ap (slice_get (rate_line c.args.self.now.names.now c.args.self.now.second.now c.in-Counter.key c.in-Counter.rate.0 ∷ count_line c.args.self.now.names.now c.args.self.now.second.now c.in-Counter.key c.in-Counter.count.0 ∷ [])) c.in-0.is
    ∙ ap Some (sym c.put_rate.ensures)

pub returns-in_default : goal.returns-in_default
returns-in_default c =
    let second : c.args.place ≡ 1 = omega (arith, c.requires, counter_count c.args.self.now.names.now c.args.self.now.calculated.now c.args.self.now.second.now _ _ _ _ (ap row_view c.in-Counter.is)) in
    counter_at c.args.self.now.names.now c.args.self.now.calculated.now c.args.self.now.second.now _ c.in-Counter.key c.in-Counter.count.0 c.in-Counter.rate.0 (ap row_view c.in-Counter.is) c.args.place
    ∙ ap (slice_get (rate_line c.args.self.now.names.now c.args.self.now.second.now c.in-Counter.key c.in-Counter.rate.0 ∷ count_line c.args.self.now.names.now c.args.self.now.second.now c.in-Counter.key c.in-Counter.count.0 ∷ [])) second
    ∙ ap Some (sym c.put_count.ensures)

pub returns-in-Timer : goal.returns-in-Timer
returns-in-Timer c =
    timer_at c.args.self.now.names.now c.args.self.now.calculated.now c.args.self.now.second.now _ c.in-Timer.key (timer_view c.in-Timer.timer) (ap row_view c.in-Timer.is) c.args.place c.figure_parts-figure.result c.figure_parts-figure.ensures
    ∙ ap Some (sym c.put_sent.ensures)

pub returns-in-Gauge : goal.returns-in-Gauge
returns-in-Gauge c = gauge_at c.args.self.now.names.now c.args.self.now.calculated.now c.args.self.now.second.now _ _ _ (ap row_view c.in-Gauge.is) c.args.place c.requires ∙ ap Some (sym c.put_gauge.ensures)

pub returns-in-Set : goal.returns-in-Set
returns-in-Set c = set_at c.args.self.now.names.now c.args.self.now.calculated.now c.args.self.now.second.now _ _ _ (ap row_view c.in-Set.is) c.args.place c.requires ∙ ap Some (sym c.put_set.ensures)
