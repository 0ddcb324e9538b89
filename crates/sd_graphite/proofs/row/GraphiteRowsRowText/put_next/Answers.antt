use Rattle.std.proofs.Common.{◌<◌, ◌-◌, Some, ap, sym, subst, ◌∙◌}
use Rattle.sd_record.specs.Row.{row_view, timer_view}
use Rattle.sd_graphite.proofs.TextLemmas.{timer_count, timer_at, timer_begins}
use Rattle.sd_graphite.proofs.row.GraphiteRowsRowText.put_next.Goals as goal

pub figure_parts-figure-requires : goal.figure_parts-figure-requires
figure_parts-figure-requires c =
    subst (λ n. c.args.place < n) (timer_count c.args.self.now.names.now c.args.self.now.calculated.now c.args.self.now.second.now _ _ _ (ap row_view c.in-Timer.is)) c.requires.place

pub put_sent-requires : goal.put_sent-requires
put_sent-requires c =
    λ begun.
    let both = c.is_begun.ensures begun in
    timer_begins c.args.self.now.names.now c.args.self.now.calculated.now c.args.self.now.second.now _ c.in-Timer.key (timer_view c.in-Timer.timer) (ap row_view c.in-Timer.is) (c.args.place - 1) _ (c.requires.before both.0) both.1

pub returns-in-Timer : goal.returns-in-Timer
returns-in-Timer c =
    timer_at c.args.self.now.names.now c.args.self.now.calculated.now c.args.self.now.second.now _ c.in-Timer.key (timer_view c.in-Timer.timer) (ap row_view c.in-Timer.is) c.args.place c.figure_parts-figure.result c.figure_parts-figure.ensures
    ∙ ap Some (sym c.put_sent.ensures)
