use Rattle.std.proofs.Common.{◌<◌, Some, ap, sym, subst, ◌∙◌}
use Rattle.sd_record.specs.Row.{row_view, timer_view}
use Rattle.sd_console.proofs.TextLemmas.{counter_texts, timer_count, timer_at, gauge_texts, set_texts, lone_line}
use Rattle.sd_console.proofs.row.ConsoleRowsRowText.put_line.Goals as goal

pub figure_parts-figure-requires : goal.figure_parts-figure-requires
figure_parts-figure-requires c = subst (λ n. c.args.place < n) (timer_count c.args.self.now.calculated.now _ _ _ (ap row_view c.in-Timer.is)) c.requires

pub returns-in-Counter : goal.returns-in-Counter
returns-in-Counter c = lone_line _ _ _ c.args.place (counter_texts c.args.self.now.calculated.now _ _ _ _ (ap row_view c.in-Counter.is)) c.put_counter.ensures c.requires

pub returns-in-Timer : goal.returns-in-Timer
returns-in-Timer c =
    timer_at c.args.self.now.calculated.now _ c.in-Timer.key (timer_view c.in-Timer.timer) (ap row_view c.in-Timer.is) c.args.place c.figure_parts-figure.result c.figure_parts-figure.ensures
    ∙ ap Some (sym c.put_sent.ensures)

pub returns-in-Gauge : goal.returns-in-Gauge
returns-in-Gauge c = lone_line _ _ _ c.args.place (gauge_texts c.args.self.now.calculated.now _ _ _ (ap row_view c.in-Gauge.is)) c.put_gauge.ensures c.requires

pub returns-in-Set : goal.returns-in-Set
returns-in-Set c = lone_line _ _ _ c.args.place (set_texts c.args.self.now.calculated.now _ _ _ (ap row_view c.in-Set.is)) c.put_set.ensures c.requires
