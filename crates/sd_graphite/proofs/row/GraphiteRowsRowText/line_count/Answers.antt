use Rattle.std.proofs.Common.{ap, sym, ◌∙◌}
use Rattle.sd_record.specs.Row.{row_view}
use Rattle.sd_graphite.proofs.TextLemmas.{counter_count, timer_count, gauge_count, set_count}
use Rattle.sd_graphite.proofs.row.GraphiteRowsRowText.line_count.Goals as goal

pub returns-in-Counter : goal.returns-in-Counter
returns-in-Counter c = sym (counter_count c.args.self.now.names.now c.args.self.now.calculated.now c.args.self.now.second.now _ _ _ _ (ap row_view c.in-Counter.is))

pub returns-in-Timer : goal.returns-in-Timer
returns-in-Timer c = c.figures.ensures ∙ sym (timer_count c.args.self.now.names.now c.args.self.now.calculated.now c.args.self.now.second.now _ _ _ (ap row_view c.in-Timer.is))

pub returns-in-Gauge : goal.returns-in-Gauge
returns-in-Gauge c = sym (gauge_count c.args.self.now.names.now c.args.self.now.calculated.now c.args.self.now.second.now _ _ _ (ap row_view c.in-Gauge.is))

pub returns-in-Set : goal.returns-in-Set
returns-in-Set c = sym (set_count c.args.self.now.names.now c.args.self.now.calculated.now c.args.self.now.second.now _ _ _ (ap row_view c.in-Set.is))
