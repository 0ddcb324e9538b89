use Rattle.std.proofs.Common.{ap, sym, length, ◌∙◌}
use Rattle.sd_record.specs.Row.{row_view}
use Rattle.sd_console.proofs.TextLemmas.{counter_texts, timer_count, gauge_texts, set_texts}
use Rattle.sd_console.proofs.row.ConsoleRowsRowText.line_count.Goals as goal

pub returns-in-Counter : goal.returns-in-Counter
returns-in-Counter c = sym (ap length (counter_texts c.args.self.now.calculated.now _ _ _ _ (ap row_view c.in-Counter.is)))

pub returns-in-Timer : goal.returns-in-Timer
returns-in-Timer c = c.figures.ensures ∙ sym (timer_count c.args.self.now.calculated.now _ _ _ (ap row_view c.in-Timer.is))

pub returns-in-Gauge : goal.returns-in-Gauge
returns-in-Gauge c = sym (ap length (gauge_texts c.args.self.now.calculated.now _ _ _ (ap row_view c.in-Gauge.is)))

pub returns-in-Set : goal.returns-in-Set
returns-in-Set c = sym (ap length (set_texts c.args.self.now.calculated.now _ _ _ (ap row_view c.in-Set.is)))
