use Rattle.std.proofs.Common.{arith}
use Rattle.sd_record.proofs.TimerLemmas.{threshold_at, some_magnitude}
use Rattle.sd_record.proofs.timer_parts.put_parts.Goals as goal

pub pct-requires-clause-some : goal.pct-requires-clause-some
pct-requires-clause-some c = some_magnitude _ (threshold_at c.args.thresholds.now c.loop-threshold.threshold-index _ (omega arith) c.requires.range).1

pub pct-requires-clause-hundred : goal.pct-requires-clause-hundred
pct-requires-clause-hundred c = (threshold_at c.args.thresholds.now c.loop-threshold.threshold-index _ (omega arith) c.requires.range).0
