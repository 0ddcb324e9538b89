-- A timer's type, as the definitions have it, and the slice that it keeps.
use Rattle.std.specs.Borrow.{GName}
use Rattle.sd_model_shard.specs.Values.{Timer}
use Rattle.sd_stats.specs.Timer.{numbers}
use Rattle.sd_stats.specs.declared.timer.TimerStats.{TimerStats}

abbrev pub timer_seen : TimerStats → Timer
timer_seen t = record { values = numbers t.values.now; weight = t.weight.0; interval_ms = t.interval_ms }

-- the slice that is kept
abbrev pub lender : TimerStats → GName
lender t = t.values.ghost_name
