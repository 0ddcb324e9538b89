use Rattle.std.proofs.Common.{ap}
use Rattle.std.specs.Prelude.{ℤ, List}
use Rattle.sd_model_shard.specs.Values.{Timer}
use Rattle.sd_stats.proofs.NumberLemmas.{sorted-numbers}
use Rattle.sd_stats.proofs.timer.TimerStats.of.Goals as goal

pub returns-clause-timer : goal.returns-clause-timer
returns-clause-timer c =
    let timer : List ℤ → Timer = λ values. record { values = values; weight = c.args.weight.0; interval_ms = c.args.interval_ms } in
    ap timer (sorted-numbers c.args.values.now c.sort_unstable.new.self c.sort_unstable.ensures.permutation c.sort_unstable.ensures.sorted)
