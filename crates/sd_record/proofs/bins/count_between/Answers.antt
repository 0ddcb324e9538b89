use Rattle.std.proofs.Common.{sym, ap, ◌∙◌}
use Rattle.sd_plan.specs.Entries.{limit_of}
use Rattle.sd_stats.specs.Timer.{numbers}
use Rattle.sd_record.proofs.TimerLemmas.{none_above}
use Rattle.sd_record.proofs.bins.count_between.Goals as goal
use Rattle.sd_model_shard.proofs.Short.{bin}

pub returns-in-Infinite : goal.returns-in-Infinite
returns-in-Infinite c =
    let values = numbers c.args.stats.now.values.now in
    sym (ap (λ l. bin (limit_of l) (limit_of c.args.below) values) c.in-Infinite.is ∙ none_above (limit_of c.args.below) values)
