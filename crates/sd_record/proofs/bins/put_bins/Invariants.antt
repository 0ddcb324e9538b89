use Rattle.std.proofs.Common.{◌≡◌, ◌++◌, length, drop, map}
use Rattle.sd_model_shard.specs.Values.{bins, bins_from}
use Rattle.sd_plan.specs.Entries.{limit_of, limits_of}
use Rattle.sd_stats.specs.Seen.{timer_seen}
use Rattle.sd_record.specs.Row.{bin_view}
use Rattle.sd_record.proofs.bins.put_bins.Given as goal

-- the bins so far and those that are left are all bins
abbrev pub invariant-loop-below : goal.invariant-loop-below
invariant-loop-below l =
    let values = (timer_seen l.stats).values in
    record {
      bins : map bin_view l.bins.items ++ bins_from (limit_of l.from) (limits_of (drop l.below-index l.limits)) values ≡ bins (limits_of l.limits) values;
      len : length l.bins.items ≡ l.below-index;
    }
