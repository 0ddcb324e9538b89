use Rattle.std.proofs.Common.{◌≡◌, ◌≤◌, ◌++◌, length, drop, map}
use Rattle.std.specs.Prelude.{filter_map}
use Rattle.sd_model_shard.specs.Values.{pct}
use Rattle.sd_plan.specs.Values.{micros}
use Rattle.sd_stats.specs.Seen.{timer_seen}
use Rattle.sd_stats.specs.Timer.{part_of}
use Rattle.sd_record.proofs.timer_parts.put_parts.Given as goal

-- the parts so far and those that are left are all parts
abbrev pub invariant-loop-threshold : goal.invariant-loop-threshold
invariant-loop-threshold l =
    let values = (timer_seen l.stats).values in
    record {
      parts : map part_of l.parts.items ++ filter_map (λ t. pct t values) (micros (drop l.threshold-index l.thresholds)) ≡ filter_map (λ t. pct t values) (micros l.thresholds);
      few : length l.parts.items ≤ l.threshold-index;
    }
