use Rattle.std.proofs.Common.{◌≡◌, ◌*◌, ◌^◌, ◌≤◌, ◌-ℤ◌, sum_by, take}
use Rattle.sd_model_shard.specs.Values.{square}
use Rattle.sd_stats.proofs.sums.squared_distances.Given as goal

abbrev pub invariant-loop-value : goal.invariant-loop-value
invariant-loop-value l =
    record {
      value : l.sum ≡ sum_by (λ v. square (v.0 -ℤ l.from.0)) (take l.value-index l.values);
      bound : l.sum ≤ l.value-index * 10 ^ 32;
    }
