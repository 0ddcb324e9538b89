use Rattle.std.proofs.Common.{◌≡◌, ◌≤◌, map, take}
use Rattle.sd_model_shard.specs.Values.{distinct}
use Rattle.sd_stats.proofs.members.count_runs.Given as goal

abbrev pub invariant-loop-i : goal.invariant-loop-i
invariant-loop-i l =
    record {
      runs : l.count ≡ distinct (map (λ m. m.items) (take l.i l.members));
      bound : l.count ≤ l.i;
    }
