use Rattle.std.proofs.Common.{◌≡◌, ◌≤◌, map, replicate, vec_len, vec_capacity}
use Rattle.sd_model_shard.specs.Shard.{empty_state}
use Rattle.sd_epoch.specs.Limits.{limits_of}
use Rattle.sd_shard.specs.Policy.{policy_of}
use Rattle.sd_shard.specs.Shard.{state_of}
use Rattle.sd_shards.specs.Standings.{GoBy}
use Rattle.sd_shards.proofs.open.open_shards.Given as goal

abbrev pub invariant-loop-i : goal.invariant-loop-i
invariant-loop-i l = record {
  len : vec_len l.shards ≡ l._i;
  room : l.n ≤ vec_capacity l.shards;
  bounds : GoBy (limits_of l.limits) (policy_of l.policy) l.shards.items;
  states : map state_of l.shards.items ≡ replicate l._i empty_state;
}
