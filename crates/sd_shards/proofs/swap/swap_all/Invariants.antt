use Rattle.std.proofs.Common.{◌≡◌, ◌+◌, ◌<◌, ◌++◌, ℕ, length, map, take, drop}
use Rattle.sd_model_shard.specs.Shard.{after_swap, table_of}
use Rattle.sd_epoch.specs.Table.{table_of as table_seen}
use Rattle.sd_shard.specs.Shard.{state_of}
use Rattle.sd_shards.specs.Standings.{state_in, limits_in, policy_in, GoBy}
use Rattle.sd_shards.proofs.swap.swap_all.Given as goal

-- the shards so far are swapped, and the others are as they were
abbrev pub invariant-loop-shard : goal.invariant-loop-shard
invariant-loop-shard l = record {
  bounds : GoBy (limits_in l.initial.shard-items) (policy_in l.initial.shard-items) l.shard-items;
  swapped_so_far : (i : ℕ) → i < l.shard-index → state_in l.shard-items i ≡ after_swap (policy_in l.initial.shard-items) (state_in l.initial.shard-items i);
  rest : drop l.shard-index l.shard-items ≡ drop l.shard-index l.initial.shard-items;
  left : length l.spares.waiting + l.shard-index ≡ length l.fn.spares.waiting;
  tables : map table_seen l.spares.swapped ≡ map table_seen l.fn.spares.swapped ++ map (λ s. table_of (state_of s)) (take l.shard-index l.initial.shard-items);
  len : length l.spares.swapped ≡ length l.fn.spares.swapped + l.shard-index;
  room : l.spares.room ≡ l.fn.spares.room;
  limits : l.spares.limits ≡ l.fn.spares.limits;
}
