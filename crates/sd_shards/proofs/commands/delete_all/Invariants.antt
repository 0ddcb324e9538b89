use Rattle.std.proofs.Common.{◌≡◌, ◌+◌, ◌*◌, ◌<◌, ◌≤◌, ℕ, length, take, drop}
use Rattle.std.specs.Prelude.{flat_map}
use Rattle.sd_model_shard.specs.Shard.{after_delete, deletion_of}
use Rattle.sd_model_record.specs.Replies.{keys_in}
use Rattle.sd_key.specs.Kind.{kind_of}
use Rattle.sd_shard.specs.Shard.{state_of, Appends}
use Rattle.sd_shards.specs.Standings.{state_in, limits_in, policy_in, GoBy}
use Rattle.sd_shards.proofs.commands.delete_all.Given as goal

-- the shards so far are without the rows, and the others are as they were
abbrev pub invariant-loop-shard : goal.invariant-loop-shard
invariant-loop-shard l = record {
  bounds : GoBy (limits_in l.initial.shard-items) (policy_in l.initial.shard-items) l.shard-items;
  deleted_so_far : (i : ℕ) → i < l.shard-index → state_in l.shard-items i ≡ after_delete (kind_of l.kind) l.name (state_in l.initial.shard-items i);
  rest : drop l.shard-index l.shard-items ≡ drop l.shard-index l.initial.shard-items;
  keys : Appends (flat_map (λ s. keys_in (deletion_of (kind_of l.kind) l.name (state_of s))) (take l.shard-index l.initial.shard-items)) l.fn.keys.items l.keys.items;
  few : length l.keys.items ≤ length l.fn.keys.items + l.shard-index * (limits_in l.initial.shard-items).rows;
  room : l.keys.room ≡ l.fn.keys.room;
}
