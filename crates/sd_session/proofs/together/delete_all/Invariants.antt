use Rattle.std.proofs.Common.{◌≡◌, ◌*◌, ◌≤◌, [], List, length}
use Rattle.std.specs.Prelude.{flat_map}
use Rattle.sd_model_shard.specs.Shard.{State, Delete, deletion_of}
use Rattle.sd_model_serve.specs.Receiving.{administrator}
use Rattle.sd_model_record.specs.Replies.{keys_in}
use Rattle.sd_key.specs.Kind.{kind_of}
use Rattle.sd_shard.specs.Shard.{Appends}
use Rattle.sd_pool.specs.Pool.{IsSeatOf, limits_of, own_at, shards_of, who_is}
use Rattle.sd_session.proofs.TogetherLemmas.{Asked}
use Rattle.sd_session.proofs.together.delete_all.Given as goal

abbrev pub invariant-loop-i : goal.invariant-loop-i
invariant-loop-i g l = record {
  seat : IsSeatOf l.pool l.seat × (who_is l.seat ≡ administrator);
  found : List State;
  asked : Asked (shards_of l.pool) (Delete (kind_of l.kind) l.name) (deletion_of (kind_of l.kind) l.name) l.i found (own_at l.initial.seat) (own_at l.seat);
  keys : Appends (flat_map (λ s. keys_in (deletion_of (kind_of l.kind) l.name s)) found) [] l.keys.items;
  few : length l.keys.items ≤ l.i * (limits_of l.pool).rows;
  room : l.keys.room ≡ l.fn.keys.room;
}
