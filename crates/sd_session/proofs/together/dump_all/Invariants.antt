use Rattle.std.proofs.Common.{◌≡◌, ◌*◌, ◌≤◌, [], List, length}
use Rattle.std.specs.Prelude.{flat_map}
use Rattle.sd_model_shard.specs.Rows.{dump_of}
use Rattle.sd_model_shard.specs.Shard.{State, Dump, Dumped}
use Rattle.sd_model_serve.specs.Receiving.{administrator}
use Rattle.sd_key.specs.Kind.{kind_of}
use Rattle.sd_shard.specs.Dump.{rows_of}
use Rattle.sd_shard.specs.Shard.{Appends}
use Rattle.sd_pool.specs.Pool.{IsSeatOf, limits_of, own_at, shards_of, who_is}
use Rattle.sd_session.proofs.TogetherLemmas.{Asked}
use Rattle.sd_session.proofs.together.dump_all.Given as goal

abbrev pub invariant-loop-i : goal.invariant-loop-i
invariant-loop-i g l = record {
  seat : IsSeatOf l.pool l.seat × (who_is l.seat ≡ administrator);
  found : List State;
  asked : Asked (shards_of l.pool) (Dump (kind_of l.kind)) (λ s. Dumped (dump_of (kind_of l.kind) s.live)) l.i found (own_at l.initial.seat) (own_at l.seat);
  rows : Appends (flat_map (λ s. dump_of (kind_of l.kind) s.live) found) [] (rows_of l.dump);
  few : length l.dump.items ≤ l.i * (limits_of l.pool).rows;
  room : l.dump.room ≡ l.fn.dump.room;
}
