use Rattle.std.proofs.Common.{◌≡◌, [], ◌∷◌, List, length, map}
use Rattle.std.specs.Prelude.{flat_map}
use Rattle.sd_model_shard.specs.Shard.{State, Look, Looked, numbers_of}
use Rattle.sd_model_serve.specs.Receiving.{administrator}
use Rattle.sd_shard.specs.Shard.{numbers_in}
use Rattle.sd_pool.specs.Pool.{IsSeatOf, own_at, shards_of, who_is}
use Rattle.sd_session.proofs.TogetherLemmas.{Asked}
use Rattle.sd_session.proofs.together.look_all.Given as goal

abbrev pub invariant-loop-i : goal.invariant-loop-i
invariant-loop-i g l = record {
  seat : IsSeatOf l.pool l.seat × (who_is l.seat ≡ administrator);
  found : List State;
  asked : Asked (shards_of l.pool) Look (λ s. Looked (numbers_of s)) l.i found (own_at l.initial.seat) (own_at l.seat);
  count : length l.books.items ≡ l.i;
  reported : map numbers_in l.books.items ≡ flat_map (λ s. numbers_of s ∷ []) found;
}
