-- The samples of a batch that go to one shard, which a seat submitted.
use Rattle.std.specs.Prelude.{◌≡◌, ◌≢◌, ℕ, List, [], map, All}
use Rattle.sd_model_text.specs.Lines.{Sample}
use Rattle.sd_model_shard.specs.Shard.{Submit}
use Rattle.sd_model_shard.specs.History.{Act, History}
use Rattle.sd_model_serve.specs.Receiving.{events_of}
use Rattle.sd_pool.specs.Adding.{Adds}
use Rattle.sd_batch.specs.declared.counts.Counts.{Counts}
use Rattle.sd_batch.specs.Runs.{CountsRun, run_at}
use Rattle.sd_pool.specs.Pool.{ActsAll, own_at, shards_of, who_is}
use Rattle.sd_pool.specs.declared.pool.Pool.{Pool}
use Rattle.sd_pool.specs.declared.seat.Seat.{Seat}

-- A seat's call submitted these samples to shard i, in order, and so many were taken and dropped. Where there was one, its acts stand
-- next to each other in that shard's history; nothing was left at other shards.
pub record SubmitsRun (pool : Pool) (old new : Seat) (i : ℕ) (samples : List Sample) (counts : Counts) : Type 0 where
  pub made : History
  pub asked : events_of made ≡ map Submit samples
  pub whose : All (λ (a : Act). a.who ≡ who_is old) made
  pub counted : CountsRun counts made
  pub adds : Adds (shards_of pool) (run_at i made) (own_at old) (own_at new)
  pub who : who_is new ≡ who_is old
  pub acts : made ≢ [] → ActsAll pool old new i made
  pub none : made ≡ [] → new ≡ old
