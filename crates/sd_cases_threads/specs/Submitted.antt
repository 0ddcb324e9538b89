-- How many samples a seat has submitted.
use Rattle.std.specs.Prelude.{ℕ}
use Rattle.sd_model_shard.specs.Shard.{Reply, Answered}
use Rattle.sd_model_shard.specs.History.{summed_by}
use Rattle.sd_pool.specs.Pool.{own_at}
use Rattle.sd_pool.specs.declared.seat.Seat.{Seat}

-- 1 for the answer to a sample
abbrev pub answered_in : Reply → ℕ
answered_in (Answered placed) = 1
answered_in reply = 0

-- how many samples a seat has submitted to shard i
abbrev pub submitted : Seat → ℕ → ℕ
submitted seat i = summed_by answered_in (own_at seat i)
