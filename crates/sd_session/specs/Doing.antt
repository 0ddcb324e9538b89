-- What a thread does at all shards and at the desk.
use Rattle.std.specs.Prelude.{◌≡◌, ℕ, List, ◌++◌}
use Rattle.sd_shared_desk.specs.Counts.{HasCounted, nothing}
use Rattle.sd_model_record.specs.DeskHistory.{DeskCall}
use Rattle.sd_model_serve.specs.Sessions.{line_calls, Exchange}
use Rattle.sd_session.specs.Executed.{Broadcasts}
use Rattle.sd_pool.specs.Pool.{own_at}
use Rattle.sd_pool.specs.declared.seat.Seat.{Seat}
use Rattle.sd_shared_desk.specs.Shared.{OwnSeat, number_of_seat, part_of}
use Rattle.sd_model_serve.specs.Receiving.{Broadcast}

-- A thread asked this of each of so many shards, and made these calls of the desk, at which it counted nothing. Its seat there keeps its
-- number.
pub record HasDone (shards : ℕ) (broadcasts : List Broadcast) (calls : List DeskCall) (seat seat_now : Seat) (own own_now : OwnSeat) : Type 0 where
  pub asked : Broadcasts shards broadcasts (own_at seat) (own_at seat_now)
  pub called : (part_of own_now).own ≡ (part_of own).own ++ calls
  pub counted : HasCounted nothing (part_of own) (part_of own_now)
  pub number : number_of_seat own_now ≡ number_of_seat own

-- a thread did what a line does
abbrev pub HasExecuted : ℕ → Exchange → (seat seat_now : Seat) → (own own_now : OwnSeat) → Type 0
HasExecuted shards e = HasDone shards e.asked (line_calls e)
