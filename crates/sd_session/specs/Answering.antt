-- The answerer of admin sessions: what it needs, and what it does.
use Rattle.std.specs.Prelude.{◌≡◌, ℕ, ◌*◌, ◌≤◌}
use Rattle.sd_model_serve.specs.Receiving.{administrator}
use Rattle.sd_model_serve.specs.Sessions.{Exchange}
use Rattle.sd_pool.specs.Pool.{IsSeatOf, limits_of, shards_of, who_is}
use Rattle.sd_pool.specs.declared.pool.Pool.{Pool}
use Rattle.sd_shared_desk.specs.Shared as desk
use Rattle.sd_shared_desk.specs.declared.shared_desk.SharedDesk.{SharedDesk}
use Rattle.sd_session.specs.Doing.{HasExecuted}
use Rattle.sd_session.specs.declared.answerer.AdminAnswerer.{AdminAnswerer}

-- it has the administrator's seat of a pool, a seat at a desk, and room for the replies
pub record CanAnswer (pool : Pool) (shared : SharedDesk) (answerer : AdminAnswerer) : Type 0 where
  pub seat : IsSeatOf pool answerer.seat.now
  pub who : who_is answerer.seat.now ≡ administrator
  pub own : desk.IsSeatOf shared answerer.own.now
  pub keys : shards_of pool * (limits_of pool).rows ≤ answerer.replies.now.keys.room
  pub dump : shards_of pool * (limits_of pool).rows ≤ answerer.replies.now.dump.room

-- it answers with the same as before
pub record AnswersWith (old new : AdminAnswerer) : Type 0 where
  pub seat : new.seat.ghost_name ≡ old.seat.ghost_name
  pub own : new.own.ghost_name ≡ old.own.ghost_name
  pub replies : new.replies.ghost_name ≡ old.replies.ghost_name

-- it executed a line, by the same seats as before
pub record HasAnswered (shards : ℕ) (e : Exchange) (old new : AdminAnswerer) : Type 0 where
  pub works : AnswersWith old new
  pub executed : HasExecuted shards e old.seat.now new.seat.now old.own.now new.own.now
