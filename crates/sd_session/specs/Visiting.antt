-- The visitor of admin sessions: what it needs, and what a visit leaves.
use Rattle.std.specs.Prelude.{◌≡◌, ℕ, List, flat_map}
use Rattle.sd_model_serve.specs.Receiving.{administrator}
use Rattle.sd_shared_desk.specs.Counts.{nothing}
use Rattle.sd_model_record.specs.DeskHistory.{DeskCall}
use Rattle.sd_model_serve.specs.Sessions.{Visit, IsVisitOf, line_calls, Dialogue, lines_in, Exchange}
use Rattle.sd_session.specs.Executed.{Broadcasts}
use Rattle.sd_pool.specs.Pool.{IsSeatOf, limits_of, own_at, shards_of, who_is}
use Rattle.sd_pool.specs.declared.pool.Pool.{Pool}
use Rattle.sd_session.specs.Space.{IsSpaceFor}
use Rattle.sd_session.specs.declared.visiting.AdminVisitor.{AdminVisitor}
use Rattle.sd_desk.specs.Sums.{Amounts}

-- it has the administrator's seat of a pool, and room for the replies
pub record CanVisit (pool : Pool) (visitor : AdminVisitor) : Type 0 where
  pub seat : IsSeatOf pool visitor.seat.now
  pub who : who_is visitor.seat.now ≡ administrator
  pub space : IsSpaceFor (limits_of pool) (shards_of pool) visitor.space.now

-- it works with the same as before
pub record WorksOn (old new : AdminVisitor) : Type 0 where
  pub settings : new.settings.now ≡ old.settings.now
  pub seat : new.seat.ghost_name ≡ old.seat.ghost_name
  pub space : new.space.ghost_name ≡ old.space.ghost_name

-- a session was visited over a pool, and went so, its lines' calls of the desk were made, and nothing was counted for it
pub record HasVisited (says : ℕ → Type 0) (pool : Pool) (old new : AdminVisitor) (v : Visit) (amounts : Amounts) (calls : List DeskCall) : Type 0 where
  pub works : WorksOn old new
  pub none : amounts ≡ nothing
  pub dialogue : Dialogue Exchange
  pub called : calls ≡ flat_map line_calls (lines_in dialogue)
  pub went : IsVisitOf (shards_of pool) old.settings.now says v dialogue
  pub asked : Broadcasts (shards_of pool) (flat_map (λ e. e.asked) (lines_in dialogue)) (own_at old.seat.now) (own_at new.seat.now)
