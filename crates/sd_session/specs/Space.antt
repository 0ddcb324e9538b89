-- The room that sessions work in.
use Rattle.std.specs.Prelude.{ℕ, ◌*◌, ◌≤◌}
use Rattle.sd_model_shard.specs.Shard.{Limits}
use Rattle.sd_talk.specs.Room.{IsLineRoom}
use Rattle.sd_session.specs.declared.space.AdminSpace.{AdminSpace}

-- there is room for the rows of so many shards of these limits, and for a line
pub record IsSpaceFor (limits : Limits) (shards : ℕ) (space : AdminSpace) : Type 0 where
  pub keys : shards * limits.rows ≤ space.replies.keys.room
  pub dump : shards * limits.rows ≤ space.replies.dump.room
  pub line : IsLineRoom space.line
