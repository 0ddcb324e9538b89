-- What a replay works on, before the first record.
use Rattle.std.specs.Prelude.{◌≡◌, ◌<◌, ℕ, [], length}
use Rattle.sd_model_shard.specs.Shard.{empty_state}
use Rattle.sd_shards.specs.Shards.{group_bounds, state_at}
use Rattle.sd_replay.specs.Room.{Sizing, HoldsRows, HasRoom}
use Rattle.sd_replay.specs.declared.room.ReplayRoom.TheInside.{Inside}

-- what it was opened for
abbrev pub sizing_in : Inside → Sizing
sizing_in room = record { bounds = group_bounds room.shards; receivers = room.reader.receivers }

-- nothing was done yet
pub record IsFresh (room : Inside) : Type 0 where
  pub some : 0 < length room.shards.states
  pub states : (i : ℕ) → state_at room.shards i ≡ empty_state
  pub scratch : HasRoom (length room.shards.states) room.shards.limits room.scratch.room
  pub keys : HoldsRows (length room.shards.states) room.shards.limits room.keys.room
  pub dump : HoldsRows (length room.shards.states) room.shards.limits room.dump.room
  pub pending : room.reader.pending ≡ []
  pub start : room.reader.at ≡ 0
