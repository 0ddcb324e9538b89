-- What a replay's room is opened for; and room for what shards tell at once.
use Rattle.std.specs.Prelude.{◌≤◌, ◌*◌, ℕ}
use Rattle.sd_model_shard.specs.Shard.{Limits}
use Rattle.sd_record.specs.Rows.{Room}
use Rattle.sd_model_settings.specs.Settings.{Settings}
use Rattle.sd_model_replay.specs.Replay.{Bounds, bounds_of}

-- what the room of a replay depends on
pub record Sizing : Type 0 where
  pub bounds : Bounds
  pub receivers : ℕ

-- that of settings
abbrev pub sizing_of : Settings → Sizing
sizing_of s = record { bounds = bounds_of s; receivers = s.sizes.receivers }

-- room for the rows of so many shards of these limits
abbrev pub HoldsRows : ℕ → Limits → ℕ → Type 0
HoldsRows shards most room = shards * most.rows ≤ room

-- tables of so many shards of these limits have room for their record
pub record HasRoom (shards : ℕ) (most : Limits) (room : Room) : Type 0 where
  pub rows : most.rows * shards ≤ room.rows
  pub entries : most.entries ≤ room.entries
