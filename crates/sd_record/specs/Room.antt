-- The room that is taken for the rows of several shards.
use Rattle.std.specs.Prelude.{ℕ, ◌*◌}
use Rattle.sd_model_shard.specs.Shard.{Limits}
use Rattle.sd_record.specs.Rows.{Room}

-- room for the rows of so many shards with these limits, and for the entries of one
abbrev pub room_for : Limits → ℕ → Room
room_for limits shards = record { rows = limits.rows * shards; entries = limits.entries }
