-- Limits of the code, as the definitions have them.
use Rattle.std.specs.Prelude.{◌^◌, ◌≤◌, ◌<◌}
use Rattle.sd_model_shard.specs.Shard as model
use Rattle.sd_epoch.specs.declared.limits.Limits.{Limits}

abbrev pub limits_of : Limits → model.Limits
limits_of l = record { rows = l.rows; entries = l.entries; sums_on_arrival = l.sums_on_arrival }

-- limits that a table can be opened for
pub record AreLimits (l : model.Limits) : Type 0 where
  pub some_rows : 0 < l.rows
  pub few_rows : l.rows ≤ 2 ^ 20
  pub some_entries : 0 < l.entries
  pub few_entries : l.entries ≤ 2 ^ 20
