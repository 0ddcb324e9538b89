-- What a contract sees of the tables that shards are swapped for.
use Rattle.std.specs.Prelude.{ℕ, List, Option}
use Rattle.sd_model_shard.specs.Shard.{Limits}
use Rattle.sd_rows.specs.declared.row.Row.{Row}
use Rattle.sd_epoch.specs.Table.{Listing}

-- the limits of each table, for how many tables there is room, the places of the spare ones, of which the first is the next,
-- and those that were swapped out since they were last reclaimed, in order
pub record Stock : Type 0 where
  pub limits : Limits
  pub room : ℕ
  pub waiting : List (List (Option Row))
  pub swapped : List Listing
