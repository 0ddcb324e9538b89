-- Tables that go to shards, and tables that come from them.
use Rattle.std.specs.Prelude.{◌≡◌, ◌≤◌, length}
use Rattle.sd_model_shard.specs.Shard.{Limits}
use Rattle.sd_epoch.specs.Table.{Listing}

-- a table of these limits, without samples
pub record IsSpare (most : Limits) (table : Listing) : Type 0 where
  pub limits : table.limits ≡ most
  pub no_samples : table.held ≡ 0
  pub no_entries : table.entries ≡ 0

-- a table of these limits, and within them
pub record IsWithin (most : Limits) (table : Listing) : Type 0 where
  pub limits : table.limits ≡ most
  pub rows : length table.listed ≤ most.rows
  pub entries : table.entries ≤ most.entries
