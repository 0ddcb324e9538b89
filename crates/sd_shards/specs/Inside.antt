-- What the shards of a server keep of their fields.
use Rattle.std.specs.Prelude.{◌≡◌, ◌+◌, ◌≤◌, length, map, vec_len}
use Rattle.sd_law_shards.specs.Shards.{AtHome}
use Rattle.sd_epoch.specs.Table.{table_of}
use Rattle.sd_batch.specs.Filing.{IsOpenFor}
use Rattle.sd_record.specs.Rows.{AreDisjoint}
use Rattle.sd_shard.specs.Shard.{state_of}
use Rattle.sd_shards.specs.Shards.{Group}
use Rattle.sd_shards.specs.Standings.{state_in, limits_in, policy_in, GoTogether}
use Rattle.sd_shards.specs.declared.shards.Shards.TheInside.{Inside}

abbrev pub group_of : Inside → Group
group_of s =
    record {
      limits = limits_in s.shards.items;
      policy = policy_in s.shards.items;
      states = map state_of s.shards.items;
      swapped = map table_of s.spares.swapped;
    }

-- The shards go by one pair of limits and policy, and each has the rows of its own keys alone. There is a table for each of
-- these limits, either a spare one, which may have rows of earlier swaps, or one that was swapped out. No sample waits.
pub record AreShards (s : Inside) : Type 0 where
  pub some : 1 ≤ vec_len s.shards
  pub few : vec_len s.shards ≤ 16
  pub bounds : GoTogether s.shards.items
  pub home : AtHome (length s.shards.items) (state_in s.shards.items)
  pub limits : s.spares.limits ≡ limits_in s.shards.items
  pub disjoint : AreDisjoint s.spares.swapped
  pub tables : length s.spares.waiting + length s.spares.swapped ≡ vec_len s.shards
  pub room : s.spares.room ≡ vec_len s.shards
  pub batch : IsOpenFor (length s.shards.items) s.batch
