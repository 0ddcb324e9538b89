-- What spare tables and those that were swapped out keep of their fields.
use Rattle.std.specs.Prelude.{◌+◌, ◌≤◌, map, reverse, vec_len, vec_capacity, All}
use Rattle.sd_epoch.specs.Limits.{limits_of}
use Rattle.sd_shard.specs.Spares.{Stock}
use Rattle.sd_shard.specs.Tables.{IsSpare, IsWithin}
use Rattle.sd_shard.specs.declared.spares.Spares.TheInside.{Inside}

-- the last spare is the next
abbrev pub stock_of : Inside → Stock
stock_of s =
    record {
      limits = limits_of s.limits;
      room = s.room;
      waiting = reverse (map (λ table. table.places) s.spares.items);
      swapped = s.swapped.items;
    }

-- The tables are of these limits: the spare ones, which may have rows of earlier swaps, and those that were swapped out. There is
-- room for all of them in each list.
pub record AreSpares (s : Inside) : Type 0 where
  pub spares_are : All (IsSpare (limits_of s.limits)) s.spares.items
  pub swapped_are : All (IsWithin (limits_of s.limits)) s.swapped.items
  pub few : vec_len s.spares + vec_len s.swapped ≤ s.room
  pub spare_room : s.room ≤ vec_capacity s.spares
  pub swapped_room : s.room ≤ vec_capacity s.swapped
