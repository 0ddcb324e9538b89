-- What rows keep of their fields.
use Rattle.std.specs.Prelude.{◌≡◌, ◌*◌, ◌^◌, ◌≤◌, List, length, Option, None, vec_capacity}
use Rattle.sd_rows.specs.Heads.{rows_with, tallies_in, padded, AreHashed}
use Rattle.sd_rows.specs.Index.{taken_count, hashes_in, IsIndexed}
use Rattle.sd_rows.specs.Ranking.{IsRanking, IsDivided}
use Rattle.sd_rows.specs.Rows.{Places, no_tally, AreApart}
use Rattle.sd_rows.specs.declared.row.Row.{Row}
use Rattle.sd_rows.specs.declared.rows.Rows.TheInside.{Inside}

-- the rows of the places that were ever in use
abbrev pub rows_in : Inside → List (Option Row)
rows_in r = rows_with r.heads.items r.keys.items

abbrev pub places_of : Inside → Places
places_of r =
    record {
      rows = padded None r.room (rows_in r);
      tallies = padded no_tally r.room (tallies_in r.heads.items);
      used = length r.heads.items;
    }

-- The index has just the rows of the places by their hashes, and the ranking has the places with rows first.
pub record IsRows (r : Inside) : Type 0 where
  pub index : IsIndexed r.index
  pub homes : r.index.homes ≡ 2 * r.room
  pub small : r.room ≤ 2 ^ 30
  pub spots_len : length r.index.spots.items ≡ length r.heads.items
  pub keys_len : length r.keys.items ≡ length r.heads.items
  pub within : length r.heads.items ≤ r.room
  pub hashed : AreHashed r.seed (hashes_in r.index.spots.items) (rows_in r)
  pub apart : AreApart (rows_in r)
  pub live : r.live ≡ taken_count (rows_in r)
  pub ranking : IsRanking r.ranking.order.items r.ranking.rank.items
  pub divided : IsDivided r.ranking.rank.items (rows_in r) r.live
  pub head_room : r.room ≤ vec_capacity r.heads
  pub key_room : r.room ≤ vec_capacity r.keys
  pub spot_room : r.room ≤ vec_capacity r.index.spots
  pub order_room : r.room ≤ vec_capacity r.ranking.order
  pub rank_room : r.room ≤ vec_capacity r.ranking.rank
