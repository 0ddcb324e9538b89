-- What a table keeps of its fields.
use Rattle.std.specs.Prelude.{◌≡◌, ℕ, ◌+◌, ◌≤◌, length, vec_len, vec_capacity}
use Rattle.sd_model_shard.specs.Rows.{Summary, samples_in}
use Rattle.sd_epoch.specs.Limits.{limits_of, AreLimits}
use Rattle.sd_epoch.specs.Members.{AreMembers, member_places}
use Rattle.sd_epoch.specs.Order.{IsRanked}
use Rattle.sd_epoch.specs.Places.{reported_in, reported_live, AllLive, AreRows, AreSince}
use Rattle.sd_epoch.specs.Since.{since_at}
use Rattle.sd_epoch.specs.Table.{Listing, most_held}
use Rattle.sd_epoch.specs.Values.{AreValues, value_places}
use Rattle.sd_epoch.specs.declared.table.Table.TheInside.{Inside}

-- what came to the row of a place
abbrev pub since_in : Inside → ℕ → Summary
since_in t = since_at t.rows.tallies t.values.items.items t.members.items.items

abbrev pub listing_of : Inside → Listing
listing_of t =
    record {
      limits = limits_of t.limits;
      places = t.rows.rows;
      listed = reported_in t.rows.rows (since_in t) t.order.places.items;
      held = t.held;
      entries = length t.values.items.items + length t.members.items.items;
    }

-- Each value and each member names a place that has a row. What came to a row is told by the tally of its place and by the values and
-- members that name it, and all rows have so many samples together.
pub record IsTable (t : Inside) : Type 0 where
  pub limits : AreLimits (limits_of t.limits)
  pub rows : AreRows t.rows.rows t.order.places.items
  pub ranked : IsRanked t.order.places.items t.order.rank.items
  pub ranks : length t.order.rank.items ≡ t.limits.rows
  pub since : AreSince t.rows.rows (since_in t)
  pub held : t.held ≡ samples_in (reported_live t.rows.rows (since_in t) t.order.places.items)
  pub few_held : t.held ≤ most_held
  pub values : AreValues t.values
  pub owned_values : AllLive t.rows.rows (value_places t.values.items.items)
  pub members : AreMembers t.members
  pub owned_members : AllLive t.rows.rows (member_places t.members.items.items)
  pub places : length t.rows.rows ≡ t.limits.rows
  pub tally_places : length t.rows.tallies ≡ t.limits.rows
  pub value_places : length t.values.chain.last.items ≡ t.limits.rows
  pub member_places : length t.members.chain.last.items ≡ t.limits.rows
  pub order : vec_len t.order.places ≤ t.limits.rows
  pub order_room : t.limits.rows ≤ vec_capacity t.order.places
  pub entries : length t.values.items.items + length t.members.items.items ≤ t.limits.entries
  pub value_room : t.limits.entries ≤ vec_capacity t.values.items
  pub member_room : t.limits.entries ≤ vec_capacity t.members.items
