-- What is left of the places, values and members of a table once rows were taken out.
use Rattle.std.specs.Prelude.{◌≡◌, ◌≤◌, List, length, filter, is_some, Option, vec_len, vec_capacity}
use Rattle.sd_rows.specs.Rows.{row_at}
use Rattle.sd_rows.specs.declared.row.Row.{Row}
use Rattle.sd_epoch.specs.Members.{AreMembers, placed_members}
use Rattle.sd_epoch.specs.Order.{IsRanked}
use Rattle.sd_epoch.specs.Values.{AreValues, placed_values}
use Rattle.sd_epoch.specs.declared.members.Members.{Members}
use Rattle.sd_epoch.specs.declared.order.Order.{Order}
use Rattle.sd_epoch.specs.declared.values.Values.{Values}

-- The places, values and members that have no row went, and those that are left are ranked and chained. Their room is as it was.
pub record IsClosedUp (rows : List (Option Row)) (old_order new_order : Order) (old_values new_values : Values) (old_members new_members : Members) : Type 0 where
  pub order : new_order.places.items ≡ filter (λ place. is_some (row_at rows place)) old_order.places.items
  pub ranked : IsRanked new_order.places.items new_order.rank.items
  pub ranks : length new_order.rank.items ≡ length old_order.rank.items
  pub order_few : vec_len new_order.places ≤ vec_len old_order.places
  pub order_capacity : vec_capacity new_order.places ≡ vec_capacity old_order.places
  pub value_items : placed_values new_values.items.items ≡ placed_values (filter (λ v. is_some (row_at rows v.place)) old_values.items.items)
  pub values : AreValues new_values
  pub value_places : length new_values.chain.last.items ≡ length old_values.chain.last.items
  pub value_capacity : vec_capacity new_values.items ≡ vec_capacity old_values.items
  pub member_items : placed_members new_members.items.items ≡ placed_members (filter (λ m. is_some (row_at rows m.place)) old_members.items.items)
  pub members : AreMembers new_members
  pub member_places : length new_members.chain.last.items ≡ length old_members.chain.last.items
  pub member_capacity : vec_capacity new_members.items ≡ vec_capacity old_members.items
