use Rattle.std.proofs.Common.{◌≡◌, ◌≤◌, All, length, map, vec_capacity}
use Rattle.sd_plan.specs.Entries.{node_view}
use Rattle.sd_relay.specs.PostRooms.{HasPlace, IsClear}
use Rattle.sd_relay.proofs.post_rooms.open_rooms.Given as goal

abbrev pub invariant-loop : goal.invariant-loop
invariant-loop g l = record {
  len : length l.rooms.items ≡ l.counter;
  room : l.count ≤ vec_capacity l.rooms;
  each : All (HasPlace (map node_view l.nodes)) l.rooms.items;
  clear : All (IsClear l.batch) l.rooms.items;
}
