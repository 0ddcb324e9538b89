use Rattle.std.proofs.Common.{◌≡◌, ◌+◌, ◌*◌, ◌≤◌, ◌++◌, ℕ, All, flat_map, length, map, vec_capacity}
use Rattle.sd_plan.specs.Entries.{node_view}
use Rattle.sd_relay.specs.PostRooms.{HasPlace, IsClear, IsFitted, NoLineWaits, own_in, source_in, wires_in}
use Rattle.sd_relay.proofs.post_rooms.gather.Given as goal

abbrev pub invariant-loop-room : goal.invariant-loop-room
invariant-loop-room g l = record {
  len : length l.posts.items + length l.rooms.items ≡ length l.initial.rooms.items;
  room : length l.posts.items + length l.rooms.items ≤ vec_capacity l.posts;
  rooms : All (HasPlace (map node_view l.nodes)) l.rooms.items;
  fitted : All (IsFitted (map node_view l.nodes)) l.posts.items;
  clear : (most : ℕ) → All (IsClear most) l.initial.rooms.items → All (IsClear most) l.rooms.items × All (NoLineWaits most) l.posts.items;
  packets : l.initial.packets.items ≡ map source_in l.posts.items ++ l.packets.items;
  wires : l.initial.wires.items ≡ flat_map wires_in l.posts.items ++ l.wires.items;
  owns : l.initial.owns.items ≡ map own_in l.posts.items ++ l.owns.items;
  sources : length l.rooms.items ≤ length l.packets.items;
  runs : length l.rooms.items * length l.nodes ≤ length l.wires.items;
  owns_left : length l.rooms.items ≤ length l.owns.items;
  packets_room : vec_capacity l.packets ≡ vec_capacity l.initial.packets;
  wires_room : vec_capacity l.wires ≡ vec_capacity l.initial.wires;
  owns_room : vec_capacity l.owns ≡ vec_capacity l.initial.owns;
}

abbrev pub decreases-loop-room : goal.decreases-loop-room
decreases-loop-room g l = length l.rooms.items
