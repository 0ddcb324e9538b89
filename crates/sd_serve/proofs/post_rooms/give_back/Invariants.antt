use Rattle.std.proofs.Common.{◌≡◌, ◌+◌, ◌≤◌, ◌++◌, flat_map, length, map, vec_capacity}
use Rattle.sd_serve.specs.PostRooms.{own_in, seat_in, source_in, wires_in}
use Rattle.sd_serve.proofs.post_rooms.give_back.Given as goal

abbrev pub invariant-loop-post : goal.invariant-loop-post
invariant-loop-post g l = record {
  packets : map source_in l.posts.items ++ l.packets.items ≡ map source_in l.initial.posts.items ++ l.initial.packets.items;
  wires : flat_map wires_in l.posts.items ++ l.wires.items ≡ flat_map wires_in l.initial.posts.items ++ l.initial.wires.items;
  seats : map seat_in l.posts.items ++ l.seats.items ≡ map seat_in l.initial.posts.items ++ l.initial.seats.items;
  owns : map own_in l.posts.items ++ l.owns.items ≡ map own_in l.initial.posts.items ++ l.initial.owns.items;
  sources_left : length l.posts.items + length l.packets.items ≤ vec_capacity l.packets;
  wires_left : length (flat_map wires_in l.posts.items) + length l.wires.items ≤ vec_capacity l.wires;
  seats_left : length l.posts.items + length l.seats.items ≤ vec_capacity l.seats;
  owns_left : length l.posts.items + length l.owns.items ≤ vec_capacity l.owns;
  packets_room : vec_capacity l.packets ≡ vec_capacity l.initial.packets;
  wires_room : vec_capacity l.wires ≡ vec_capacity l.initial.wires;
  seats_room : vec_capacity l.seats ≡ vec_capacity l.initial.seats;
  owns_room : vec_capacity l.owns ≡ vec_capacity l.initial.owns;
}

abbrev pub decreases-loop-post : goal.decreases-loop-post
decreases-loop-post g l = length l.posts.items
