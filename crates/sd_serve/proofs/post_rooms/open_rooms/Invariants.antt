use Rattle.std.proofs.Common.{◌≡◌, ◌≤◌, All, length, vec_capacity}
use Rattle.sd_serve.specs.PostRooms.{HasBatch, HasPlace}
use Rattle.sd_serve.proofs.post_rooms.open_rooms.Given as goal

abbrev pub invariant-loop : goal.invariant-loop
invariant-loop g l = record {
  len : length l.rooms.items ≡ l.counter;
  room : l.count ≤ vec_capacity l.rooms;
  each : All (HasPlace l.run) l.rooms.items;
  batches : All (HasBatch l.shards) l.rooms.items;
}
