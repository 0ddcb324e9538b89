use Rattle.std.proofs.Common.{◌≡◌, ◌+◌, ◌≤◌, ◌++◌, length, map, vec_capacity}
use Rattle.sd_relay.specs.Owns.{pass_of, seat_of}
use Rattle.sd_relay.proofs.own_parts.paired.Given as goal

abbrev pub invariant-loop : goal.invariant-loop
invariant-loop l = record {
  len : length l.made.items ≡ l.counter;
  room : l.count ≤ vec_capacity l.made;
  passes : l.fn.passes.receivers.items ≡ map pass_of l.made.items ++ l.receivers.items;
  seats : l.fn.seats.items ≡ map seat_of l.made.items ++ l.seats.items;
  passes_left : length l.receivers.items + l.counter ≡ length l.fn.passes.receivers.items;
  seats_left : length l.seats.items + l.counter ≡ length l.fn.seats.items;
  pass_room : length l.fn.passes.receivers.items ≤ vec_capacity l.receivers;
  seat_room : length l.fn.seats.items ≤ vec_capacity l.seats;
}
