use Rattle.std.proofs.Common.{◌≡◌, ◌+◌, ◌≤◌, ◌++◌, length, map, vec_capacity}
use Rattle.sd_relay.specs.Owns.{pass_of, seat_of}
use Rattle.sd_relay.proofs.own_parts.put_apart.Given as goal

abbrev pub invariant-loop-own : goal.invariant-loop-own
invariant-loop-own l = record {
  passes : map pass_of l.owns.items ++ l.passes.items ≡ map pass_of l.initial.owns.items ++ l.initial.passes.items;
  seats : map seat_of l.owns.items ++ l.seats.items ≡ map seat_of l.initial.owns.items ++ l.initial.seats.items;
  passes_left : length l.owns.items + length l.passes.items ≤ vec_capacity l.passes;
  seats_left : length l.owns.items + length l.seats.items ≤ vec_capacity l.seats;
}

abbrev pub decreases-loop-own : goal.decreases-loop-own
decreases-loop-own l = length l.owns.items
