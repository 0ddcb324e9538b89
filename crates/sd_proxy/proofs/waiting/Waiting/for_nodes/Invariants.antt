use Rattle.std.proofs.Common.{◌≡◌, ◌≤◌, All, [], length, vec_capacity}
use Rattle.sd_proxy.specs.Waiting.{Holds}
use Rattle.sd_proxy.proofs.waiting.Waiting.for_nodes.Given as goal

abbrev pub invariant-loop : goal.invariant-loop
invariant-loop l = record {
  count : length l.waiting.items ≡ l.counter;
  each : All (Holds l.most []) l.waiting.items;
  room : l.nodes ≤ vec_capacity l.waiting;
}
