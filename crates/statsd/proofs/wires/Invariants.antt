use Rattle.std.proofs.Common.{◌≡◌, length}
use Rattle.statsd.proofs.wires.Given as goal

abbrev pub invariant-loop : goal.invariant-loop
invariant-loop g l = length l.wires.items ≡ l.counter
