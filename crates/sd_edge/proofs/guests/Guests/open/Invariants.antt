use Rattle.std.proofs.Common.{◌≡◌}
use Rattle.sd_edge.specs.Guests.{free_places}
use Rattle.sd_edge.proofs.guests.Guests.open.Given as goal

abbrev pub invariant-loop-place : goal.invariant-loop-place
invariant-loop-place l = l.guests.items ≡ free_places l.place
