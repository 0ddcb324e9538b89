use Rattle.std.proofs.Common.{◌≡◌, drop}
use Rattle.std.specs.Option.{option_or}
use Rattle.sd_edge.specs.Guests.{find_last, is_ready}
use Rattle.sd_edge.proofs.guests.Guests.latest.Given as goal

abbrev pub invariant-loop-guest : goal.invariant-loop-guest
invariant-loop-guest l = find_last is_ready l.guest-items ≡ option_or (find_last is_ready (drop l.guest-index l.guest-items)) l.latest
