use Rattle.std.proofs.Common.{length}
use Rattle.sd_opening.proofs.opening.+open_wires.Given as goal

abbrev pub decreases-open_wires : goal.decreases-open_wires
decreases-open_wires g l = length l.peers.now
