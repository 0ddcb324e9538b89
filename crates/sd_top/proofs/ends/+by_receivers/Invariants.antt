use Rattle.std.proofs.Common.{length}
use Rattle.sd_top.proofs.ends.+by_receivers.Given as goal

abbrev pub decreases-by_receivers : goal.decreases-by_receivers
decreases-by_receivers l = length l.received.now
