use Rattle.std.proofs.Common.{length}
use Rattle.sd_receive.proofs.telling.tell_bad.Given as goal

abbrev pub decreases-loop-line : goal.decreases-loop-line
decreases-loop-line g l = length l.lines
