use Rattle.std.proofs.Common.{length}
use Rattle.sd_receive.proofs.telling.tell_pieces.Given as goal

abbrev pub decreases-loop-piece : goal.decreases-loop-piece
decreases-loop-piece g l = length l.pieces
