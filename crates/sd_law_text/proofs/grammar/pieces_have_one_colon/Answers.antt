-- By the lines of the datagram.
use Rattle.sd_law_text.proofs.PieceLemmas.{are_pieces}
use Rattle.sd_law_text.proofs.grammar.pieces_have_one_colon.Goals as goal

pub returns : goal.returns
returns c datagram = are_pieces datagram
