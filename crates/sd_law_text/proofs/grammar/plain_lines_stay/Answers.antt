-- By the one piece of the line, and by its fields.
use Rattle.sd_law_text.proofs.BeforeLemmas.{reading_stays}
use Rattle.sd_law_text.proofs.PieceLemmas.{one_piece}
use Rattle.sd_law_text.proofs.grammar.plain_lines_stay.Goals as goal

pub returns-clause-piece : goal.returns-clause-piece
returns-clause-piece c line alone = one_piece line alone

pub returns-clause-reading : goal.returns-clause-reading
returns-clause-reading c line alone value rate = reading_stays line alone value rate
