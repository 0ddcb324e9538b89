use Rattle.sd_tcp.proofs.SplitLemmas.{lines-grown, lines-ended, rest-grown, rest-ended}
use Rattle.sd_law_run.proofs.streams.lines_come_in_pieces.Goals as goal

pub returns-clause-same : goal.returns-clause-same
returns-clause-same c = lines-grown

pub returns-clause-rest : goal.returns-clause-rest
returns-clause-rest c = rest-grown

pub returns-clause-ended : goal.returns-clause-ended
returns-clause-ended c = lines-ended

pub returns-clause-begun : goal.returns-clause-begun
returns-clause-begun c stream bytes none = rest-ended stream bytes
