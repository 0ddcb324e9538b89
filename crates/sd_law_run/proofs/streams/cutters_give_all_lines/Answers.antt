use Rattle.sd_tcp.proofs.CutLemmas.{HasCut-none, CutsOn-none, CutsOn-next, all_given}
use Rattle.sd_law_run.proofs.streams.cutters_give_all_lines.Goals as goal

pub returns-clause-none : goal.returns-clause-none
returns-clause-none c = HasCut-none

pub returns-clause-all : goal.returns-clause-all
returns-clause-all c = all_given

pub returns-clause-stays : goal.returns-clause-stays
returns-clause-stays c = CutsOn-none

pub returns-clause-pieces : goal.returns-clause-pieces
returns-clause-pieces c = CutsOn-next
