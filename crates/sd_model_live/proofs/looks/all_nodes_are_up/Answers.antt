use Rattle.sd_model_live.proofs.Bits.{all_of-up, all_of-beyond}
use Rattle.sd_model_live.proofs.looks.all_nodes_are_up.Goals as goal

pub returns-clause-up : goal.returns-clause-up
returns-clause-up c = all_of-up

pub returns-clause-no_more : goal.returns-clause-no_more
returns-clause-no_more c = all_of-beyond
