use Rattle.sd_model_outside.proofs.OutsideLemmas.{Reads-append}
use Rattle.sd_model_outside.proofs.outside.reads_join.Goals as goal

pub returns : goal.returns
returns c = Reads-append
