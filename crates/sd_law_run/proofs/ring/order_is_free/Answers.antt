use Rattle.sd_law_run.proofs.NodeLemmas.{owning-same}
use Rattle.sd_law_run.proofs.ring.order_is_free.Goals as goal

pub returns : goal.returns
returns c = owning-same
