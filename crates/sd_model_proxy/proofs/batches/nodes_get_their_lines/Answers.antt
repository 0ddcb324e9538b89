use Rattle.sd_model_proxy.proofs.BatchLemmas.{packets-lines}
use Rattle.sd_model_proxy.proofs.batches.nodes_get_their_lines.Goals as goal

pub returns : goal.returns
returns c = packets-lines
