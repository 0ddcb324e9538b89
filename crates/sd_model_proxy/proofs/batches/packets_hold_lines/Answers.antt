use Rattle.sd_model_proxy.proofs.BatchLemmas.{all-fit, each-alone, keeps-lines}
use Rattle.sd_model_proxy.proofs.batches.packets_hold_lines.Goals as goal

pub returns-clause-lines : goal.returns-clause-lines
returns-clause-lines c = keeps-lines

pub returns-clause-fit : goal.returns-clause-fit
returns-clause-fit c = all-fit

pub returns-clause-alone : goal.returns-clause-alone
returns-clause-alone c = each-alone
