use Rattle.sd_model_outside.proofs.DeliveryLemmas.{all_counts}
use Rattle.sd_outlet.proofs.ContentLemmas.{all_content, ended_content}
use Rattle.sd_law_run.proofs.deliveries.deliveries_are_lists.Goals as goal

pub returns-clause-lists : goal.returns-clause-lists
returns-clause-lists c deliveries rounds open_list old new content h = all_content deliveries rounds open_list old new content h

pub returns-clause-written : goal.returns-clause-written
returns-clause-written c deliveries lists h = ended_content deliveries lists h

pub returns-clause-used : goal.returns-clause-used
returns-clause-used c deliveries old new h = (all_counts deliveries old new h).used

pub returns-clause-faults : goal.returns-clause-faults
returns-clause-faults c deliveries old new h = (all_counts deliveries old new h).rose

pub returns-clause-steady : goal.returns-clause-steady
returns-clause-steady c deliveries old new h = (all_counts deliveries old new h).steady
