use Rattle.sd_model_proxy.proofs.RouteLemmas.{goes-node, goes-up, goes-nowhere, goes-unowned, goes-by_key}
use Rattle.sd_model_proxy.proofs.routes.lines_go_to_owners.Goals as goal

pub returns-clause-node : goal.returns-clause-node
returns-clause-node c = goes-node

pub returns-clause-up : goal.returns-clause-up
returns-clause-up c = goes-up

pub returns-clause-bad : goal.returns-clause-bad
returns-clause-bad c = goes-nowhere

pub returns-clause-unowned : goal.returns-clause-unowned
returns-clause-unowned c = goes-unowned

pub returns-clause-key : goal.returns-clause-key
returns-clause-key c = goes-by_key
