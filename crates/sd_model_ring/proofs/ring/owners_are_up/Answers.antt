use Rattle.sd_model_ring.proofs.Owners.{owner-node, owner-up, owner-none, none-owner}
use Rattle.sd_model_ring.proofs.ring.owners_are_up.Goals as goal

pub returns-clause-node : goal.returns-clause-node
returns-clause-node c = owner-node

pub returns-clause-up : goal.returns-clause-up
returns-clause-up c = owner-up

pub returns-clause-none : goal.returns-clause-none
returns-clause-none c key nodes up = (owner-none key nodes up, none-owner key nodes up)
