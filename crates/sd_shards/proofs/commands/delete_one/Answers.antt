use Rattle.sd_shards.proofs.commands.delete_one.Goals as goal

pub returns-clause-state : goal.returns-clause-state
returns-clause-state c = c.delete.ensures.state

pub returns-clause-keys : goal.returns-clause-keys
returns-clause-keys c = c.delete.ensures.answer.0
