use Rattle.sd_shards.proofs.commands.dump_one.Goals as goal

pub returns-clause-rows : goal.returns-clause-rows
returns-clause-rows c = c.dump.ensures.answer
