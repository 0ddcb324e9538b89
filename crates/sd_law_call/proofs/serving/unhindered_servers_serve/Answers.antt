use Rattle.sd_law_call.proofs.ServerEnds.{all_spent, answer_cause, blocked, rounds_made, serves, serves_whole, short_spent}
use Rattle.sd_law_call.proofs.serving.unhindered_servers_serve.Goals as goal

pub returns-clause-serves : goal.returns-clause-serves
returns-clause-serves g c words values old new bytes answer asks accepted steady h none = serves words bytes (g.T.Clock.may_say c.args.clock.now) old new asks values accepted steady answer h none

pub returns-clause-whole : goal.returns-clause-whole
returns-clause-whole g c words values old new bytes answer asks accepted steady none h no_stream = serves_whole words bytes (g.T.Clock.may_say c.args.clock.now) old new asks values accepted steady none answer h no_stream

pub returns-clause-blocked : goal.returns-clause-blocked
returns-clause-blocked g c words flaw old new bytes answer asks refused h = blocked words bytes (g.T.Clock.may_say c.args.clock.now) old new asks flaw refused answer h

pub returns-clause-causes : goal.returns-clause-causes
returns-clause-causes g c name old new answer h = answer_cause name (g.T.Clock.may_say c.args.clock.now) old new answer h

pub returns-clause-spent : goal.returns-clause-spent
returns-clause-spent g c name old new served asked = all_spent name (g.T.Clock.may_say c.args.clock.now) old new served asked

pub returns-clause-short : goal.returns-clause-short
returns-clause-short g c name old new served short = short_spent name (g.T.Clock.may_say c.args.clock.now) old new served short

pub returns-clause-rounds : goal.returns-clause-rounds
returns-clause-rounds g c name old new served some = rounds_made name (g.T.Clock.may_say c.args.clock.now) old new served some
