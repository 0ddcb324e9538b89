use Rattle.sd_law_run.proofs.AuditLemmas.{kept, read}
use Rattle.sd_law_run.proofs.audit.served_totals_add_up.Goals as goal

pub returns-clause-kept : goal.returns-clause-kept
returns-clause-kept g c s trace old new = kept s (g.T.Clock.may_say c.args.clock.now) trace old new

pub returns-clause-read : goal.returns-clause-read
returns-clause-read g c s trace old new = read s (g.T.Clock.may_say c.args.clock.now) trace old new
