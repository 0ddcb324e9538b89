use Rattle.sd_serve.proofs.CallerLemmas.{ran_by_callers}
use Rattle.sd_session.proofs.CommandLemmas.{line_commands}
use Rattle.sd_law_run.proofs.served.callers_tell_the_run.Goals as goal

pub returns-clause-joined : goal.returns-clause-joined
returns-clause-joined c = ran_by_callers

pub returns-clause-lines : goal.returns-clause-lines
returns-clause-lines c = line_commands
