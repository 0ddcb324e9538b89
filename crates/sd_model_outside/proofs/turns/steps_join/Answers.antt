use Rattle.sd_model_outside.proofs.TurnLemmas.{with_datagrams-append, with_ticks-append, with_sessions-append, with_back-append}
use Rattle.sd_model_outside.proofs.turns.steps_join.Goals as goal

pub returns-clause-datagrams : goal.returns-clause-datagrams
returns-clause-datagrams c = with_datagrams-append

pub returns-clause-ticks : goal.returns-clause-ticks
returns-clause-ticks c = with_ticks-append

pub returns-clause-sessions : goal.returns-clause-sessions
returns-clause-sessions c = with_sessions-append

pub returns-clause-back : goal.returns-clause-back
returns-clause-back c = with_back-append
