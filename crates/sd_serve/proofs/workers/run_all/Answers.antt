use Rattle.sd_serve.proofs.ThroughLemmas.{straight}
use Rattle.sd_serve.proofs.workers.run_all.Goals as goal

pub returns-in_default-clause-flushes : goal.returns-in_default-clause-flushes
returns-in_default-clause-flushes g c = λ outlets room has. straight g.K.B.Faulty.seen _ _ _ _ _ _ _ _ _ _ _ c.run_server-ends.ensures.flushes outlets room (rw c.in_default.is at has)

pub returns-clause-flushes : goal.returns-clause-flushes
returns-clause-flushes g c = λ outlets room has. c.run_through_outlets.ensures.flushes outlets room (rw c.in-Some.is at has)
