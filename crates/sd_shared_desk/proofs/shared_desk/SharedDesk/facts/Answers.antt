use Rattle.sd_desk.specs.Facts.{facts_view}
use Rattle.sd_shared_desk.proofs.CallLemmas.{facts_seen, reported_start}
use Rattle.sd_shared_desk.proofs.shared_desk.SharedDesk.facts.Goals as goal

pub returns-clause-start : goal.returns-clause-start
returns-clause-start g c = reported_start c.args.self.now c.args.own.now c.ask.new.own (facts_view c.in-Reported.facts) c.in-Reported.ensures.calls

pub returns-clause-seen : goal.returns-clause-seen
returns-clause-seen g c = facts_seen c.args.self.now c.args.own.now c.ask.new.own (facts_view c.in-Reported.facts) c.in-Reported.ensures.calls
