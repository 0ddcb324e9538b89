use Rattle.sd_port.proofs.PortLemmas.{keeps, works_on}
use Rattle.sd_port.proofs.port_keeper.keep_by.Goals as goal

pub returns-clause-works : goal.returns-clause-works
returns-clause-works g c = works_on c.args.shared.now.settings.now c.args.answerer.now c.serve_talks.new.answerer (g.E.Faulty.seen c.args.door.now) (g.E.Faulty.seen c.serve_talks.new.door) c.serve_talks.ensures.served

pub returns-clause-kept : goal.returns-clause-kept
returns-clause-kept g c = keeps c.args.shared.now.settings.now c.args.answerer.now c.serve_talks.new.answerer
    (g.E.Faulty.seen c.args.door.now) (g.E.Faulty.seen c.serve_talks.new.door) c.serve_talks.ensures.served _ c.serve_talks.ensures.ends
