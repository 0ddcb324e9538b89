use Rattle.std.proofs.Common.{ap, refl}
use Rattle.sd_model_outside.specs.Outside.{Object}
use Rattle.sd_receive.proofs.ReadLemmas.{takes_none, takes_one}
use Rattle.sd_receive.proofs.turn.take_turn.Goals as goal

pub returns-in-Some-clause-takes : goal.returns-in-Some-clause-takes
returns-in-Some-clause-takes g c =
    rw (c.read_nothing.ensures.tally, c.read_nothing.ensures.taken) (takes_none _ _ _ _ _ _ _ refl c.rounds_reached.ensures.counted c.rounds_reached.ensures.called)

pub returns-in-Packet-clause-takes : goal.returns-in-Packet-clause-takes
returns-in-Packet-clause-takes g c =
    rw c.take_datagram.ensures.goes_on (takes_one _ _ _ _ _ _ _ _ _ _ _ _ (ap (λ (o : Object). o.content) c.in-Packet.ensures.1) c.rounds_reached.ensures.counted c.rounds_reached.ensures.called c.take_datagram.ensures.takes)

pub returns-in-End-clause-takes : goal.returns-in-End-clause-takes
returns-in-End-clause-takes g c =
    rw (c.read_nothing-in-End.ensures.tally, c.read_nothing-in-End.ensures.taken)
    (takes_none _ _ _ _ _ _ _ (ap (λ (o : Object). o.content) c.in-End.ensures.0) c.rounds_reached.ensures.counted c.rounds_reached.ensures.called)

pub returns-in-Idle-clause-takes : goal.returns-in-Idle-clause-takes
returns-in-Idle-clause-takes g c =
    rw (c.read_nothing-in-Idle.ensures.tally, c.read_nothing-in-Idle.ensures.taken)
    (takes_none _ _ _ _ _ _ _ (ap (λ (o : Object). o.content) c.in-Idle.ensures) c.rounds_reached.ensures.counted c.rounds_reached.ensures.called)

pub returns-in-Failed-clause-takes : goal.returns-in-Failed-clause-takes
returns-in-Failed-clause-takes g c =
    rw (c.read_nothing-in-Failed.ensures.tally, c.read_nothing-in-Failed.ensures.taken)
    (takes_none _ _ _ _ _ _ _ (ap (λ (o : Object). o.content) c.in-Failed.ensures.same) c.rounds_reached.ensures.counted c.rounds_reached.ensures.called)
