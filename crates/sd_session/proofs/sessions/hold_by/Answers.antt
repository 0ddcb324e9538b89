use Rattle.sd_session.proofs.CommandLemmas.{talked_commands}
use Rattle.sd_pool.specs.Pool.{shards_of}
use Rattle.sd_model_serve.specs.Sessions.{lines_in}
use Rattle.sd_session.proofs.DoneLemmas.{answered_all}
use Rattle.sd_session.proofs.sessions.hold_by.Goals as goal

pub returns-clause-works : goal.returns-clause-works
returns-clause-works g c =
    let held = c.session.ensures.held in
    (answered_all (shards_of c.args.shared.now.workers.now.pool.now) (lines_in held.dialogue) c.args.answerer.now c.session.new.answerer held.did).works

pub returns-clause-number : goal.returns-clause-number
returns-clause-number g c =
    let held = c.session.ensures.held in
    (answered_all (shards_of c.args.shared.now.workers.now.pool.now) (lines_in held.dialogue) c.args.answerer.now c.session.new.answerer held.did).done.number

pub returns-clause-counted : goal.returns-clause-counted
returns-clause-counted g c =
    let held = c.session.ensures.held in
    (answered_all (shards_of c.args.shared.now.workers.now.pool.now) (lines_in held.dialogue) c.args.answerer.now c.session.new.answerer held.did).done.counted

pub returns-clause-held : goal.returns-clause-held
returns-clause-held g c =
    let held = c.session.ensures.held in
    let all = answered_all (shards_of c.args.shared.now.workers.now.pool.now) (lines_in held.dialogue) c.args.answerer.now c.session.new.answerer held.did in
    record {
      dialogue = held.dialogue;
      ended_is = held.ended_is;
      talked = held.talked;
      asked = all.done.asked;
      called = all.done.called;
      commands = talked_commands _ _ _ held.dialogue _ _ _ _ held.talked;
    }
