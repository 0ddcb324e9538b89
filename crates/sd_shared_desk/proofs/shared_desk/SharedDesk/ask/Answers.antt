use Rattle.sd_shared_desk.proofs.CallLemmas.{calls_so}
use Rattle.sd_shared_desk.proofs.shared_desk.SharedDesk.ask.Goals as goal

pub returns-clause-calls : goal.returns-clause-calls
returns-clause-calls g c =
    let e = c.with_turn.ensures in
    calls_so c.args.self.now c.args.own.now c.with_turn.new.seat c.args.ask c.with_turn.result e.own e.seen e.legal e.all
