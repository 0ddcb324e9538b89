use Rattle.sd_turn.specs.Turn.{opened_with}
use Rattle.sd_turn.proofs.Steps.{gives_at}
use Rattle.sd_turn.proofs.turn.Turn.give.Goals as goal

pub give-requires-clause-given : goal.give-requires-clause-given
give-requires-clause-given g c =
    let m = g.V.Stepped in
    let f = m.fixed (opened_with c.args.self.now) in
    gives_at m.fixed m.stands m.legal m.who _ _ _ _ c.args.number _ _ _ c.requires.held c.requires.chosen
    (g.met.Q.Change.entries_name c.args.before.value c.args.change.now c.args.answer.now f c.args.number) c.requires.seat.1 g.V.Stepped.stands_legal
