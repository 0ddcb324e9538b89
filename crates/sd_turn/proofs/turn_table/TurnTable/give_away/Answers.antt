use Rattle.std.proofs.Common.{rules, ap, ◌∙◌}
use Rattle.sd_turn.proofs.TableSteps.{gives_away, kept_back-giver}
use Rattle.sd_turn.proofs.turn_table.TurnTable.give_away.Goals as goal

pub split_seat-requires : goal.split_seat-requires
split_seat-requires g c =
    let s = c.requires.spare in
    (c.requires.seat, search rules, gives_away g.B.Behind.protocol _ _ g.B.Behind.laws _ c.args.last c.args.number _ (ap (λ m. m.0) s.1) s.0)

pub returns-clause-seat : goal.returns-clause-seat
returns-clause-seat g c =
    let s = c.requires.spare in
    let t = c.split_seat.ensures in
    (t.0, t.2 ∙ (λ i. (kept_back-giver _ c.args.last c.args.number _ (ap (λ m. m.0) s.1) s.0 i, (ap (λ m. m.1) s.1) i)))
