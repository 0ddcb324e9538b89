use Rattle.std.proofs.Common.{rules}
use Rattle.sd_turn.proofs.TableSteps.{joins_in}
use Rattle.sd_turn.proofs.turn_table.TurnTable.join.Goals as goal

pub join_seat-requires : goal.join_seat-requires
join_seat-requires g c =
    let o = c.requires.other in
    (c.requires.keeper.0, o.0, o.1, search rules, joins_in g.B.Behind.protocol _ _ _ _ _ _ c.requires.keeper.1 o.2)
