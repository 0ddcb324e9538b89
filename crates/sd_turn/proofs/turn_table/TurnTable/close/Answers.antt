use Rattle.sd_turn.proofs.TableSteps.{closes}
use Rattle.sd_turn.proofs.turn_table.TurnTable.close.Goals as goal

pub returns : goal.returns
returns g c = closes g.B.Behind.protocol _ _ g.B.Behind.laws _ _ _ _ c.close_with-closed.ensures.values.2 c.requires.keeper.1 c.requires.all _ c.take-value.ensures.value
