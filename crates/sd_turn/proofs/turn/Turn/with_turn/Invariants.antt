use Rattle.sd_turn.specs.Turn.{opened_with}
use Rattle.sd_turn.proofs.turn.Turn.with_turn.Given as goal

abbrev pub ghosts-give : goal.ghosts-give
ghosts-give g a = record { chosen = g.Q.Change.entries a.before.value a.change.now a.answer.now (g.V.Stepped.fixed (opened_with a.self.now)) a.number }
