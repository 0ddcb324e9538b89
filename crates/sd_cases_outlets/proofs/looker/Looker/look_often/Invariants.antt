use Rattle.sd_live.specs.Live.{seen, IsPassOf}
use Rattle.sd_live.specs.Looks.{HaveAnswered}
use Rattle.sd_cases_outlets.proofs.looker.Looker.look_often.Given as goal

abbrev pub invariant-loop : goal.invariant-loop
invariant-loop g l =
    IsPassOf l.cell l.self.pass
    × HaveAnswered (seen l.fn.self.pass) (seen l.self.pass) l.self.answers.items
