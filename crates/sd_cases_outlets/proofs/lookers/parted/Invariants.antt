use Rattle.std.proofs.Common.{◌≡◌, map}
use Rattle.sd_cases_outlets.specs.declared.looker.Looker.{Looker}
use Rattle.sd_cases_outlets.proofs.lookers.parted.Given as goal

abbrev pub invariant-loop-looker : goal.invariant-loop-looker
invariant-loop-looker l =
    (l.passes.items ≡ map (λ (k : Looker). k.pass) l.yielded)
    × (l.answers.items ≡ map (λ (k : Looker). k.answers) l.yielded)
