use Rattle.std.proofs.Common.{◌≡◌, map, All, []}
use Rattle.sd_cases_outlets.specs.declared.looker.Looker.{Looker}
use Rattle.sd_cases_outlets.proofs.lookers.lookers_of.Given as goal

abbrev pub invariant-loop-pass : goal.invariant-loop-pass
invariant-loop-pass l =
    (map (λ (k : Looker). k.pass) l.lookers.items ≡ l.yielded)
    × All (λ (k : Looker). k.answers.items ≡ []) l.lookers.items
