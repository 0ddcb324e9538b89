use Rattle.std.proofs.Common.{[], refl, subst, inl, inr}
use Rattle.sd_model_outside.specs.Outside.{Left}
use Rattle.sd_model_replay.specs.Script.{Next, Faulty, CutShort, Begins}
use Rattle.sd_law_run.proofs.Decisions.{decided, decided_at_end}
use Rattle.sd_script.proofs.NextLemmas.{one_next, next_stays}
use Rattle.sd_law_run.proofs.script.one_thing_stands_next.Goals as goal

pub returns-clause-one : goal.returns-clause-one
returns-clause-one c receivers a b bytes left other first second = one_next receivers bytes a b left other first second

pub returns-clause-stays : goal.returns-clause-stays
returns-clause-stays c receivers next bytes more begins = next_stays receivers bytes more next begins

pub returns-clause-undecided : goal.returns-clause-undecided
returns-clause-undecided c receivers next bytes left cut begins =
    let same = one_next receivers bytes next (Faulty CutShort) left (Left []) begins (cut, refl) in
    (same, (subst (λ (n : Next). Begins receivers n bytes left) same begins).1)

pub returns-clause-some : goal.returns-clause-some
returns-clause-some c receivers bytes left end = decided_at_end receivers bytes left end

pub returns-clause-decided : goal.returns-clause-decided
returns-clause-decided c receivers bytes left = elim (decided receivers bytes) [
  | inl cut ↦ inl cut
  | inr one ↦ inr (one.0, one.1 left)
]
