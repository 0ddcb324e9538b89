use Rattle.std.proofs.Common.{◌≡◌, refl}
use Rattle.sd_model_outside.specs.Backend.{Graphite, Console}
use Rattle.sd_outlet.specs.declared.drain.Drain.{Drain}
use Rattle.sd_outlet.specs.declared.worked.Worked.{Worked}
use Rattle.sd_outside.specs.Backends.{at, back_of, uses}
use Rattle.sd_outside.specs.declared.backend.Back.{Back}
use Rattle.sd_outside.specs.declared.backends.PerBackend.{PerBackend}
use Rattle.sd_outside.proofs.BackendLemmas.{at_both}
use Rattle.sd_serve.specs.Outlets.{WasDrained}
use Rattle.sd_serve.proofs.outlets.run_drained.Goals as goal

pub run_with_pair-requires-clause-fourth : goal.run_with_pair-requires-clause-fourth
run_with_pair-requires-clause-fourth g c κs within = record { drain_is = (c.requires.drains Graphite).drain_is; none = (c.requires.drains Graphite).none }

pub run_with_pair-requires-clause-fifth : goal.run_with_pair-requires-clause-fifth
run_with_pair-requires-clause-fifth g c κs within = record { drain_is = (c.requires.drains Console).drain_is; none = (c.requires.drains Console).none }

pub returns-clause-drained : goal.returns-clause-drained
returns-clause-drained g c =
    let ran = c.run_with_pair in
    let drains : PerBackend Drain = record { graphite = ran.new.fourth.drain.now; console = ran.new.fifth.drain.now } in
    let worked : PerBackend Worked = record { graphite = ran.new.fourth.worked; console = ran.new.fifth.worked } in
    let old = c.args.backs.now in
    let backs : PerBackend (Back _) = record { graphite = record old.graphite { object = ran.new.fourth.back.now }; console = record old.console { object = ran.new.fifth.back.now } } in
    at_both (λ b. WasDrained (at c.args.drains.now.outlets.now b) (at drains b) (at worked b) (back_of g.K.B.Faulty.seen c.args.backs.now b) (back_of g.K.B.Faulty.seen backs b))
    (record { drain_is = ran.ensures.fourth.drain_is; wrote = ran.ensures.fourth.wrote }) (record { drain_is = ran.ensures.fifth.drain_is; wrote = ran.ensures.fifth.wrote })

pub returns-clause-same_use : goal.returns-clause-same_use
returns-clause-same_use g c =
    let ran = c.run_with_pair in
    let old = c.args.backs.now in
    let backs : PerBackend (Back _) = record { graphite = record old.graphite { object = ran.new.fourth.back.now }; console = record old.console { object = ran.new.fifth.back.now } } in
    at_both (λ b. uses backs b ≡ uses old b) refl refl
