use Rattle.std.proofs.Common.{◌≡◌, refl, sym}
use Rattle.std.specs.Prelude.{OnOk, IfErr, Result, Ok, Err, ⊤}
use Rattle.std.proofs.lemmas.Result.{IfErr-weaker, on_ok_weaker}
use Rattle.sd_model_outside.specs.Backend.{backends}
use Rattle.sd_outside.specs.Backends.{at, uses}
use Rattle.sd_outside.specs.Places.{place_of}
use Rattle.sd_opening.specs.Answers.{answer_of}
use Rattle.sd_opening.specs.Causes.{back_places}
use Rattle.sd_opening.proofs.OpeningLemmas.{done_seen, stops_seen}
use Rattle.sd_opening.proofs.opening.open_backs.Goals as goal

-- what follows from either end
either : {E S : Type 0} (result : Result ⊤ E) (P : Type 0) (Q : E → Type 0) → OnOk result P → IfErr result Q → (P → S) → ((e : E) → Q e → S) → S
either (Ok done) P Q ok refused by_ok by_refusal = by_ok ok
either (Err e) P Q ok refused by_ok by_refusal = by_refusal e refused

pub returns-clause-opened : goal.returns-clause-opened
returns-clause-opened g c =
    let old = c.args.backs.now in
    on_ok_weaker c.try_each.result (λ h. (done_seen g.B.Faulty.seen (back_places (place_of c.args.graphite.now)) backends (uses old) (at old) (at c.try_each.new.self) refl h).0) c.try_each.ensures.ok

pub returns-clause-refused : goal.returns-clause-refused
returns-clause-refused g c =
    let old = c.args.backs.now in
    IfErr-weaker c.try_each.result _ _ (λ status h. (stops_seen g.B.Faulty.seen (back_places (place_of c.args.graphite.now)) (answer_of status) backends (uses old) (at old) (at c.try_each.new.self) refl h).0) c.try_each.ensures.refused

pub returns-clause-same_use : goal.returns-clause-same_use
returns-clause-same_use g c =
    let old = c.args.backs.now in
    let places = back_places (place_of c.args.graphite.now) in
    either c.try_each.result _ _ c.try_each.ensures.ok c.try_each.ensures.refused
    (λ h. sym (done_seen g.B.Faulty.seen places backends (uses old) (at old) (at c.try_each.new.self) refl h).1)
    (λ status h. sym (stops_seen g.B.Faulty.seen places (answer_of status) backends (uses old) (at old) (at c.try_each.new.self) refl h).1)
