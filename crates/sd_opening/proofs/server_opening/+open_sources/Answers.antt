use Rattle.std.proofs.Common.{◌-◌, ◌∷◌, [], List, map, refl, sym, ap, subst, ◌∙◌, inl, inr, rules}
use Rattle.std.proofs.lemmas.Result.{err_from_is_err_and, IfErr-weaker, on_ok_weaker}
use Rattle.sd_model_outside.specs.Outside.{Place}
use Rattle.sd_model_call.specs.Opening.{OfSource, repeated}
use Rattle.sd_outside.specs.Places.{place_of}
use Rattle.sd_opening.specs.Answers.{answer_of}
use Rattle.sd_opening.specs.Causes.{EachStops, opened_each}
use Rattle.sd_opening.proofs.OpeningLemmas.{repeated_more}
use Rattle.sd_opening.proofs.server_opening.+open_sources.Goals as goal

pub returns-in_err-open-clause-refused : goal.returns-in_err-open-clause-refused
returns-in_err-open-clause-refused g t c =
    let p = err_from_is_err_and c.from_residual.result c.from_residual.ensures.1 in
    let now = g.D.Faulty.seen c.open.new.object ∷ map g.D.Faulty.seen c.in-Some.sources.now in
    rw (p.1, p.2) (subst (λ (ps : List Place). EachStops OfSource c.args.first ps (answer_of c.in_err-open.field-0.0) (map g.D.Faulty.seen c.args.sources.now) now)
    (sym (repeated_more c.args.count (place_of c.args.at.now ∷ []) (search rules)))
    (subst (λ olds. EachStops OfSource c.args.first (place_of c.args.at.now ∷ repeated (c.args.count - 1) (place_of c.args.at.now ∷ [])) (answer_of c.in_err-open.field-0.0) (map g.D.Faulty.seen olds) now)
    (sym c.in-Some.ensures.cases.0) (inl (c.in_err-open.ensures.refused, refl))))

pub returns-clause-ok : goal.returns-clause-ok
returns-clause-ok g t c =
    let ps = place_of c.args.at.now ∷ [] in
    on_ok_weaker c.open_sources.result
    (λ same. (λ i. c.in_ok-open.ensures.ok i ∷ same i)
    ∙ ap (λ olds. opened_each (place_of c.args.at.now ∷ repeated (c.args.count - 1) ps) (map g.D.Faulty.seen olds)) (sym c.in-Some.ensures.cases.0)
    ∙ ap (λ places. opened_each places (map g.D.Faulty.seen c.args.sources.now)) (sym (repeated_more c.args.count ps (search rules))))
    c.open_sources.ensures.ok

pub returns-clause-refused : goal.returns-clause-refused
returns-clause-refused g t c =
    let ps = place_of c.args.at.now ∷ [] in
    IfErr-weaker c.open_sources.result _ _
    (λ status h. subst (λ (places : List Place). EachStops OfSource c.args.first places (answer_of status) (map g.D.Faulty.seen c.args.sources.now) (g.D.Faulty.seen c.open.new.object ∷ map g.D.Faulty.seen c.open_sources.new.sources))
    (sym (repeated_more c.args.count ps (search rules)))
    (subst (λ olds. EachStops OfSource c.args.first (place_of c.args.at.now ∷ repeated (c.args.count - 1) ps) (answer_of status) (map g.D.Faulty.seen olds) (g.D.Faulty.seen c.open.new.object ∷ map g.D.Faulty.seen c.open_sources.new.sources))
    (sym c.in-Some.ensures.cases.0) (inr (c.in_ok-open.ensures.ok, h))))
    c.open_sources.ensures.refused
