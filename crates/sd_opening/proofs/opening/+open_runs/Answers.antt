use Rattle.std.proofs.Common.{◌-◌, ◌++◌, List, map, sym, ap, subst, ◌∙◌, rules}
use Rattle.std.proofs.lemmas.List.{length-map, map-append}
use Rattle.std.proofs.lemmas.Result.{err_from_is_err_and, IfErr-weaker, on_ok_weaker}
use Rattle.sd_model_outside.specs.Outside.{Place}
use Rattle.sd_model_call.specs.Opening.{OfWire, repeated}
use Rattle.sd_opening.specs.Answers.{answer_of}
use Rattle.sd_opening.specs.Causes.{EachStops, opened_each}
use Rattle.sd_opening.proofs.OpeningLemmas.{first_stops, opened_both, repeated_more, second_stops}
use Rattle.sd_opening.proofs.opening.+open_runs.Goals as goal

pub returns-in_err-open_wires-clause-refused : goal.returns-in_err-open_wires-clause-refused
returns-in_err-open_wires-clause-refused g t c =
    let ps = map g.N.Peer.place c.args.peers.now in
    let see = g.L.Faulty.seen in
    let prefix = c.split_at_mut-run.result.0.now in
    let back = c.split_at_mut-run.result.1.now in
    let answer = answer_of c.in_err-open_wires.field-0.0 in
    let now = map see (c.open_wires.new.wires ++ back) in
    let p = err_from_is_err_and c.from_residual.result c.from_residual.ensures.1 in
    rw (p.1, p.2) (subst (λ (places : List Place). EachStops OfWire c.args.first places answer (map see c.args.wires.now) now)
    (sym (repeated_more c.args.runs ps (search rules)))
    (subst (λ olds. EachStops OfWire c.args.first (ps ++ repeated (c.args.runs - 1) ps) answer (map see olds) now) (sym c.split_at_mut-run.ensures.value)
    (subst (λ olds. EachStops OfWire c.args.first (ps ++ repeated (c.args.runs - 1) ps) answer olds now) (sym (map-append see prefix back))
    (subst (λ news. EachStops OfWire c.args.first (ps ++ repeated (c.args.runs - 1) ps) answer (map see prefix ++ map see back) news) (sym (map-append see c.open_wires.new.wires back))
    (first_stops OfWire answer c.args.first ps (repeated (c.args.runs - 1) ps) (map see prefix) (map see c.open_wires.new.wires) (map see back) c.in_err-open_wires.ensures.refused)))))

pub returns-clause-ok : goal.returns-clause-ok
returns-clause-ok g t c =
    let ps = map g.N.Peer.place c.args.peers.now in
    let see = g.L.Faulty.seen in
    let prefix = c.split_at_mut-run.result.0.now in
    let back = c.split_at_mut-run.result.1.now in
    let same = length-map prefix see ∙ c.split_at_mut-run.ensures.front_len ∙ sym (length-map c.args.peers.now g.N.Peer.place) in
    on_ok_weaker c.open_runs.result
    (λ rest. map-append see c.open_wires.new.wires c.open_runs.new.wires
    ∙ (λ i. c.in_ok-open_wires.ensures.ok i ++ rest i)
    ∙ sym (opened_both ps (repeated (c.args.runs - 1) ps) (map see prefix) (map see back) same)
    ∙ ap (opened_each (ps ++ repeated (c.args.runs - 1) ps)) (sym (map-append see prefix back))
    ∙ ap (λ olds. opened_each (ps ++ repeated (c.args.runs - 1) ps) (map see olds)) (sym c.split_at_mut-run.ensures.value)
    ∙ ap (λ places. opened_each places (map see c.args.wires.now)) (sym (repeated_more c.args.runs ps (search rules))))
    c.open_runs.ensures.ok

pub returns-clause-refused : goal.returns-clause-refused
returns-clause-refused g t c =
    let ps = map g.N.Peer.place c.args.peers.now in
    let see = g.L.Faulty.seen in
    let prefix = c.split_at_mut-run.result.0.now in
    let back = c.split_at_mut-run.result.1.now in
    let count = length-map c.args.peers.now g.N.Peer.place in
    let same = length-map prefix see ∙ c.split_at_mut-run.ensures.front_len ∙ sym count in
    let now = map see (c.open_wires.new.wires ++ c.open_runs.new.wires) in
    IfErr-weaker c.open_runs.result _ _
    (λ status h. subst (λ (places : List Place). EachStops OfWire c.args.first places (answer_of status) (map see c.args.wires.now) now)
    (sym (repeated_more c.args.runs ps (search rules)))
    (subst (λ olds. EachStops OfWire c.args.first (ps ++ repeated (c.args.runs - 1) ps) (answer_of status) (map see olds) now) (sym c.split_at_mut-run.ensures.value)
    (subst (λ olds. EachStops OfWire c.args.first (ps ++ repeated (c.args.runs - 1) ps) (answer_of status) olds now) (sym (map-append see prefix back))
    (subst (λ news. EachStops OfWire c.args.first (ps ++ repeated (c.args.runs - 1) ps) (answer_of status) (map see prefix ++ map see back) news) (sym (map-append see c.open_wires.new.wires c.open_runs.new.wires))
    (second_stops OfWire (answer_of status) c.args.first ps (repeated (c.args.runs - 1) ps) (map see prefix) (map see c.open_wires.new.wires) (map see back) (map see c.open_runs.new.wires) same c.in_ok-open_wires.ensures.ok
    (subst (λ k. EachStops OfWire k (repeated (c.args.runs - 1) ps) (answer_of status) (map see back) (map see c.open_runs.new.wires)) (search rules) h))))))
    c.open_runs.ensures.refused
