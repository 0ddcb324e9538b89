use Rattle.std.proofs.Common.{◌≡◌, ◌∙◌, ℕ, ◌<◌, false, List, [], ◌∷◌, ◌++◌, length, map, refl, sym, ap, subst, arith, get_or, set, eq-eqb, ne_eqb}
use Rattle.std.proofs.lemmas.List.{map-append}
use Rattle.sd_model_proxy.specs.Routes.{Batch, add_totals}
use Rattle.sd_model_proxy.specs.Routes as model
use Rattle.sd_proxy.specs.Forwarding.{IsUnderWay, Stands, routes_by}
use Rattle.sd_proxy_desk.specs.Views.{route_view, totals_of_route, totals_view}
use Rattle.sd_proxy_desk.specs.declared.route.Route.{Route}
use Rattle.sd_proxy_desk.specs.declared.route.Route.TheVariants.{Bad, Unowned, Node}
use Rattle.sd_proxy.proofs.ForwardLemmas.{TakesLines-short, count_line, line_elsewhere, line_taken, put, said}
use Rattle.sd_proxy.proofs.forwarding.forward_line.Goals as goal

-- a line that goes to no node
nowhere : (r : Route) → ((x : ℕ) → r ≡ Node x → ⊥) → (place : ℕ) → model.goes_to place (route_view r) ≡ false
nowhere Bad not place = refl
nowhere Unowned not place = refl
nowhere (Node x) not place = absurd (not x refl)

pub returns-in-Node-clause-takes : goal.returns-in-Node-clause-takes
returns-in-Node-clause-takes g c =
    let nodes = c.args.ring.now in
    let up = c.args.up in
    let line = c.args.line.now in
    let place = c.from-place.result in
    let seen = g.L.Faulty.seen in
    let goes : model.To place ≡ model.route line nodes up = ap model.To c.from-place.ensures ∙ c.in-Node.ensures.route in
    let owned : place < length nodes = omega (arith, c.from-place.ensures, c.in-Node.ensures.node) in
    let inside : place < length c.args.wires.now = omega (arith, owned, c.requires.wires) in
    let within : place < length c.args.waiting.now = omega (arith, owned, c.requires.waiting) in
    let w = c.index-waiting-place.result in
    let counts : totals_view c.add_line.new.self ≡ add_totals (totals_view c.args.totals.now) (totals_of_route (model.route line nodes up)) =
    c.add_line.ensures ∙ ap (λ (r : model.Route). add_totals (totals_view c.args.totals.now) (totals_of_route r)) c.route-goes.ensures.route in
    let old = get_or c.args.wires.now place c.index-wires-place.result in
    TakesLines-short nodes up (line ∷ []) _ _ _ _ _ _ (λ most packets long done first t s.
    let before = IsUnderWay most nodes up done in
    let after = IsUnderWay most nodes up (done ++ line ∷ []) in
    let routes : List model.Route = routes_by nodes up done ++ model.route line nodes up ∷ [] in
    let counted = count_line before before most nodes packets long (routes_by nodes up done) c.args.waiting.now first t
    (map seen c.args.wires.now) c.args.totals.now (totals_view c.add_line.new.self) (model.route line nodes up) counts s in
    let taken = c.take.ensures most (counted.begun place) (counted.holds place w within) in
    subst (λ (rs : List model.Route). Stands after most nodes packets long rs (set c.args.waiting.now place c.take.new.self) first
    (map seen (set c.args.wires.now place c.take.new.wire)) t (totals_view c.take.new.totals))
    (sym (map-append (λ (l : List ℕ). model.route l nodes up) done (line ∷ [])))
    (put before after most nodes packets long routes c.args.waiting.now first t seen c.args.wires.now (totals_view c.add_line.new.self)
    (totals_view c.take.new.totals) place old c.take.new.wire c.take.new.self taken.packets taken.left
    counted inside owned (ap (λ d. get_or c.args.wires.now place d) c.index-wires-place.is) taken.sends taken.holds
    (line_taken most nodes up done line place (map (λ (b : Batch). b.lines) (counted.sent place)) (counted.begun place) (ap (model.goes_to place) (sym goes) ∙ eq-eqb place place refl) owned (counted.are place) taken.packets taken.left taken.cut)
    (λ at ps begun other under. line_elsewhere most nodes up done line at ps begun (ap (model.goes_to at) (sym goes)
    ∙ ne_eqb place at (λ same. other (sym same))) under)))

pub returns-in_default-clause-takes : goal.returns-in_default-clause-takes
returns-in_default-clause-takes g c =
    let nodes = c.args.ring.now in
    let up = c.args.up in
    let line = c.args.line.now in
    let seen = g.L.Faulty.seen in
    let counts : totals_view c.add_line.new.self ≡ add_totals (totals_view c.args.totals.now) (totals_of_route (model.route line nodes up)) =
    c.add_line.ensures ∙ ap (λ (r : model.Route). add_totals (totals_view c.args.totals.now) (totals_of_route r)) c.route-goes.ensures.route in
    TakesLines-short nodes up (line ∷ []) _ _ _ _ _ _ (λ most packets long done first t s.
    let before = IsUnderWay most nodes up done in
    let after = IsUnderWay most nodes up (done ++ line ∷ []) in
    let counted = count_line before before most nodes packets long (routes_by nodes up done) c.args.waiting.now first t
    (map seen c.args.wires.now) c.args.totals.now (totals_view c.add_line.new.self) (model.route line nodes up) counts s in
    subst (λ (rs : List model.Route). Stands after most nodes packets long rs c.args.waiting.now first (map seen c.args.wires.now) t
    (totals_view c.add_line.new.self)) (sym (map-append (λ (l : List ℕ). model.route l nodes up) done (line ∷ [])))
    (said before after most nodes packets long (routes_by nodes up done ++ model.route line nodes up ∷ []) c.args.waiting.now first t
    (map seen c.args.wires.now) (totals_view c.add_line.new.self)
    (λ at ps begun under. line_elsewhere most nodes up done line at ps begun (ap (model.goes_to at) (sym c.route-goes.ensures.route)
    ∙ nowhere c.route-goes.result c.in_default.not-Node at) under) counted))
