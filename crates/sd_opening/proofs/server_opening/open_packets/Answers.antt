use Rattle.std.proofs.Common.{◌≡◌, ◌≤◌, ◌∷◌, [], List, length, map, refl, sym, ap, subst, ◌∙◌, arith, rules}
use Rattle.std.proofs.lemmas.List.{length-map, with_items_is}
use Rattle.std.proofs.lemmas.Result.{IfErr-weaker, on_ok_weaker}
use Rattle.sd_model_outside.specs.Outside.{Datagrams, Object}
use Rattle.sd_model_call.specs.Call.{StopsAmong}
use Rattle.sd_model_call.specs.Opening.{World, OfSource, numbered, repeated}
use Rattle.sd_outside.specs.Places.{place_of}
use Rattle.sd_opening.specs.Answers.{answer_of}
use Rattle.sd_opening.specs.Causes.{EachStops, opened_each}
use Rattle.sd_opening.specs.World.{world_of}
use Rattle.sd_opening.proofs.OpeningLemmas.{all_opened, each_stops, repeated_count}
use Rattle.sd_opening.proofs.server_opening.open_packets.Goals as goal

pub returns-clause-opened : goal.returns-clause-opened
returns-clause-opened g c =
    let old = world_of g.K.R.Faulty.seen g.K.O.Faulty.seen g.K.B.Faulty.seen g.K.D.Faulty.seen g.K.L.Faulty.seen g.K.E.Faulty.seen g.K.P.Faulty.seen g.K.Q.Faulty.seen g.K.S.Faulty.seen c.args.world.now in
    let put : List Object → World = λ l. record old { served = record old.served { sources = l } } in
    let ps = Datagrams c.args.settings.now.addresses.address c.args.settings.now.server.port c.args.settings.now.transport.receive_buffer ∷ [] in
    let runs = c.args.settings.now.sizes.receivers in
    let receivers : c.unwrap-receivers.result ≡ c.args.settings.now.sizes.receivers = search rules in
    let place : place_of c.datagrams_address-at.result ≡ Datagrams c.args.settings.now.addresses.address c.args.settings.now.server.port c.args.settings.now.transport.receive_buffer = search rules in
    let same : repeated c.unwrap-receivers.result (place_of c.datagrams_address-at.result ∷ []) ≡ repeated runs ps =
    (λ i. repeated (receivers i) (place i ∷ [])) in
    let now = with_items_is c.args.world.now.packets c.open_sources.new.sources (c.open_sources.ensures.count ∙ c.deref_mut.ensures.len) in
    let few : length (repeated runs ps) ≤ length (map g.K.D.Faulty.seen c.args.world.now.packets.items) = let n = repeated_count runs ps in let m = length-map c.args.world.now.packets.items g.K.D.Faulty.seen in omega (arith, n, m, c.requires, c.receivers.ensures.value, c.receivers.ensures.range) in
    on_ok_weaker c.open_sources.result
    (λ is. ap (λ l. put (map g.K.D.Faulty.seen l)) now ∙ ap put (is ∙ ap (λ l. opened_each (repeated c.unwrap-receivers.result (place_of c.datagrams_address-at.result ∷ [])) (map g.K.D.Faulty.seen l)) c.deref_mut.ensures.value ∙ ap (λ places. opened_each places (map g.K.D.Faulty.seen c.args.world.now.packets.items)) same)
    ∙ sym (all_opened OfSource put (λ l i. refl) (λ l i o. refl) [] (map g.K.D.Faulty.seen c.args.world.now.packets.items) (repeated runs ps) few))
    c.open_sources.ensures.ok

pub returns-clause-refused : goal.returns-clause-refused
returns-clause-refused g c =
    let old = world_of g.K.R.Faulty.seen g.K.O.Faulty.seen g.K.B.Faulty.seen g.K.D.Faulty.seen g.K.L.Faulty.seen g.K.E.Faulty.seen g.K.P.Faulty.seen g.K.Q.Faulty.seen g.K.S.Faulty.seen c.args.world.now in
    let put : List Object → World = λ l. record old { served = record old.served { sources = l } } in
    let ps = Datagrams c.args.settings.now.addresses.address c.args.settings.now.server.port c.args.settings.now.transport.receive_buffer ∷ [] in
    let runs = c.args.settings.now.sizes.receivers in
    let receivers : c.unwrap-receivers.result ≡ c.args.settings.now.sizes.receivers = search rules in
    let place : place_of c.datagrams_address-at.result ≡ Datagrams c.args.settings.now.addresses.address c.args.settings.now.server.port c.args.settings.now.transport.receive_buffer = search rules in
    let same : repeated c.unwrap-receivers.result (place_of c.datagrams_address-at.result ∷ []) ≡ repeated runs ps =
    (λ i. repeated (receivers i) (place i ∷ [])) in
    let now = with_items_is c.args.world.now.packets c.open_sources.new.sources (c.open_sources.ensures.count ∙ c.deref_mut.ensures.len) in
    IfErr-weaker c.open_sources.result _ _
    (λ status h. subst (λ l. StopsAmong (numbered OfSource 0 (repeated runs ps)) (answer_of status) old (put (map g.K.D.Faulty.seen l))) (sym now)
    (each_stops OfSource put (λ l i. refl) (λ l i o. refl) [] (map g.K.D.Faulty.seen c.args.world.now.packets.items) (map g.K.D.Faulty.seen c.open_sources.new.sources) (repeated runs ps) (answer_of status)
    (subst (λ l. EachStops OfSource 0 (repeated runs ps) (answer_of status) (map g.K.D.Faulty.seen l) (map g.K.D.Faulty.seen c.open_sources.new.sources)) c.deref_mut.ensures.value
    (subst (λ places. EachStops OfSource 0 places (answer_of status) (map g.K.D.Faulty.seen c.deref_mut.result.now) (map g.K.D.Faulty.seen c.open_sources.new.sources)) same h))))
    c.open_sources.ensures.refused
