use Rattle.std.proofs.Common.{◌≡◌, ◌∙◌, ◌+◌, ◌++◌, [], ◌∷◌, map, take, sym, ap, subst, arith, rules}
use Rattle.std.proofs.lemmas.List.{map-append, take_more}
use Rattle.sd_model_proxy.specs.Routes.{sums_of_totals}
use Rattle.sd_relay.specs.Sums.{WasRun, totals_in}
use Rattle.sd_relay.proofs.SumLemmas.{sums-next}
use Rattle.sd_relay.proofs.sums.add_up.Goals as goal

pub totals_of-requires : goal.totals_of-requires
totals_of-requires g c = subst WasRun (sym c.post-item.is) (c.requires.run c.loop-post.post-index c.post-item.result (search rules))

pub loop-post-preserved : goal.loop-post-preserved
loop-post-preserved g c =
    let i = c.loop-post.invariant in
    let few = c.with-sums.ensures.few in
    let index = c.loop-post.post-index in
    let posts = c.args.posts.now in
    let post = c.post-item.result in
    let more : map totals_in (take (index + 1) posts) ≡ map totals_in (take index posts) ++ totals_in post ∷ [] =
    ap (map totals_in) (take_more posts index post (omega arith) ∙ ap (λ p. take index posts ++ p ∷ []) (sym c.post-item.is)) ∙ map-append totals_in (take index posts) (post ∷ []) in
    record {
      are = sums-next (map totals_in (take index posts)) c.totals_of.result _ _ i.are c.with-sums.ensures.adds ∙ ap (λ t. sums_of_totals (map totals_in (take index posts) ++ t ∷ [])) c.totals_of.ensures ∙ ap sums_of_totals (sym more);
      packets = omega (arith, few.packets, i.packets);
      lines = omega (arith, few.lines, i.lines);
      bad = omega (arith, few.bad, i.bad);
      sent = omega (arith, few.sent, i.sent);
      unowned = omega (arith, few.unowned, i.unowned);
      send_faults = omega (arith, few.send_faults, i.send_faults);
    }
