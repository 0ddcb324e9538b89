use Rattle.std.proofs.Common.{◌∙◌, ◌<◌, ◌+◌, [], length, map, refl, ap, arith, get_or}
use Rattle.std.proofs.lemmas.List.{length-set}
use Rattle.sd_model_proxy.specs.Routes.{Batch}
use Rattle.sd_proxy.specs.Forwarding.{IsLeft, routes_by}
use Rattle.sd_proxy_desk.specs.Views.{totals_view}
use Rattle.sd_proxy.specs.Waiting.{under_way}
use Rattle.sd_proxy.proofs.ForwardLemmas.{flush_first, left_elsewhere, left_here, put}
use Rattle.sd_proxy.proofs.forwarding.send_waiting.Goals as goal

pub loop-place-init : goal.loop-place-init
loop-place-init g c = record {
  wires = refl;
  waiting = refl;
  left = λ most packets long nodes up done first t same under. flush_first most nodes up packets long done c.args.waiting.now first
      (map g.L.Faulty.seen c.args.wires.now) t (totals_view c.args.totals.now) under;
}

pub loop-place-preserved : goal.loop-place-preserved
loop-place-preserved g c =
    let loop = c.loop-place.invariant in
    let place = c.loop-place.place in
    let seen = g.L.Faulty.seen in
    let below = c.loop-place-test.true in
    let inside : place < length c.loop-place.wires = omega (arith, below, loop.wires) in
    let within : place < length c.loop-place.waiting = omega (arith, below, loop.waiting, c.requires) in
    record {
      wires = length-set c.loop-place.wires place c.send.new.wire ∙ loop.wires;
      waiting = length-set c.loop-place.waiting place c.send.new.self ∙ loop.waiting;
      left = λ most packets long nodes up done first t same under.
          let s = loop.left most packets long nodes up done first t same under in
          let begun = s.begun place in
          let holds = s.holds place c.index-waiting-place.result within in
          put (IsLeft most nodes up done place) (IsLeft most nodes up done (place + 1)) most nodes packets long
          (routes_by nodes up done) c.loop-place.waiting first t seen c.loop-place.wires (totals_view c.loop-place.totals)
          (totals_view c.send.new.totals) place
          (get_or c.loop-place.wires place c.index-wires-place.result) c.send.new.wire c.send.new.self (under_way begun) [] s inside (omega (arith, below, same)) (ap (λ d. get_or c.loop-place.wires place d) c.index-wires-place.is) (c.send.ensures.sends most begun holds) (c.send.ensures.none most begun holds)
          (left_here most nodes up done place (map (λ (b : Batch). b.lines) (s.sent place)) begun (s.are place))
          (λ at ps b other left. left_elsewhere most nodes up done place at ps b other left);
    }
