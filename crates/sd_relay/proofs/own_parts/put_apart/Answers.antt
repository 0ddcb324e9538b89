use Rattle.std.proofs.Common.{◌≡◌, ◌∙◌, ◌+◌, ap, arith, length}
use Rattle.std.proofs.lemmas.List.{length_push}
use Rattle.sd_relay.specs.Owns.{pass_of, seat_of}
use Rattle.sd_workers.proofs.MovingLemmas.{part-back}
use Rattle.sd_relay.proofs.own_parts.put_apart.Goals as goal

pub loop-own-preserved : goal.loop-own-preserved
loop-own-preserved c =
    let loop = c.loop-own.invariant in
    let popped = c.in-Some.ensures.items in
    let owns = c.loop-own.owns.items in
    let left = c.pop.new.self.items in
    let own = c.in-Some.own in
    let pass = c.put_first.ensures in
    let seat = c.put_first-in-Some.ensures in
    let less : length owns ≡ length left + 1 = ap length popped ∙ length_push left own in
    record {
      passes = part-back pass_of _ owns left own _ _ loop.passes popped pass.items;
      seats = part-back seat_of _ owns left own _ _ loop.seats popped seat.items;
      passes_left = let a = loop.passes_left in let b = ap length pass.items in let d = pass.capacity in omega arith;
      seats_left = let a = loop.seats_left in let b = ap length seat.items in let d = seat.capacity in omega arith;
    }
