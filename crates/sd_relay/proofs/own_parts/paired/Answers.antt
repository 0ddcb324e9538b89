use Rattle.std.proofs.Common.{◌∙◌, ◌+◌, ap, arith, length}
use Rattle.std.proofs.lemmas.List.{length_push}
use Rattle.sd_relay.specs.Owns.{pass_of, seat_of}
use Rattle.sd_workers.proofs.MovingLemmas.{part-moved}
use Rattle.sd_relay.proofs.own_parts.paired.Goals as goal

pub loop-preserved : goal.loop-preserved
loop-preserved c =
    let loop = c.loop.invariant in
    let own = c.take_own.ensures in
    let push = c.push_reserved.ensures in
    record {
      len = ap length push.items ∙ length_push _ _ ∙ ap (λ n. n + 1) loop.len;
      room = let a = loop.room in let b = push.capacity in omega arith;
      passes = part-moved pass_of _ _ _ _ _ _ loop.passes own.passes push.items;
      seats = part-moved seat_of _ _ _ _ _ _ loop.seats own.seats push.items;
      passes_left = let a = loop.passes_left in let b = ap length own.passes in omega arith;
      seats_left = let a = loop.seats_left in let b = ap length own.seats in omega arith;
      pass_room = let a = loop.pass_room in let b = own.pass_room in omega arith;
      seat_room = let a = loop.seat_room in let b = own.seat_room in omega arith;
    }
