use Rattle.std.proofs.Common.{length, ap, arith, ◌∙◌, rules, length-append}
use Rattle.sd_serve.specs.PostRooms.{own_in, seat_in, source_in, wires_in}
use Rattle.sd_workers.proofs.MovingLemmas.{part-back, run-back, run-length}
use Rattle.sd_serve.proofs.post_rooms.give_back.Goals as goal

pub loop-post-preserved : goal.loop-post-preserved
loop-post-preserved g c =
    let loop = c.loop-post.invariant in
    let popped = c.in-Some.ensures.items in
    let packets = c.put_first.ensures in
    let wires = c.put_run.ensures in
    let seats = c.put_first-in-Some.ensures in
    let owns = c.put_first-in-Some-2.ensures in
    let run = run-length wires_in _ _ c.in-Some.post popped in
    let long = ap length wires.items ∙ length-append c.in-Some.post.wires.items c.loop-post.wires.items in
    record {
      packets = part-back source_in _ _ _ c.in-Some.post _ _ loop.packets popped packets.items;
      wires = run-back wires_in _ _ _ c.in-Some.post _ _ loop.wires popped wires.items;
      seats = part-back seat_in _ _ _ c.in-Some.post _ _ loop.seats popped seats.items;
      owns = part-back own_in _ _ _ c.in-Some.post _ _ loop.owns popped owns.items;
      sources_left = search rules;
      wires_left = let left = loop.wires_left in let same = wires.capacity in omega (arith, left, same, run, long);
      seats_left = search rules;
      owns_left = search rules;
      packets_room = search rules;
      wires_room = search rules;
      seats_room = search rules;
      owns_room = search rules;
    }
