use Rattle.std.proofs.Common.{◌≡◌, ◌∙◌, ◌+◌, ap, arith, length, length-append}
use Rattle.std.proofs.lemmas.List.{length_push}
use Rattle.sd_relay.specs.PostRooms.{own_in, source_in, wires_in}
use Rattle.sd_workers.proofs.MovingLemmas.{part-back, run-back, run-length}
use Rattle.sd_relay.proofs.post_rooms.give_back.Goals as goal

pub put_run-requires : goal.put_run-requires
put_run-requires g c =
    let long = run-length wires_in c.loop-post.posts.items c.pop.new.self.items c.in-Some.post c.in-Some.ensures.items in
    let left = c.loop-post.invariant.wires_left in
    omega (arith, long, left)

pub loop-post-preserved : goal.loop-post-preserved
loop-post-preserved g c =
    let loop = c.loop-post.invariant in
    let popped = c.in-Some.ensures.items in
    let posts = c.loop-post.posts.items in
    let left = c.pop.new.self.items in
    let post = c.in-Some.post in
    let source = c.put_first.ensures in
    let wires = c.put_run.ensures in
    let own = c.put_first-in-Some.ensures in
    let less : length posts ≡ length left + 1 = ap length popped ∙ length_push left post in
    let long = run-length wires_in posts left post popped in
    record {
      packets = part-back source_in _ posts left post _ _ loop.packets popped source.items;
      wires = run-back wires_in _ posts left post _ _ loop.wires popped wires.items;
      owns = part-back own_in _ posts left post _ _ loop.owns popped own.items;
      sources_left = let a = loop.sources_left in let b = ap length source.items in let d = source.capacity in omega arith;
      wires_left = let a = loop.wires_left in let b = ap length wires.items ∙ length-append post.wires.items c.loop-post.wires.items in let d = wires.capacity in omega (arith, long);
      owns_left = let a = loop.owns_left in let b = ap length own.items in let d = own.capacity in omega arith;
      packets_room = source.capacity ∙ loop.packets_room;
      wires_room = wires.capacity ∙ loop.wires_room;
      owns_room = own.capacity ∙ loop.owns_room;
    }
