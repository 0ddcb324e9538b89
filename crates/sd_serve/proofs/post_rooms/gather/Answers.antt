use Rattle.std.proofs.Common.{◌≡◌, ◌∙◌, ◌+◌, ◌*◌, ◌≤◌, Some, ap, arith, length, length-append, subst}
use Rattle.std.proofs.lemmas.List.{length_push}
use Rattle.std.proofs.Math.Nat.{suc-mul}
use Rattle.std.proofs.lemmas.List.Elements.{All-pop, All-push, All-same}
use Rattle.sd_serve.specs.PostRooms.{HasBatch, HasPlace, IsBatched, IsFitted, own_in, seat_in, source_in, wires_in}
use Rattle.sd_workers.proofs.MovingLemmas.{part-moved, run-moved}
use Rattle.sd_serve.proofs.post_rooms.gather.Goals as goal

pub loop-room-preserved : goal.loop-room-preserved
loop-room-preserved g c =
    let loop = c.loop-room.invariant in
    let popped = c.in-Some.ensures in
    let taken = All-pop (HasPlace c.args.run) _ _ (Some c.in-Some.room) popped.items loop.rooms in
    let source = c.take_first.ensures in
    let wires = c.take_run.ensures in
    let seat = c.take_first-in-Some.ensures in
    let own = c.take_first-in-Some-2.ensures in
    let push = c.push_reserved.ensures in
    let less : length c.loop-room.rooms.items ≡ length c.pop.new.self.items + 1 = ap length popped.items ∙ length_push c.pop.new.self.items c.in-Some.room in
    record {
      len = let a = loop.len in let b = push.len in omega arith;
      room = let a = loop.room in let b = push.len in let d = push.capacity in omega arith;
      rooms = taken.0;
      fitted = All-same (IsFitted c.args.run) _ _ push.items (All-push (IsFitted c.args.run) _ _ loop.fitted (wires.len, taken.1.2));
      batches = λ shards given.
          let before = loop.batches shards given in
          let left = All-pop (HasBatch shards) _ _ (Some c.in-Some.room) popped.items before.0 in
          (left.0, All-same (IsBatched shards) _ _ push.items (All-push (IsBatched shards) _ _ before.1 left.1));
      packets = part-moved source_in _ _ _ _ _ _ loop.packets source.items push.items;
      wires = run-moved wires_in _ _ _ _ _ _ loop.wires wires.items push.items;
      seats = part-moved seat_in _ _ _ _ _ _ loop.seats seat.items push.items;
      owns = part-moved own_in _ _ _ _ _ _ loop.owns own.items push.items;
      sources = let a = loop.sources in let b = ap length source.items in omega arith;
      runs = let a = subst (λ n. n * c.args.run ≤ length c.loop-room.wires.items) less loop.runs in let b = ap length wires.items ∙ length-append c.take_run.result.items c.take_run.new.items.items in let d = wires.len in let e = suc-mul (length c.pop.new.self.items) c.args.run in omega arith;
      seats_left = let a = loop.seats_left in let b = ap length seat.items in omega arith;
      owns_left = let a = loop.owns_left in let b = ap length own.items in omega arith;
      packets_room = source.capacity ∙ loop.packets_room;
      wires_room = wires.capacity ∙ loop.wires_room;
      seats_room = seat.capacity ∙ loop.seats_room;
      owns_room = own.capacity ∙ loop.owns_room;
    }
