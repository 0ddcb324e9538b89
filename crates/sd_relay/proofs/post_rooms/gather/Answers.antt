use Rattle.std.proofs.Common.{◌≡◌, ◌∙◌, ◌+◌, ◌*◌, ◌≤◌, Some, ap, arith, length, length-append, map, subst, sym}
use Rattle.std.proofs.lemmas.List.{length_push, length-map}
use Rattle.std.proofs.Math.Nat.{suc-mul}
use Rattle.std.proofs.lemmas.List.Elements.{All-pop, All-push, All-same}
use Rattle.sd_plan.specs.Entries.{node_view}
use Rattle.sd_relay.specs.PostRooms.{HasPlace, IsClear, IsFitted, NoLineWaits, own_in, source_in, wires_in}
use Rattle.sd_workers.proofs.MovingLemmas.{part-moved, run-moved}
use Rattle.sd_relay.proofs.post_rooms.gather.Goals as goal

pub loop-room-preserved : goal.loop-room-preserved
loop-room-preserved g c =
    let loop = c.loop-room.invariant in
    let nodes = map node_view c.args.nodes.now in
    let popped = c.in-Some.ensures in
    let taken = All-pop (HasPlace nodes) _ _ (Some c.in-Some.room) popped.items loop.rooms in
    let own = c.take_first.ensures in
    let source = c.take_first-in-Some.ensures in
    let wires = c.take_run.ensures in
    let push = c.push_reserved.ensures in
    let less : length c.loop-room.rooms.items ≡ length c.pop.new.self.items + 1 = ap length popped.items ∙ length_push c.pop.new.self.items c.in-Some.room in
    record {
      len = let a = loop.len in let b = push.len in omega arith;
      room = let a = loop.room in let b = push.len in let d = push.capacity in omega arith;
      rooms = taken.0;
      fitted = All-same (IsFitted nodes) _ _ push.items
          (All-push (IsFitted nodes) _ _ loop.fitted
          (taken.1.0.0, wires.len ∙ sym (length-map c.args.nodes.now node_view), taken.1.1, taken.1.0.3));
      clear = λ most all.
          let both = loop.clear most all in
          let popped_clear = All-pop (IsClear most) _ _ (Some c.in-Some.room) popped.items both.0 in
          (popped_clear.0, All-same (NoLineWaits most) _ _ push.items (All-push (NoLineWaits most) _ _ both.1 popped_clear.1));
      packets = part-moved source_in _ _ _ _ _ _ loop.packets source.items push.items;
      wires = run-moved wires_in _ _ _ _ _ _ loop.wires wires.items push.items;
      owns = part-moved own_in _ _ _ _ _ _ loop.owns own.items push.items;
      sources = let a = loop.sources in let b = ap length source.items in omega arith;
      runs = let a = subst (λ n. n * length c.args.nodes.now ≤ length c.loop-room.wires.items) less loop.runs in let b = ap length wires.items ∙ length-append c.take_run.result.items c.take_run.new.items.items in let d = wires.len in let e = suc-mul (length c.pop.new.self.items) (length c.args.nodes.now) in omega arith;
      owns_left = let a = loop.owns_left in let b = ap length own.items in omega arith;
      packets_room = source.capacity ∙ loop.packets_room;
      wires_room = wires.capacity ∙ loop.wires_room;
      owns_room = own.capacity ∙ loop.owns_room;
    }

pub returns-clause-clear : goal.returns-clause-clear
returns-clause-clear g c most all = (c.loop-room.invariant.clear most all).1
