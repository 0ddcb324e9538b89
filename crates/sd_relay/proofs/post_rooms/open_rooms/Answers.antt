use Rattle.std.proofs.Common.{◌∙◌, ◌+◌, ap, arith, length, map}
use Rattle.std.proofs.lemmas.List.{length_push}
use Rattle.std.proofs.lemmas.List.Elements.{All-push, All-same}
use Rattle.sd_plan.specs.Entries.{node_view}
use Rattle.sd_relay.specs.PostRooms.{HasPlace, IsClear}
use Rattle.sd_relay.proofs.post_rooms.open_rooms.Goals as goal

pub loop-preserved : goal.loop-preserved
loop-preserved g c =
    let loop = c.loop.invariant in
    let push = c.push_reserved.ensures in
    let nodes = map node_view c.args.nodes.now in
    let sends = c.in_ok-open.ensures in
    let buf = c.in_ok-datagram_room.ensures in
    record {
      len = ap length push.items ∙ length_push _ _ ∙ ap (λ n. n + 1) loop.len;
      room = let a = loop.room in let b = push.capacity in omega arith;
      each = All-same (HasPlace nodes) _ _ push.items
          (All-push (HasPlace nodes) _ _ loop.each (sends.place, omega (arith, buf, c.in_ok-datagram_room.field-0.ok.0)));
      clear = All-same (IsClear c.args.batch) _ _ push.items (All-push (IsClear c.args.batch) _ _ loop.clear sends.clear);
    }
