use Rattle.std.proofs.Common.{refl, ◌∙◌}
use Rattle.std.proofs.lemmas.List.{with_items_is}
use Rattle.sd_receive.proofs.post.Post.run.Goals as goal

pub returns : goal.returns
returns g c =
    let ensures = c.receive-got.ensures in
    let wires = with_items_is c.args.self.now.wires c.receive-got.new.wires (ensures.wires ∙ c.as_mut_slice.ensures.len) in
    record {
      got = c.receive-got.result;
      got_is = refl;
      seat_is = ensures.seat.0;
      who = ensures.seat.1;
      own_is = ensures.own.0;
      number = ensures.own.1;
      wires = refl;
      room = refl;
      batch = ensures.batch;
      receives = rw (wires, ← c.as_mut_slice.ensures.value) ensures.receives;
    }
