use Rattle.std.proofs.Common.{refl, ◌∙◌}
use Rattle.std.proofs.lemmas.List.{with_items_is}
use Rattle.sd_relay.proofs.post.Post.run.Goals as goal

pub returns : goal.returns
returns g c =
    let ensures = c.proxy_part-got.ensures in
    let wires = with_items_is c.args.self.now.wires c.proxy_part-got.new.wires (ensures.wires ∙ c.as_mut_slice.ensures.len) in
    let waiting = with_items_is c.args.self.now.waiting c.proxy_part-got.new.waiting (ensures.waiting ∙ c.as_mut_slice-2.ensures.len) in
    record {
      got = c.proxy_part-got.result;
      got_is = refl;
      ring = ensures.ring;
      pass = ensures.pass.0;
      publishes_same = ensures.pass.1;
      seat = ensures.seat.0;
      number = ensures.seat.1;
      wires = refl;
      room = refl;
      proxies = λ most none. rw (wires, ← c.as_mut_slice.ensures.value) (ensures.proxies most (rw c.as_mut_slice-2.ensures.value none));
    }
