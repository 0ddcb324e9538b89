use Rattle.std.proofs.Common.{refl, ◌∙◌}
use Rattle.std.proofs.lemmas.List.{with_items_is}
use Rattle.sd_relay.proofs.line_post.LinePost.run.Goals as goal

pub returns : goal.returns
returns g c =
    let ensures = c.line_part-got.ensures in
    let wires = with_items_is c.args.self.now.wires c.line_part-got.new.wires (ensures.wires ∙ c.as_mut_slice.ensures.len) in
    record {
      got = c.line_part-got.result;
      got_is = refl;
      pass = ensures.pass.0;
      seat = ensures.seat.0;
      number = ensures.seat.1;
      wires = refl;
      relays = λ most none. rw (wires, ← c.as_mut_slice.ensures.value) (ensures.proxies most (rw c.as_mut_slice-2.ensures.value none));
    }
