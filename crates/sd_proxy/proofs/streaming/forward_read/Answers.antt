use Rattle.std.proofs.Common.{◌∙◌, ℕ, List, map, subst, take, arith}
use Rattle.std.proofs.lemmas.List.{length-take-le, with_items_is}
use Rattle.sd_tcp.specs.Cutting.{CutsOn}
use Rattle.sd_proxy.specs.Looking.{pass_seen}
use Rattle.sd_proxy.specs.Streaming.{cuts_read}
use Rattle.sd_proxy.proofs.LookedLemmas.{SendsByLooks-one}
use Rattle.sd_proxy.proofs.streaming.forward_read.Goals as goal

pub returns-in-Ok-clause-sends : goal.returns-in-Ok-clause-sends
returns-in-Ok-clause-sends g c most none =
    let look = c.look-up.ensures in
    let up = c.look-up.result in
    let sent = c.forward_bytes.ensures.sends most none in
    let wire = g.L.Faulty.seen in
    record {
      bytes = take c.in-Ok.len c.read.new.buf;
      some =
          let size = length-take-le c.in-Ok.len c.read.new.buf c.in-Ok.ensures.within in
          let some = c.in-Ok.len-test.1 in omega (arith, size, some);
      read = c.in-Ok.ensures.next;
      cuts = sent.cuts;
      cut = subst (λ (bytes : List ℕ). CutsOn sent.cuts (take c.in-Ok.len bytes) c.args.room.now.cutter c.forward_bytes.new.cutter)
          (c.deref.ensures.value ∙ with_items_is c.args.room.now.buf c.read.new.buf (c.read.auto.buf ∙ c.deref_mut.ensures.len)) sent.cut;
      up = up;
      sends = SendsByLooks-one most c.args.ring.now (pass_seen c.args.own.now)
          (pass_seen (record c.args.own.now { pass = c.look-up.new.pass; seat = c.count.new.own })) (cuts_read sent.cuts up)
          (map wire c.args.wires.now) (map wire c.forward_bytes.new.wires) _ c.forward_bytes.new.totals (record {
            goes_on = look.seen;
            last = look.answer;
            looks = look.looks;
            did = c.count.ensures.did;
            nothing = c.none-came_to.ensures;
            forwards = sent.forwards;
          });
    }
