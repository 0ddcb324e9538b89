use Rattle.std.proofs.Common.{◌∙◌, ◌^◌, ℕ, List, [], ◌∷◌, map, take, refl, subst, arith}
use Rattle.std.proofs.lemmas.List.{length-map}
use Rattle.sd_model_settings.specs.Entries.{Node}
use Rattle.sd_outside.specs.declared.datagrams.Ended.TheVariants.{End, Failed, Worn}
use Rattle.sd_proxy_desk.specs.Views.{totals_view}
use Rattle.sd_proxy.specs.Forwarding.{Forwards, NoneWaits, datagram_read}
use Rattle.sd_proxy.specs.Looking.{Looked, pass_seen}
use Rattle.sd_proxy.proofs.ForwardLemmas.{Forwards-apart}
use Rattle.sd_proxy.proofs.RelayLemmas.{One, looked-next, looked-none, ran_first, ran_idle, ran_read, ran_out, out_looked, ends_failed, ends_spent, same_faults}
use Rattle.sd_proxy.proofs.looking.proxy_part.Goals as goal

pub loop-turn-init : goal.loop-turn-init
loop-turn-init g c =
    let nodes = c.args.ring.now in
    let own = pass_seen c.args.own.now in
    record {
      ring = refl;
      pass = (c.requires.pass, refl);
      seat = (c.requires.seat, refl);
      wires = refl;
      waiting = refl;
      none = λ most none. none;
      room = refl;
      ran = λ most none. ran_first most _ (Looked 1 most nodes own own) _ _ _ (looked-none 1 most nodes own _ c.none-totals.ensures)
          (g.met.D.Datagrams.turns_fit c.args.packets.now) c.none-totals.ensures;
    }

pub loop-turn-preserved : goal.loop-turn-preserved
loop-turn-preserved g c =
    let wire = g.L.Faulty.seen in
    let nodes = c.args.ring.now in
    let loop = c.loop-turn.invariant in
    let look = c.look-up.ensures in
    let up = c.look-up.result in
    let old = pass_seen c.args.own.now in
    let before = pass_seen c.loop-turn.own in
    let after = pass_seen (record c.loop-turn.own { pass = c.look-up.new.pass; seat = c.count.new.own }) in
    let forward = c.forward_datagram.ensures in
    let datagram = take c.in-Packet.len c.next.new.buf in
    let read = datagram_read datagram up in
    let none_yet = totals_view c.none-came_to.result in
    let came_to = totals_view c.forward_datagram.new.totals in
    let both = c.and-totals.ensures in
    let wires_before = map wire c.loop-turn.wires in
    let wires_after = map wire c.forward_datagram.new.wires in
    let forwards = λ (most : ℕ) (none : NoneWaits most c.args.waiting.now).
    subst (λ (ns : List Node). Forwards most ns 1 (read ∷ []) wires_before wires_after none_yet came_to) loop.ring
    (forward.forwards most (loop.none most none)) in
    let one : (most : ℕ) → NoneWaits most c.args.waiting.now
    → One 1 most nodes before after read wires_before wires_after none_yet came_to = λ most none. record {
      goes_on = look.seen;
      last = look.answer;
      looks = look.looks;
      did = c.count.ensures.did;
      nothing = c.none-came_to.ensures;
      forwards = forwards most none;
    } in
    record {
      ring = forward.ring ∙ loop.ring;
      pass = (look.pass.0, look.pass.1 ∙ loop.pass.1);
      seat = (c.count.ensures.seat.0, c.count.ensures.seat.1 ∙ loop.seat.1);
      wires = forward.wires ∙ loop.wires;
      waiting = forward.waiting ∙ loop.waiting;
      none = λ most none. forward.none most (loop.none most none);
      room = c.next.auto.buf ∙ loop.room;
      ran = λ most none. ran_read most _ (Looked 1 most nodes old before) _ _ _ _ (Looked 1 most nodes old after) datagram up _ _ _ _ _
          (looked-next 1 most nodes old before after read wires_before wires_after none_yet came_to _ _ (one most none) both)
          (loop.ran most none) c.in-Packet.ensures.1
          (Forwards-apart most nodes 1 (read ∷ []) wires_before wires_after c.loop-turn.totals none_yet came_to _ c.none-came_to.ensures
          both (forwards most none));
    }

pub returns-in-End-clause-proxies : goal.returns-in-End-clause-proxies
returns-in-End-clause-proxies g c most none =
    let loop = c.loop-turn.invariant in
    let known = Looked 1 most c.args.ring.now (pass_seen c.args.own.now) (pass_seen c.loop-turn.own) in
    out_looked most _ _ _ _
    (ran_out most _ known _ _ _ _ _ _ End c.loop-turn.totals c.proxied.result c.proxied.ensures.ended c.proxied.ensures.totals (loop.ran most none) (length-map _ _ ∙ c.requires.wires) (same_faults _ _ c.in-End.ensures.0)
    (ends_spent most _ known _ _ _ _ _ _ _ (loop.ran most none) c.in-End.ensures.0 c.in-End.ensures.1 (omega arith)))

pub returns-in-Failed-clause-proxies : goal.returns-in-Failed-clause-proxies
returns-in-Failed-clause-proxies g c most none =
    let loop = c.loop-turn.invariant in
    let known = Looked 1 most c.args.ring.now (pass_seen c.args.own.now) (pass_seen c.loop-turn.own) in
    out_looked most _ _ _ _
    (ran_out most _ known _ _ _ _ _ _ Failed c.loop-turn.totals c.proxied-in-Failed.result c.proxied-in-Failed.ensures.ended c.proxied-in-Failed.ensures.totals (loop.ran most none) (length-map _ _ ∙ c.requires.wires) c.in-Failed.ensures.same
    (ends_failed most _ known _ _ _ _ _ _ _ (loop.ran most none) c.in-Failed.ensures (omega arith)))

pub returns-clause-proxies : goal.returns-clause-proxies
returns-clause-proxies g c most none =
    let loop = c.loop-turn.invariant in
    let known = Looked 1 most c.args.ring.now (pass_seen c.args.own.now) (pass_seen c.loop-turn.own) in
    out_looked most _ _ _ _
    (ran_out most _ known _ _ _ _ _ _ (Worn (2 ^ 62)) c.loop-turn.totals c.proxied-2.result c.proxied-2.ensures.ended c.proxied-2.ensures.totals (loop.ran most none) (length-map _ _ ∙ c.requires.wires) refl
    (refl, omega arith, (loop.ran most none).faults))

pub loop-turn-preserved-in-Idle : goal.loop-turn-preserved-in-Idle
loop-turn-preserved-in-Idle g c =
    let loop = c.loop-turn.invariant in
    record {
      ring = loop.ring;
      pass = loop.pass;
      seat = loop.seat;
      wires = loop.wires;
      waiting = loop.waiting;
      none = loop.none;
      room = c.next.auto.buf ∙ loop.room;
      ran = λ most none. ran_idle most _ (Looked 1 most c.args.ring.now (pass_seen c.args.own.now)
          (pass_seen c.loop-turn.own)) _ _ _ _ _ _ _ (loop.ran most none) c.in-Idle.ensures;
    }
