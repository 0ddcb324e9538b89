use Rattle.std.proofs.Common.{◌≡◌, ◌∙◌, ◌^◌, ℕ, List, [], ◌∷◌, map, take, refl, subst, arith}
use Rattle.std.proofs.lemmas.List.{length-map}
use Rattle.std.proofs.lemmas.List.Elements.{All-nil}
use Rattle.sd_model_settings.specs.Entries.{Node}
use Rattle.sd_model_proxy.specs.Routes.{Read}
use Rattle.sd_outside.specs.declared.datagrams.Ended.TheVariants.{End, Failed, Worn}
use Rattle.sd_proxy.specs.Forwarding.{Forwards, NoneWaits, datagram_read}
use Rattle.sd_proxy_desk.specs.Views.{totals_view}
use Rattle.sd_proxy.proofs.RelayLemmas.{under, under-next, ran_first, ran_idle, ran_read, ran_out, out_under, ends_failed, ends_spent, same_faults}
use Rattle.sd_proxy.proofs.proxying.proxy.Goals as goal

pub loop-turn-init : goal.loop-turn-init
loop-turn-init g c = record {
  ring = refl;
  wires = refl;
  waiting = refl;
  none = λ most none. none;
  room = refl;
  ran = λ most none. ran_first most _ (under c.args.up) _ _ _ (All-nil (λ (r : Read). r.up ≡ c.args.up)) (g.met.D.Datagrams.turns_fit c.args.packets.now) c.none-totals.ensures;
}

pub loop-turn-preserved : goal.loop-turn-preserved
loop-turn-preserved g c =
    let seen = g.L.Faulty.seen in
    let loop = c.loop-turn.invariant in
    let forward = c.forward_datagram.ensures in
    let datagram = take c.in-Packet.len c.next.new.buf in
    let forwards = λ (most : ℕ) (none : NoneWaits most c.args.waiting.now).
    subst (λ (ns : List Node). Forwards most ns 1 (datagram_read datagram c.args.up ∷ []) (map seen c.loop-turn.wires)
    (map seen c.forward_datagram.new.wires) (totals_view c.loop-turn.totals) (totals_view c.forward_datagram.new.totals))
    loop.ring (forward.forwards most (loop.none most none)) in
    record {
      ring = forward.ring ∙ loop.ring;
      wires = forward.wires ∙ loop.wires;
      waiting = forward.waiting ∙ loop.waiting;
      none = λ most none. forward.none most (loop.none most none);
      room = c.next.auto.buf ∙ loop.room;
      ran = λ most none. ran_read most _ (under c.args.up) _ _ _ _ (under c.args.up) datagram c.args.up _ _ _ _ _ (under-next c.args.up datagram) (loop.ran most none) c.in-Packet.ensures.1 (forwards most none);
    }

pub returns-in-End-clause-proxies : goal.returns-in-End-clause-proxies
returns-in-End-clause-proxies g c most none =
    let loop = c.loop-turn.invariant in
    out_under most _ _ _ _ _ _ _
    (ran_out most _ (under c.args.up) _ _ _ _ _ _ End c.loop-turn.totals c.proxied.result c.proxied.ensures.ended c.proxied.ensures.totals (loop.ran most none) (length-map _ _ ∙ c.requires.wires) (same_faults _ _ c.in-End.ensures.0)
    (ends_spent most _ (under c.args.up) _ _ _ _ _ _ _ (loop.ran most none) c.in-End.ensures.0 c.in-End.ensures.1 (omega arith)))

pub returns-in-Failed-clause-proxies : goal.returns-in-Failed-clause-proxies
returns-in-Failed-clause-proxies g c most none =
    let loop = c.loop-turn.invariant in
    out_under most _ _ _ _ _ _ _
    (ran_out most _ (under c.args.up) _ _ _ _ _ _ Failed c.loop-turn.totals c.proxied-in-Failed.result c.proxied-in-Failed.ensures.ended c.proxied-in-Failed.ensures.totals (loop.ran most none) (length-map _ _ ∙ c.requires.wires) c.in-Failed.ensures.same
    (ends_failed most _ (under c.args.up) _ _ _ _ _ _ _ (loop.ran most none) c.in-Failed.ensures (omega arith)))

pub returns-clause-proxies : goal.returns-clause-proxies
returns-clause-proxies g c most none =
    let loop = c.loop-turn.invariant in
    out_under most _ _ _ _ _ _ _
    (ran_out most _ (under c.args.up) _ _ _ _ _ _ (Worn (2 ^ 62)) c.loop-turn.totals c.proxied-2.result c.proxied-2.ensures.ended c.proxied-2.ensures.totals (loop.ran most none) (length-map _ _ ∙ c.requires.wires) refl
    (refl, omega arith, (loop.ran most none).faults))

pub loop-turn-preserved-in-Idle : goal.loop-turn-preserved-in-Idle
loop-turn-preserved-in-Idle g c =
    let loop = c.loop-turn.invariant in
    record {
      ring = loop.ring;
      wires = loop.wires;
      waiting = loop.waiting;
      none = loop.none;
      room = c.next.auto.buf ∙ loop.room;
      ran = λ most none. ran_idle most _ (under c.args.up) _ _ _ _ _ _ _ (loop.ran most none) c.in-Idle.ensures;
    }
