use Rattle.std.proofs.Common.{◌∙◌, ◌^◌, List, map, refl, subst, arith, rules}
use Rattle.std.proofs.lemmas.List.{length-map}
use Rattle.sd_model_settings.specs.Entries.{Node}
use Rattle.sd_outside.specs.declared.door.DoorEnd.TheVariants.{End, Worn}
use Rattle.sd_proxy.specs.Looking.{pass_seen}
use Rattle.sd_proxy.specs.Proxying.{relay_seen}
use Rattle.sd_proxy.specs.Streaming.{SendsStreams}
use Rattle.sd_proxy_desk.specs.Views.{totals_view}
use Rattle.sd_proxy.proofs.LineLemmas.{SendsStreams-first, SendsStreams-next, lines_out, one_turn}
use Rattle.sd_proxy.proofs.line_reading.line_part.Goals as goal

pub loop-turn-init : goal.loop-turn-init
loop-turn-init g c = record {
  ring = refl;
  pass = (c.requires.pass, refl);
  seat = (c.requires.seat, refl);
  wires = refl;
  waiting = refl;
  none = λ most none. none;
  room = c.requires.room;
  none_out = c.requires.none_out;
  turns = omega arith;
  sends = λ most none. SendsStreams-first most c.args.ring.now _ _ _ _ c.requires.none_out c.none-totals.ensures;
}

pub loop-turn-preserved : goal.loop-turn-preserved
loop-turn-preserved g c =
    let door = g.E.Faulty.seen in
    let wire = g.L.Faulty.seen in
    let nodes = c.args.ring.now in
    let loop = c.loop-turn.invariant in
    let next = c.serve_next.ensures in
    let own = pass_seen c.loop-turn.own in
    let own_now = pass_seen c.serve_next.new.own in
    let came_to = c.in-Some.came_to in
    let before = map wire c.loop-turn.wires in
    let after = map wire c.serve_next.new.wires in
    record {
      ring = next.ring ∙ loop.ring;
      pass = (next.pass.0, next.pass.1 ∙ loop.pass.1);
      seat = (next.seat.0, next.seat.1 ∙ loop.seat.1);
      wires = next.wires ∙ loop.wires;
      waiting = next.waiting ∙ loop.waiting;
      none = λ most none. next.none most (loop.none most none);
      room = next.room;
      none_out = c.in-Some.ensures.none_out;
      turns = one_turn _ _ _ _ c.in-Some.ensures.turns loop.turns c.requires.turns (search rules);
      sends = λ most none.
          SendsStreams-next most nodes (pass_seen c.args.own.now) own own_now (door c.args.door.now) (door c.loop-turn.door)
          (door c.serve_next.new.door) (map wire c.args.wires.now) before after c.loop-turn.totals came_to _ c.and-totals.ensures
          (loop.sends most none)
          (subst (λ (ns : List Node). SendsStreams most ns own own_now (door c.loop-turn.door) (door c.serve_next.new.door) before after
          (totals_view came_to)) loop.ring (c.in-Some.ensures.sends most (loop.none most none)));
    }

pub returns-in_default-clause-none : goal.returns-in_default-clause-none
returns-in_default-clause-none g c most none = c.serve_next.ensures.none most (c.loop-turn.invariant.none most none)

pub returns-in_default-clause-proxies : goal.returns-in_default-clause-proxies
returns-in_default-clause-proxies g c most none =
    let door = g.E.Faulty.seen in
    let wire = g.L.Faulty.seen in
    let loop = c.loop-turn.invariant in
    let unchanged = c.in_default.ensures.unchanged in
    let ends = c.in_default.ensures.ends in
    let old = relay_seen c.args.own.now (door c.args.door.now) (map wire c.args.wires.now) in
    let new = relay_seen c.loop-turn.own (door c.loop-turn.door) (map wire c.loop-turn.wires) in
    rw (unchanged.0, unchanged.1, ends.0)
    (lines_out most c.args.ring.now old new End c.loop-turn.totals c.lined.result c.lined.ensures.ended c.lined.ensures.totals
    (length-map _ _ ∙ c.requires.wires) ends.1 (loop.sends most none))

pub returns-clause-proxies : goal.returns-clause-proxies
returns-clause-proxies g c most none =
    let door = g.E.Faulty.seen in
    let wire = g.L.Faulty.seen in
    let loop = c.loop-turn.invariant in
    let turns = loop.turns in
    let old = relay_seen c.args.own.now (door c.args.door.now) (map wire c.args.wires.now) in
    let new = relay_seen c.loop-turn.own (door c.loop-turn.door) (map wire c.loop-turn.wires) in
    lines_out most c.args.ring.now old new (Worn (2 ^ 62)) c.loop-turn.totals c.lined-2.result c.lined-2.ensures.ended
    c.lined-2.ensures.totals (length-map _ _ ∙ c.requires.wires) (refl, omega (arith, turns)) (loop.sends most none)
