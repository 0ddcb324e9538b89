use Rattle.std.proofs.Common.{◌∙◌, List, map, refl, ap, subst, rules}
use Rattle.sd_model_settings.specs.Entries.{Node}
use Rattle.sd_tcp.specs.Cutting.{Cutting}
use Rattle.sd_proxy.specs.Looking.{pass_seen}
use Rattle.sd_proxy.specs.Streaming.{SendsRead}
use Rattle.sd_proxy_desk.specs.Views.{totals_view}
use Rattle.sd_proxy.proofs.StreamLemmas.{SoFar-ended, SoFar-next, SoFar-none, SoFar-limit_reached}
use Rattle.sd_proxy.proofs.streaming.forward_stream.Goals as goal

pub loop-read-init : goal.loop-read-init
loop-read-init g c = record {
  ring = refl;
  pass = (c.requires.pass, refl);
  seat = (c.requires.seat, refl);
  wires = refl;
  waiting = refl;
  none = λ most none. none;
  room = c.requires.room;
  none_ready = ap (λ (s : Cutting). s.is_ready) c.reset.ensures;
  so_far = λ most none. rw c.reset.ensures (SoFar-none most c.args.ring.now _ _ _ _ c.none-totals.ensures);
}

pub loop-read-preserved : goal.loop-read-preserved
loop-read-preserved g c =
    let source = g.A.Faulty.seen in
    let wire = g.L.Faulty.seen in
    let nodes = c.args.ring.now in
    let loop = c.loop-read.invariant in
    let read = c.forward_read.ensures in
    let own = pass_seen c.loop-read.own in
    let own_now = pass_seen c.forward_read.new.own in
    let came_to = c.in-Some.came_to in
    let before = map wire c.loop-read.wires in
    let after = map wire c.forward_read.new.wires in
    record {
      ring = read.ring ∙ loop.ring;
      pass = (read.pass.0, read.pass.1 ∙ loop.pass.1);
      seat = (read.seat.0, read.seat.1 ∙ loop.seat.1);
      wires = read.wires ∙ loop.wires;
      waiting = read.waiting ∙ loop.waiting;
      none = λ most none. read.none most (loop.none most none);
      room = read.room;
      none_ready = read.none_ready;
      so_far = λ most none.
          SoFar-next most nodes (pass_seen c.args.own.now) (source c.args.source.now)
          (map wire c.args.wires.now) c.loop-read._read own own_now (source c.loop-read.source)
          (source c.forward_read.new.source) c.loop-read.room.cutter c.forward_read.new.room.cutter
          before after c.loop-read.totals came_to _ c.and-totals.ensures read.none_ready (loop.so_far most none)
          (subst (λ (ns : List Node). SendsRead most ns own own_now (source c.loop-read.source)
          (source c.forward_read.new.source) c.loop-read.room.cutter c.forward_read.new.room.cutter before after
          (totals_view came_to)) loop.ring
          (c.in-Some.ensures.sends most (loop.none most none)));
    }

pub returns-in_default-clause-none : goal.returns-in_default-clause-none
returns-in_default-clause-none g c most none = c.forward_read.ensures.none most (c.loop-read.invariant.none most none)

pub returns-in_default-clause-sends : goal.returns-in_default-clause-sends
returns-in_default-clause-sends g c most none =
    let so_far = c.loop-read.invariant.so_far most none in
    let unchanged = c.in_default.ensures.unchanged in
    rw (unchanged.0, unchanged.1)
    (SoFar-ended most c.args.ring.now (pass_seen c.args.own.now) _ _ _ (pass_seen c.loop-read.own) _ _ _ _ _
    (search rules) c.in_default.ensures.ends so_far)

pub returns-clause-sends : goal.returns-clause-sends
returns-clause-sends g c most none = SoFar-limit_reached most c.args.ring.now (pass_seen c.args.own.now) _ _ _ (pass_seen c.loop-read.own) _ _ _ _
    (search rules) (c.loop-read.invariant.so_far most none)
