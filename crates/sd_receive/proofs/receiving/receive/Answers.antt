use Rattle.std.proofs.Common.{sym, ◌∙◌, refl, arith, rules}
use Rattle.std.proofs.lemmas.List.{length-map}
use Rattle.sd_shared_desk.proofs.CountLemmas.{counted_none}
use Rattle.sd_shared_desk.proofs.DeskLemmas.{called_none}
use Rattle.sd_receive.proofs.ReadLemmas.{takes_none, takes_next, EndsSo-after}
use Rattle.sd_receive.proofs.receiving.receive.Goals as goal

pub loop-turn-init : goal.loop-turn-init
loop-turn-init g c = record {
  own = c.requires.own;
  number = refl;
  seat = c.requires.seat;
  who = refl;
  wires = refl;
  room = refl;
  batch = refl;
  takes = rw c.none-tally.ensures (takes_none _ _ _ _ _ _ _ refl (counted_none _) (called_none _ _ tt));
  turns = omega (arith, g.met.D.Datagrams.turns_fit c.args.packets.now);
  place = refl;
  faults = refl;
}

pub returns-in-Some-clause-receives : goal.returns-in-Some-clause-receives
returns-in-Some-clause-receives g c =
    let loop = c.loop-turn.invariant in
    let turn = c.take_turn-turn.ensures in
    let ends = rw c.in-Some.is at turn.ends in
    let took = rw c.in-Some.is at turn.takes in
    let wires = length-map _ _ ∙ loop.wires ∙ sym (length-map _ _) in
    record {
      takes = rw (c.and-tally.ensures, c.counted-taken.ensures) (takes_next _ _ _ _ _ _ _ _ _ _ _ _ _ _ _ _ _ _ _ wires (omega arith) loop.takes took);
      turned = c.loop-turn._turn;
      turns = ends.1 ∙ loop.turns;
      place = turn.place ∙ loop.place;
      ends = EndsSo-after _ _ _ _ _ _ _ ends.0 loop.faults (search rules);
    }

pub loop-turn-preserved : goal.loop-turn-preserved
loop-turn-preserved g c =
    let loop = c.loop-turn.invariant in
    let turn = c.take_turn-turn.ensures in
    let on = rw c.in_default.is at turn.goes_on in
    let took = rw c.in_default.is at turn.takes in
    let wires = length-map _ _ ∙ loop.wires ∙ sym (length-map _ _) in
    record {
      own = turn.own.0;
      number = turn.own.1 ∙ loop.number;
      seat = turn.seat.0;
      who = turn.seat.1 ∙ loop.who;
      wires = turn.wires ∙ loop.wires;
      room = turn.room ∙ loop.room;
      batch = turn.batch ∙ loop.batch;
      takes = rw (c.and-tally.ensures, c.counted-taken.ensures) (takes_next _ _ _ _ _ _ _ _ _ _ _ _ _ _ _ _ _ _ _ wires (omega arith) loop.takes took);
      turns = omega (arith, on.0, loop.turns);
      place = turn.place ∙ loop.place;
      faults = on.1 ∙ loop.faults;
    }
