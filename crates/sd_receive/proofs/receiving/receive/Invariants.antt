use Rattle.std.proofs.Common.{◌≡◌, ◌+◌, length, map, min}
use Rattle.sd_model_outside.specs.Outside.{last_count}
use Rattle.sd_desk.specs.Tally.{tally_of}
use Rattle.sd_pool.specs.Pool.{IsSeatOf, own_at, shards_of, who_is}
use Rattle.sd_shared_desk.specs.Shared.{IsSeatOf as IsDeskSeatOf, number_of_seat, part_of}
use Rattle.sd_receive.specs.Received.{HasReceived}
use Rattle.sd_receive.proofs.receiving.receive.Given as goal

abbrev pub invariant-loop-turn : goal.invariant-loop-turn
invariant-loop-turn g l =
    let source = g.D.Faulty.seen in
    let wire = g.L.Faulty.seen in
    record {
      own : IsDeskSeatOf l.shared.desk.now l.own;
      number : number_of_seat l.own ≡ number_of_seat l.initial.own;
      seat : IsSeatOf l.shared.pool.now l.seat;
      who : who_is l.seat ≡ who_is l.initial.seat;
      wires : length l.wires ≡ length l.initial.wires;
      room : length l.buf ≡ length l.initial.buf;
      batch : l.batch ≡ l.initial.batch;
      takes : HasReceived (g.C.Clock.may_say l.shared.clock.now) (shards_of l.shared.pool.now) l._turn (source l.initial.packets) (source l.packets) (map wire l.initial.wires) (map wire l.wires) (own_at l.initial.seat) (own_at l.seat) (part_of l.initial.own) (part_of l.own) (tally_of l.tally) l.taken;
      turns : (source l.packets).turns ≡ min ((source l.initial.packets).turns + l._turn) last_count;
      place : (source l.packets).opened_at ≡ (source l.initial.packets).opened_at;
      faults : (source l.packets).faults ≡ (source l.initial.packets).faults;
    }
