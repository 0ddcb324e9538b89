use Rattle.std.proofs.Common.{◌≡◌, ◌+◌, ℕ, length, map}
use Rattle.std.specs.Prelude.{false}
use Rattle.sd_live.specs.Live.{IsPassOf, publishes}
use Rattle.sd_proxy_desk.specs.Shared.{IsSeatOf, number_of_seat}
use Rattle.sd_proxy_desk.specs.Views.{totals_view}
use Rattle.sd_proxy.specs.Forwarding.{NoneWaits}
use Rattle.sd_proxy.specs.Looking.{pass_seen}
use Rattle.sd_proxy.specs.Streaming.{IsStreamRoom, SendsStreams}
use Rattle.sd_proxy.proofs.line_reading.line_part.Given as goal

abbrev pub invariant-loop-turn : goal.invariant-loop-turn
invariant-loop-turn g l =
    let door = g.E.Faulty.seen in
    let wire = g.L.Faulty.seen in
    record {
      ring : l.ring ≡ l.fn.ring;
      pass : IsPassOf l.hub.cell.now l.own.pass × (publishes l.own.pass ≡ publishes l.fn.own.pass);
      seat : IsSeatOf l.hub.desk.now l.own.seat × (number_of_seat l.own.seat ≡ number_of_seat l.fn.own.seat);
      wires : length l.wires ≡ length l.fn.wires;
      waiting : length l.waiting ≡ length l.fn.waiting;
      none : (most : ℕ) → NoneWaits most l.fn.waiting → NoneWaits most l.waiting;
      room : IsStreamRoom l.room;
      none_out : (door l.door).is_out ≡ false;
      turns : (door l.door).turns ≡ (door l.fn.door).turns + l._turn;
      sends : (most : ℕ) → NoneWaits most l.fn.waiting
          → SendsStreams most l.fn.ring (pass_seen l.fn.own) (pass_seen l.own) (door l.fn.door) (door l.door) (map wire l.fn.wires)
          (map wire l.wires) (totals_view l.totals);
    }
