use Rattle.std.proofs.Common.{◌≡◌, ℕ, length, map}
use Rattle.std.specs.Prelude.{false}
use Rattle.sd_live.specs.Live.{IsPassOf, publishes}
use Rattle.sd_proxy_desk.specs.Shared.{IsSeatOf, number_of_seat}
use Rattle.sd_proxy_desk.specs.Views.{totals_view}
use Rattle.sd_proxy.specs.Forwarding.{NoneWaits}
use Rattle.sd_proxy.specs.Looking.{pass_seen}
use Rattle.sd_proxy.specs.Streaming.{IsStreamRoom}
use Rattle.sd_proxy.proofs.StreamLemmas.{SoFar}
use Rattle.sd_proxy.proofs.streaming.forward_stream.Given as goal

abbrev pub invariant-loop-read : goal.invariant-loop-read
invariant-loop-read g l =
    let source = g.A.Faulty.seen in
    let wire = g.L.Faulty.seen in
    record {
      ring : l.ring ≡ l.fn.ring;
      pass : IsPassOf l.hub.cell.now l.own.pass × (publishes l.own.pass ≡ publishes l.fn.own.pass);
      seat : IsSeatOf l.hub.desk.now l.own.seat × (number_of_seat l.own.seat ≡ number_of_seat l.fn.own.seat);
      wires : length l.wires ≡ length l.fn.wires;
      waiting : length l.waiting ≡ length l.fn.waiting;
      none : (most : ℕ) → NoneWaits most l.fn.waiting → NoneWaits most l.waiting;
      room : IsStreamRoom l.room;
      none_ready : l.room.cutter.is_ready ≡ false;
      so_far : (most : ℕ) → NoneWaits most l.fn.waiting
          → SoFar most l.fn.ring (pass_seen l.fn.own) (source l.fn.source) (map wire l.fn.wires) l._read (pass_seen l.own)
          (source l.source) l.room.cutter (map wire l.wires) (totals_view l.totals);
    }
