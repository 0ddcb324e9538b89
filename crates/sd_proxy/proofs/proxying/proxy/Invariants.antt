use Rattle.std.proofs.Common.{◌≡◌, ℕ, length, map}
use Rattle.sd_proxy.specs.Forwarding.{NoneWaits}
use Rattle.sd_proxy_desk.specs.Views.{totals_view}
use Rattle.sd_proxy.proofs.RelayLemmas.{Ran, under}
use Rattle.sd_proxy.proofs.proxying.proxy.Given as goal

abbrev pub invariant-loop-turn : goal.invariant-loop-turn
invariant-loop-turn g l =
    let seen = g.L.Faulty.seen in
    record {
      ring : l.ring ≡ l.fn.ring;
      wires : length l.wires ≡ length l.fn.wires;
      waiting : length l.waiting ≡ length l.fn.waiting;
      none : (most : ℕ) → NoneWaits most l.fn.waiting → NoneWaits most l.waiting;
      room : length l.buf ≡ length l.fn.buf;
      ran : (most : ℕ) → NoneWaits most l.fn.waiting → Ran most l.fn.ring (under l.up) (g.D.Faulty.seen l.fn.packets) (g.D.Faulty.seen l.packets) l._turn (map seen l.fn.wires) (map seen l.wires) (totals_view l.totals);
    }
