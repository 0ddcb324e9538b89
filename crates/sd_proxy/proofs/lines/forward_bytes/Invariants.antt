use Rattle.std.proofs.Common.{◌≡◌, ℕ, ◌++◌, List, length, map}
use Rattle.std.specs.Prelude.{false}
use Rattle.sd_proxy_desk.specs.Views.{totals_view}
use Rattle.sd_proxy.specs.Streaming.{TakesBytes}
use Rattle.sd_proxy.proofs.lines.forward_bytes.Given as goal

abbrev pub invariant-loop-rest : goal.invariant-loop-rest
invariant-loop-rest g l =
    let seen = g.L.Faulty.seen in
    record {
      ring : l.ring ≡ l.fn.ring;
      wires : length l.wires ≡ length l.fn.wires;
      waiting : length l.waiting ≡ length l.fn.waiting;
      none_ready : l.cutter.is_ready ≡ false;
      prefix : List ℕ;
      cut : l.bytes ≡ prefix ++ l.rest;
      takes : TakesBytes l.fn.ring l.up prefix l.fn.cutter l.cutter l.fn.waiting l.waiting (map seen l.fn.wires) (map seen l.wires)
          (totals_view l.fn.totals) (totals_view l.totals);
    }

abbrev pub decreases-loop-rest : goal.decreases-loop-rest
decreases-loop-rest g l = length l.rest
