use Rattle.std.proofs.Common.{◌≡◌, ◌++◌, ℕ, List, length, map}
use Rattle.sd_model_text.specs.Lines.{lines}
use Rattle.sd_proxy.specs.Forwarding.{TakesLines}
use Rattle.sd_proxy_desk.specs.Views.{totals_view}
use Rattle.sd_proxy.proofs.forwarding.forward_lines.Given as goal

abbrev pub invariant-loop-line : goal.invariant-loop-line
invariant-loop-line g l =
    let seen = g.L.Faulty.seen in
    record {
      ring : l.ring ≡ l.fn.ring;
      wires : length l.wires ≡ length l.fn.wires;
      waiting : length l.waiting ≡ length l.fn.waiting;
      prefix : List (List ℕ);
      all : prefix ++ l.lines ≡ lines l.bytes;
      takes : TakesLines l.fn.ring l.up prefix 0 l.fn.waiting l.waiting (map seen l.fn.wires) (map seen l.wires) (totals_view l.fn.totals)
          (totals_view l.totals);
    }

abbrev pub decreases-loop-line : goal.decreases-loop-line
decreases-loop-line g l = length l.lines
