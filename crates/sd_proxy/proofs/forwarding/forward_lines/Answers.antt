use Rattle.std.proofs.Common.{◌≡◌, ◌∙◌, ℕ, List, [], ◌∷◌, ◌++◌, append-nil, append_assoc, map, refl, sym, ap, subst}
use Rattle.sd_model_settings.specs.Entries.{Node}
use Rattle.sd_model_text.specs.Lines.{lines}
use Rattle.sd_proxy.specs.Forwarding.{TakesLines}
use Rattle.sd_proxy_desk.specs.Views.{totals_view}
use Rattle.sd_proxy.proofs.ForwardLemmas.{TakesLines-next, TakesLines-none}
use Rattle.sd_proxy.proofs.forwarding.forward_lines.Goals as goal

pub loop-line-init : goal.loop-line-init
loop-line-init g c = record {
  ring = refl;
  wires = refl;
  waiting = refl;
  prefix = [];
  all = c.new-lines.ensures;
  takes = TakesLines-none c.args.ring.now c.args.up c.args.waiting.now (map g.L.Faulty.seen c.args.wires.now)
      (totals_view c.args.totals.now);
}

pub loop-line-preserved : goal.loop-line-preserved
loop-line-preserved g c =
    let seen = g.L.Faulty.seen in
    let loop = c.loop-line.invariant in
    let forward = c.forward_line.ensures in
    let line = c.in-Some.line.now in
    record {
      ring = forward.ring ∙ loop.ring;
      wires = forward.wires ∙ loop.wires;
      waiting = forward.waiting ∙ loop.waiting;
      prefix = loop.prefix ++ line ∷ [];
      all = append_assoc loop.prefix (line ∷ []) c.next.new.self
          ∙ ap (λ (ls : List (List ℕ)). loop.prefix ++ ls) (sym c.in-Some.ensures.next) ∙ loop.all;
      takes = TakesLines-next c.args.ring.now c.args.up loop.prefix (line ∷ []) 0 0 _ _ _ _ _ _ _ _ _ loop.takes
          (subst (λ (ns : List Node). TakesLines ns c.args.up (line ∷ []) 0 c.loop-line.waiting c.forward_line.new.waiting
          (map seen c.loop-line.wires) (map seen c.forward_line.new.wires) (totals_view c.loop-line.totals)
          (totals_view c.forward_line.new.totals)) loop.ring forward.takes);
    }

pub returns-clause-takes : goal.returns-clause-takes
returns-clause-takes g c =
    let seen = g.L.Faulty.seen in
    let loop = c.loop-line.invariant in
    let all : loop.prefix ≡ lines c.args.bytes.now = sym (append-nil loop.prefix)
    ∙ ap (λ (ls : List (List ℕ)). loop.prefix ++ ls) (sym (c.in_default.ensures.end refl).0) ∙ loop.all in
    subst (λ (ls : List (List ℕ)). TakesLines c.args.ring.now c.args.up ls 0 c.args.waiting.now c.loop-line.waiting
    (map seen c.args.wires.now) (map seen c.loop-line.wires) (totals_view c.args.totals.now)
    (totals_view c.loop-line.totals)) all loop.takes
