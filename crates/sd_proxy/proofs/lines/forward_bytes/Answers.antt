use Rattle.std.proofs.Common.{◌≡◌, ℕ, eqb-true, length, List, [], ◌++◌, take, drop, map, refl, sym, ap, subst, ◌∙◌, append-nil, append_assoc}
use Rattle.std.specs.Prelude.{flat_map}
use Rattle.std.proofs.lemmas.List.{nil_from_length, take-append-drop, take_rest}
use Rattle.sd_model_settings.specs.Entries.{Node}
use Rattle.sd_tcp.specs.Cutting.{CutsOn}
use Rattle.sd_model_proxy.specs.Relays.{lines_of_cut}
use Rattle.sd_proxy_desk.specs.Views.{totals_view}
use Rattle.sd_proxy.specs.Streaming.{TakesBytes}
use Rattle.sd_proxy.proofs.CutLemmas.{TakesBytes-next, TakesBytes-none, bytes_sent}
use Rattle.sd_proxy.proofs.ForwardLemmas.{sent_none, stream_first}
use Rattle.sd_proxy.proofs.lines.forward_bytes.Goals as goal

pub loop-rest-init : goal.loop-rest-init
loop-rest-init g c = record {
  ring = refl;
  wires = refl;
  waiting = refl;
  none_ready = c.requires.none_ready;
  prefix = [];
  cut = refl;
  takes = TakesBytes-none c.args.ring.now c.args.up _ _ _ _;
}

pub loop-rest-preserved : goal.loop-rest-preserved
loop-rest-preserved g c =
    let seen = g.L.Faulty.seen in
    let loop = c.loop-rest.invariant in
    let line = c.take_line-len.ensures in
    let rest = c.loop-rest.rest.now in
    let n = c.take_line-len.result in
    record {
      ring = line.ring ∙ loop.ring;
      wires = line.wires ∙ loop.wires;
      waiting = line.waiting ∙ loop.waiting;
      none_ready = line.none_ready;
      prefix = loop.prefix ++ take n rest;
      cut = loop.cut ∙ ap (λ (bytes : List ℕ). loop.prefix ++ bytes) (sym (take-append-drop n rest))
          ∙ sym (append_assoc loop.prefix (take n rest) (drop n rest))
          ∙ ap (λ (bytes : List ℕ). (loop.prefix ++ take n rest) ++ bytes) (sym (take_rest rest n));
      takes = TakesBytes-next c.args.ring.now c.args.up _ _ _ _ _ _ _ _ _ _ _ _ _ _ loop.takes
          (subst (λ (ns : List Node). TakesBytes ns c.args.up
          (take n rest) c.loop-rest.cutter c.take_line-len.new.cutter c.loop-rest.waiting c.take_line-len.new.waiting
          (map seen c.loop-rest.wires) (map seen c.take_line-len.new.wires) (totals_view c.loop-rest.totals)
          (totals_view c.take_line-len.new.totals)) loop.ring line.takes);
    }

pub returns-clause-none : goal.returns-clause-none
returns-clause-none g c most none =
    let nodes = c.args.ring.now in
    let loop = c.loop-rest.invariant in
    let first = map g.L.Faulty.seen c.args.wires.now in
    let before = totals_view c.args.totals.now in
    let cuts = loop.takes.cuts in
    sent_none most nodes c.args.up 0 _ (flat_map lines_of_cut cuts) _ _ _ _ _
    (c.send_waiting.ensures.sends most 0 _ nodes c.args.up (flat_map lines_of_cut cuts) first before (sym c.requires.wires ∙ sym loop.wires)
    (loop.takes.takes.on most 0 0 [] first before (stream_first most nodes c.args.up c.args.waiting.now first c.args.totals.now none)))

pub returns-clause-sends : goal.returns-clause-sends
returns-clause-sends g c most none =
    let nodes = c.args.ring.now in
    let loop = c.loop-rest.invariant in
    let first = map g.L.Faulty.seen c.args.wires.now in
    let before = totals_view c.args.totals.now in
    let cuts = loop.takes.cuts in
    let rest = c.loop-rest.rest.now in
    let over : rest ≡ [] = nil_from_length rest (eqb-true (length rest) 0 (sym c.is_empty.ensures ∙ c.loop-rest-test.false)) in
    let whole : loop.prefix ≡ c.args.bytes.now = sym (append-nil loop.prefix) ∙ ap (λ (bytes : List ℕ). loop.prefix ++ bytes) (sym over)
    ∙ sym loop.cut in
    bytes_sent most nodes c.args.up c.args.bytes.now _ _ _ _ _ _ _ cuts
    (subst (λ (bytes : List ℕ). CutsOn cuts bytes c.args.cutter.now c.loop-rest.cutter) whole loop.takes.cut)
    (c.send_waiting.ensures.sends most 0 _ nodes c.args.up (flat_map lines_of_cut cuts) first before (sym c.requires.wires ∙ sym loop.wires)
    (loop.takes.takes.on most 0 0 [] first before (stream_first most nodes c.args.up c.args.waiting.now first c.args.totals.now none)))
