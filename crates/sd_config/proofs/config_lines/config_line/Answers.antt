use Rattle.std.proofs.Common.{◌≡◌, ◌-◌, ◌∙◌, sym, ap, refl, length, map, slice_get, codes, arith}
use Rattle.std.proofs.lemmas.List.{length-map}
use Rattle.sd_config.proofs.ConfigPlaces.{behind_all, in_third, in_fourth}
use Rattle.sd_config.proofs.config_lines.config_line.Goals as goal
use Rattle.sd_model_settings.specs.ConfigText.{back_lines, first_lines}
use Rattle.sd_model_settings.proofs.Short.{histogram_line, repeater_line, node_line}

pub returns : goal.returns
returns c =
    let s = c.args.settings.now in
    let hs = map (histogram_line (codes "histogram")) s.lists.histogram in
    let rs = map (repeater_line (codes "repeater")) s.lists.repeater in
    let ns = map (node_line (codes "nodes")) s.lists.nodes in
    let h : length hs ≡ length c.histogram-histogram.result.now = grind (arith, length-map, ap length c.histogram-histogram.ensures.value) in
    let r : length rs ≡ length c.repeater-repeater.result.now = grind (arith, length-map, ap length c.repeater-repeater.ensures.value) in
    let n : length ns ≡ length c.nodes-nodes.result.now = grind (arith, length-map, ap length c.nodes-nodes.ensures.value) in
    c.back_line.ensures
    ∙ sym (behind_all (first_lines s) hs rs ns (back_lines s) c.args.place
    (length c.histogram-histogram.result.now) (length c.repeater-repeater.result.now) (length c.nodes-nodes.result.now) refl h r n
    (grind arith) (grind arith) (grind arith) (grind arith))

pub returns-then-place-repeater : goal.returns-then-place-repeater
returns-then-place-repeater c =
    let s = c.args.settings.now in
    let hs = map (histogram_line (codes "histogram")) s.lists.histogram in
    let rs = map (repeater_line (codes "repeater")) s.lists.repeater in
    let ns = map (node_line (codes "nodes")) s.lists.nodes in
    let h : length hs ≡ length c.histogram-histogram.result.now = grind (arith, length-map, ap length c.histogram-histogram.ensures.value) in
    let r : length rs ≡ length c.repeater-repeater.result.now = grind (arith, length-map, ap length c.repeater-repeater.ensures.value) in
    c.repeater_at.ensures
    ∙ ap (λ ts. slice_get (map (repeater_line (codes "repeater")) ts) (c.args.place - 22 - length c.histogram-histogram.result.now)) c.repeater-repeater.ensures.value
    ∙ sym (in_third (first_lines s) hs rs ns (back_lines s) c.args.place (length c.histogram-histogram.result.now) refl h (grind arith) (grind arith) (grind (arith, r)))

pub returns-then-place-nodes : goal.returns-then-place-nodes
returns-then-place-nodes c =
    let s = c.args.settings.now in
    let hs = map (histogram_line (codes "histogram")) s.lists.histogram in
    let rs = map (repeater_line (codes "repeater")) s.lists.repeater in
    let ns = map (node_line (codes "nodes")) s.lists.nodes in
    let h : length hs ≡ length c.histogram-histogram.result.now = grind (arith, length-map, ap length c.histogram-histogram.ensures.value) in
    let r : length rs ≡ length c.repeater-repeater.result.now = grind (arith, length-map, ap length c.repeater-repeater.ensures.value) in
    let n : length ns ≡ length c.nodes-nodes.result.now = grind (arith, length-map, ap length c.nodes-nodes.ensures.value) in
    c.node_at.ensures
    ∙ ap (λ ts. slice_get (map (node_line (codes "nodes")) ts) (c.args.place - 22 - length c.histogram-histogram.result.now - length c.repeater-repeater.result.now)) c.nodes-nodes.ensures.value
    ∙ sym (in_fourth (first_lines s) hs rs ns (back_lines s) c.args.place (length c.histogram-histogram.result.now) (length c.repeater-repeater.result.now) refl h r
    (grind arith) (grind arith) (grind arith) (grind (arith, n)))
