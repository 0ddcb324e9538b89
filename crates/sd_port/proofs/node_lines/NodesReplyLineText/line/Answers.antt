use Rattle.std.proofs.Common.{◌-◌, Some, map, slice_get, sym, ap, ◌∙◌, arith}
use Rattle.std.specs.Option.{option_map}
use Rattle.std.proofs.lemmas.List.{length-map}
use Rattle.std.proofs.lemmas.Option.{slice_get-map}
use Rattle.sd_model_record.specs.Replies.{end_lines}
use Rattle.sd_config.proofs.ConfigPlaces.{got}
use Rattle.sd_plan.specs.Entries.{node_view}
use Rattle.sd_port.proofs.NodeLines.{node_at, end_at}
use Rattle.sd_port.proofs.node_lines.NodesReplyLineText.line.Goals as goal

pub returns-in-Some : goal.returns-in-Some
returns-in-Some c =
    let reply = c.args.self.now in
    let nodes = reply.nodes.now in
    let place = c.args.place in
    let node = c.in-Some.node in
    ap Some c.node_line.ensures
    ∙ sym (node_at reply.up (map node_view nodes) place (node_view node.now)
    (slice_get-map node_view nodes place ∙ ap (option_map node_view) (sym (got nodes place node c.in-Some.ensures.lookup))))

pub returns-in-None : goal.returns-in-None
returns-in-None c =
    let reply = c.args.self.now in
    let nodes = reply.nodes.now in
    let place = c.args.place in
    c.end_line.ensures ∙ ap (λ n. slice_get end_lines (place - n)) (sym (length-map nodes node_view))
    ∙ sym (end_at reply.up (map node_view nodes) place (omega (arith, length-map nodes node_view, c.in-None.ensures.lookup.3)))
