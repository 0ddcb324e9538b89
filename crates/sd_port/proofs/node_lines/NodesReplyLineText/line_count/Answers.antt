use Rattle.std.proofs.Common.{◌+◌, map, sym, ap, ◌∙◌}
use Rattle.std.proofs.lemmas.List.{length-map}
use Rattle.sd_plan.specs.Entries.{node_view}
use Rattle.sd_port.proofs.NodeLines.{lines-count}
use Rattle.sd_port.proofs.node_lines.NodesReplyLineText.line_count.Goals as goal

pub returns : goal.returns
returns c =
    let nodes = c.args.self.now.nodes.now in
    sym (lines-count c.args.self.now.up (map node_view nodes) ∙ ap (λ n. n + 2) (length-map nodes node_view))
