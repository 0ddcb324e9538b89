use Rattle.std.proofs.Common.{◌∙◌, ap, Some, None, codes}
use Rattle.sd_plan.specs.Entries.{node_view}
use Rattle.sd_config.proofs.ConfigPlaces.{through, got, got_none}
use Rattle.sd_config.proofs.config_lines.node_at.Goals as goal
use Rattle.sd_model_settings.proofs.Short.{node_line}

pub returns-in-Some : goal.returns-in-Some
returns-in-Some c = ap (λ l. Some l) c.node_line.ensures ∙ through node_view (node_line (codes "nodes")) c.args.nodes.now c.args.place (Some c.in-Some.node.now) (got c.args.nodes.now c.args.place c.in-Some.node c.in-Some.ensures.lookup)

pub returns-in-None : goal.returns-in-None
returns-in-None c = through node_view (node_line (codes "nodes")) c.args.nodes.now c.args.place None (got_none c.args.nodes.now c.args.place c.in-None.ensures.lookup)
