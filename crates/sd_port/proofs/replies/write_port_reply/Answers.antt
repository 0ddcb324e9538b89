use Rattle.std.proofs.Common.{◌≡◌, ◌∙◌, ◌++◌, List, ℕ, Some, map, OnOk, OnErr, sym, ap, subst}
use Rattle.std.specs.List.{concat}
use Rattle.std.proofs.lemmas.List.Folds.{concat-append}
use Rattle.sd_model_outside.specs.Outside.{HasFailedBehind, given}
use Rattle.sd_model_record.specs.Replies.{end_lines}
use Rattle.sd_model_settings.specs.Entries.{Node}
use Rattle.sd_model_live.specs.Port.{node_health_lines, port_reply}
use Rattle.sd_plan.specs.Entries.{node_view}
use Rattle.sd_proxy_desk.specs.Views.{facts_view}
use Rattle.sd_port.specs.Commands.{answer_view}
use Rattle.sd_port.proofs.replies.write_port_reply.Goals as goal
use Rattle.sd_port.proofs.replies.write_port_reply.Given.{Over}

-- the lines that were written are those of the reply
same_text : (g : Over) (c : goal.After-write_lines-in-Nodes g)
    → concat (node_health_lines c.args.basis.now.up 0 (map node_view c.nodes-nodes.result.now) ++ end_lines) ≡ port_reply c.args.basis.now.settings.now (facts_view c.args.basis.now.facts.now) c.args.basis.now.up (answer_view c.args.command)
same_text g c =
    let s = c.args.basis.now.settings.now in
    let facts = facts_view c.args.basis.now.facts.now in
    let up = c.args.basis.now.up in
    concat-append (node_health_lines up 0 (map node_view c.nodes-nodes.result.now)) end_lines
    ∙ ap (λ (nodes : List Node). concat (node_health_lines up 0 nodes) ++ concat end_lines) c.nodes-nodes.ensures.value
    ∙ ap (λ command. port_reply s facts up (answer_view command)) (sym (c.in-Some.is ∙ ap Some c.in-Nodes.is))

pub returns-in-Nodes-clause-ok : goal.returns-in-Nodes-clause-ok
returns-in-Nodes-clause-ok g c =
    subst (λ (text : List ℕ). OnOk c.write_lines-in-Nodes.result (g.O.Faulty.seen c.write_lines-in-Nodes.new.sink ≡ given text (g.O.Faulty.seen c.args.output.now)))
    (same_text g c) c.write_lines-in-Nodes.ensures.ok

pub returns-in-Nodes-clause-failed : goal.returns-in-Nodes-clause-failed
returns-in-Nodes-clause-failed g c =
    subst (λ (text : List ℕ). OnErr c.write_lines-in-Nodes.result (HasFailedBehind text (g.O.Faulty.seen c.args.output.now) (g.O.Faulty.seen c.write_lines-in-Nodes.new.sink)))
    (same_text g c) c.write_lines-in-Nodes.ensures.failed
