use Rattle.std.proofs.Common.{◌≡◌, ◌∙◌, [], ◌++◌, rules, ap}
use Rattle.std.specs.List.{concat}
use Rattle.sd_model_record.specs.Replies.{end_lines}
use Rattle.sd_model_record.proofs.TotalLemmas.{appended, appended-text}
use Rattle.sd_proxy_desk.specs.Views.{facts_view}
use Rattle.sd_port.proofs.replies.totals_reply.Goals as goal
use Rattle.sd_model_live.proofs.Short.{totals_so_far}

pub returns : goal.returns
returns c =
    let totals = totals_so_far (facts_view c.args.facts.now) in
    let pushed : c.push_total-8.new.line.items ≡ appended [] totals = search rules in
    let ended : c.try_extend_from_slice.new.self.items ≡ c.push_total-8.new.line.items ++ concat end_lines = search rules in
    ended ∙ ap (λ text. text ++ concat end_lines) (pushed ∙ appended-text [] totals)
