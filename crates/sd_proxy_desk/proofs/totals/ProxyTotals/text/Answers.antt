-- The lines that were appended are those of the totals.
use Rattle.std.proofs.Common.{◌≡◌, ◌∙◌, [], rules}
use Rattle.sd_model_record.proofs.TotalLemmas.{appended, appended-text}
use Rattle.sd_proxy_desk.specs.Views.{totals_view}
use Rattle.sd_proxy_desk.proofs.totals.ProxyTotals.text.Goals as goal

pub returns : goal.returns
returns c =
    let totals = totals_view c.args.self.now in
    let pushed : c.push_total-6.new.line.items ≡ appended [] totals = search rules in
    pushed ∙ appended-text [] totals
