-- The lines that were appended are those of the totals.
use Rattle.std.proofs.Common.{◌≡◌, ◌∙◌, [], ◌∷◌, ◌++◌, rules}
use Rattle.std.specs.Prelude.{codes, List}
use Rattle.sd_model_record.specs.Totals.{Total}
use Rattle.sd_model_record.proofs.TotalLemmas.{appended, appended-text}
use Rattle.sd_relay.specs.Sums.{sums_view}
use Rattle.sd_top.proofs.proxy.totals_text.Goals as goal

pub returns : goal.returns
returns c =
    let totals : List Total = sums_view c.args.sums.now ++ (codes "checks", c.args.checked.now.checks) ∷ (codes "probe_faults", c.args.checked.now.probe_faults) ∷ [] in
    let pushed : c.push_total-8.new.line.items ≡ appended [] totals = search rules in
    pushed ∙ appended-text [] totals
