use Rattle.std.proofs.Common.{is_some, rules}
use Rattle.std.proofs.lemmas.Fn.{filter_same}
use Rattle.sd_rows.specs.Rows.{row_at}
use Rattle.sd_epoch.specs.declared.values.TimerValue.{TimerValue}
use Rattle.sd_epoch.proofs.values.drop_values.Goals as goal

pub returns-clause-values : goal.returns-clause-values
returns-clause-values c = filter_same _ (λ (v : TimerValue). is_some (row_at c.args.rows.now.rows v.place)) _ (λ x b f' k. search rules) _ _ c.retain.ensures.filtered
