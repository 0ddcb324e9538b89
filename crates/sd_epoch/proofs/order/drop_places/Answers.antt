use Rattle.std.proofs.Common.{is_some, rules}
use Rattle.std.proofs.lemmas.Fn.{filter_same}
use Rattle.sd_rows.specs.Rows.{row_at}
use Rattle.sd_epoch.proofs.order.drop_places.Goals as goal

pub returns-clause-places : goal.returns-clause-places
returns-clause-places c = filter_same _ (λ place. is_some (row_at c.args.rows.now.rows place)) _ (λ x b f' k. search rules) _ _ c.retain.ensures.filtered
