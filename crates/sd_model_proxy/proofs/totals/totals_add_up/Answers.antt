use Rattle.std.proofs.Common.{◌∙◌, map, ap}
use Rattle.std.proofs.lemmas.List.{map-append}
use Rattle.sd_model_record.specs.Totals.{number_in}
use Rattle.sd_model_proxy.specs.Relays.{relay_totals}
use Rattle.sd_model_proxy.specs.Routes.{sums_of_totals}
use Rattle.sd_model_proxy.proofs.TotalLemmas.{sums_of_totals-append, sums_of_totals-one}
use Rattle.sd_model_proxy.proofs.totals.totals_add_up.Goals as goal

pub returns-clause-one : goal.returns-clause-one
returns-clause-one c nodes r = sums_of_totals-one (number_in (relay_totals nodes r))

pub returns-clause-more : goal.returns-clause-more
returns-clause-more c nodes xs ys = ap sums_of_totals (map-append (relay_totals nodes) xs ys) ∙ sums_of_totals-append (map (relay_totals nodes) xs) (map (relay_totals nodes) ys)
