use Rattle.std.proofs.Common.{◌+◌, length}
use Rattle.std.specs.Prelude.{count_by}
use Rattle.sd_model_proxy.specs.Routes.{over_nodes, is_bad, is_unowned}
use Rattle.sd_model_proxy.proofs.TotalLemmas.{all_fates, counted_fates}
use Rattle.sd_model_proxy.proofs.totals.lines_have_one_fate.Goals as goal
use Rattle.sd_model_proxy.proofs.Short.{long_in, routes_of, lines_sent, lines_not_sent}

pub returns-clause-lines : goal.returns-clause-lines
returns-clause-lines c most nodes packets = all_fates most nodes

pub returns-clause-totals : goal.returns-clause-totals
returns-clause-totals c most nodes r are few =
    let routes = routes_of nodes r.reads in
    counted_fates (length routes + long_in r.reads) (count_by is_bad routes + long_in r.reads) (over_nodes nodes r.batched lines_sent) (count_by is_unowned routes) (over_nodes nodes r.batched lines_not_sent)
    (all_fates most nodes r.reads r.batched are) few
