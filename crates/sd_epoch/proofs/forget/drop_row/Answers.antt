use Rattle.std.proofs.Common.{List, Option, ap, ◌∙◌}
use Rattle.sd_rows.specs.Rows.{row_at}
use Rattle.sd_rows.specs.declared.row.Row.{Row}
use Rattle.sd_epoch.proofs.LeftLemmas.{none_gone, one_gone}
use Rattle.sd_epoch.proofs.forget.drop_row.Goals as goal

pub returns-in-Some-clause-left : goal.returns-in-Some-clause-left
returns-in-Some-clause-left c place =
    ap (λ (xs : List (Option Row)). row_at xs place) c.remove.ensures.rows
    ∙ one_gone c.args.rows.now.rows c.in-Some.place c.args.kind c.args.key.now c.in-Some.ensures.apart c.in-Some.ensures.within c.in-Some.ensures.found place

pub returns-in_default-clause-left : goal.returns-in_default-clause-left
returns-in_default-clause-left c = none_gone c.args.rows.now.rows c.args.kind c.args.key.now c.in_default.ensures.found
