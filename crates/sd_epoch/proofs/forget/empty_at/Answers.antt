use Rattle.std.proofs.Common.{List, Option, sym, subst, ◌∙◌}
use Rattle.sd_rows.specs.Rows.{row_seen}
use Rattle.sd_rows.specs.declared.row.Row.{Row}
use Rattle.sd_epoch.specs.Places.{AreRows}
use Rattle.sd_epoch.proofs.TurnLemmas.{emptied_rows, taken_by}
use Rattle.sd_epoch.proofs.forget.empty_at.Goals as goal

pub returns-then-is_some-clause-rows : goal.returns-then-is_some-clause-rows
returns-then-is_some-clause-rows c =
    let rows = c.args.rows.now.rows in
    let left = c.remove-then-is_some.new.self.places.items in
    subst (λ (xs : List (Option Row)). AreRows xs left) (sym c.remove.ensures.rows)
    (emptied_rows rows c.args.at c.args.order.now.places.items left c.requires.rows
    (taken_by _ rows c.args.at row_seen c.row.result (sym c.is_some.ensures ∙ c.if-is_some.true) c.row.ensures) c.remove-then-is_some.ensures.without)
