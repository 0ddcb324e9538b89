use Rattle.std.proofs.Common.{List, set, Option, Some, None, ap, ◌∙◌}
use Rattle.std.proofs.lemmas.List.{set-set}
use Rattle.sd_rows.specs.Rows.{row_seen}
use Rattle.sd_rows.specs.declared.row.Row.{Row}
use Rattle.sd_rows.proofs.rows.Rows.copy_in.Goals as goal

pub returns-else-has-clause-rows : goal.returns-else-has-clause-rows
returns-else-has-clause-rows g c =
    let put = λ (l : List (Option Row)). set l c.args.at (Some (row_seen c.args.row.now)) in
    c.fill.ensures.rows ∙ ap put (c.grow.ensures.rows ∙ c.empty.ensures.rows) ∙ set-set c.args.self.now.rows c.args.at None (Some (row_seen c.args.row.now))
