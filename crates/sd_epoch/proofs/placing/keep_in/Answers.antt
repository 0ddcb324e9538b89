use Rattle.std.proofs.Common.{◌≡◌, List, set, Option, Some, None, not, sym, ap, subst, ◌∙◌, arith}
use Rattle.sd_rows.specs.Rows.{row_at, row_seen, reset, StandsNowhereElse}
use Rattle.sd_rows.specs.declared.row.Row.{Row}
use Rattle.sd_rows.proofs.IndexLemmas.{some_of, taken_count-lt}
use Rattle.sd_epoch.specs.Places.{AreRows}
use Rattle.sd_epoch.proofs.PlaceLemmas.{add_rows}
use Rattle.sd_epoch.proofs.TurnLemmas.{absent_place, kept_are, kept_over, kept_new, order_count, empty_by, taken_by}
use Rattle.sd_epoch.proofs.placing.keep_in.Goals as goal
use Rattle.sd_epoch.proofs.placing.keep_in.Goals.{then-was_empty, else-was_empty}

pub push-requires-clause-room : goal.push-requires-clause-room
push-requires-clause-room g c =
    let rows = c.args.rows.now.rows in
    let empty : row_at rows c.args.at ≡ None = empty_by _ _ c.row.result (c.is_none-was_empty.ensures ∙ ap not c.if-was_empty.true) c.row.ensures in
    omega (arith, taken_count-lt rows c.args.at c.requires.within empty, order_count rows c.args.order.now.places.items c.requires.rows, c.args.order.now.places.ok.0)

pub push-requires-clause-absent : goal.push-requires-clause-absent
push-requires-clause-absent g c =
    absent_place c.args.rows.now.rows c.args.order.now.places.items c.args.at c.requires.rows.live
    (empty_by _ _ c.row.result (c.is_none-was_empty.ensures ∙ ap not c.if-was_empty.true) c.row.ensures)

pub returns-clause-places : goal.returns-clause-places
returns-clause-places g c =
    c.set_tally.ensures.rows ∙ kept_are c.args.rows.now.rows c.copy_row.new.self.rows c.set.new.self.rows (row_at c.args.from.now.rows c.args.at) c.args.at c.args.base c.args.swaps c.requires.within c.copy_row.ensures.rows c.set.ensures.rows

pub returns-clause-rows : goal.returns-clause-rows
returns-clause-rows g c =
    let rows = c.args.rows.now.rows in
    let at = c.args.at in
    let within = c.requires.within in
    let order = c.args.order.now.places.items in
    let there = some_of (row_at c.args.from.now.rows at) c.requires.live in
    let row : Row = record there.0 { base = c.args.base; swaps = c.args.swaps } in
    let are : c.set_tally.new.self.rows ≡ set rows at (Some row) =
    c.set_tally.ensures.rows ∙ kept_are rows c.copy_row.new.self.rows c.set.new.self.rows (row_at c.args.from.now.rows at) at c.args.base c.args.swaps within c.copy_row.ensures.rows c.set.ensures.rows
    ∙ ap (λ (o : Option Row). set rows at (reset o c.args.base c.args.swaps)) there.1 in
    let nowhere : StandsNowhereElse (Some row) at rows = subst (λ (o : Option Row). StandsNowhereElse o at rows) there.1 c.requires.apart in
    subst (λ (xs : List (Option Row)). AreRows xs c.if-was_empty.order.places.items) (sym are)
    (elim c.if-was_empty.branch [
      | then-was_empty w ↦
          let empty : row_at rows at ≡ None = empty_by _ _ c.row.result (c.is_none-was_empty.ensures ∙ ap not w.if-was_empty.true) c.row.ensures in
          rw w.order-is (subst (AreRows (set rows at (Some row))) (sym w.push.ensures.places)
          (add_rows rows at row within empty (kept_new rows at row within nowhere empty) order c.requires.rows))
      | else-was_empty w ↦
          rw w.order-is
          (kept_over rows at row within nowhere order c.requires.rows (taken_by _ rows at row_seen c.row.result (c.is_none-was_empty.ensures ∙ ap not w.if-was_empty.false) c.row.ensures))
    ])
