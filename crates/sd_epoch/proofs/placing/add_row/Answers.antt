use Rattle.std.proofs.Common.{◌≡◌, ℕ, ◌<◌, List, length, set, Option, Some, refl, sym, ap, subst, ◌∙◌, arith}
use Rattle.std.proofs.lemmas.List.{set-set}
use Rattle.sd_rows.specs.Rows.{row_at, reset}
use Rattle.sd_rows.specs.declared.row.Row.{Row}
use Rattle.sd_epoch.specs.Places.{AreRows, StayAt}
use Rattle.sd_epoch.proofs.PlaceLemmas.{written, unwritten, add_rows, add_stays}
use Rattle.sd_epoch.proofs.CountLemmas.{count_below}
use Rattle.sd_epoch.proofs.TurnLemmas.{absent_place}
use Rattle.sd_epoch.proofs.placing.add_row.Goals as goal

pub push-requires-clause-absent : goal.push-requires-clause-absent
push-requires-clause-absent c = absent_place c.args.rows.now.rows c.args.order.now.places.items c.add-place.result c.requires.rows.live c.add-place.ensures.empty

pub add-place-requires-clause-room : goal.add-place-requires-clause-room
add-place-requires-clause-room c = omega (arith, count_below c.args.rows.now.rows c.args.order.now.places.items c.requires.rows.all, c.args.order.now.places.ok.0)

-- the row that is written in the end, with its base and swaps
rows_are : (rows mid new : List (Option Row)) (at : ℕ) (first row : Row) → at < length rows → mid ≡ set rows at (Some first) → new ≡ set mid at (reset (row_at mid at) row.base row.swaps)
    → first.kind ≡ row.kind → first.key ≡ row.key → new ≡ set rows at (Some row)
rows_are rows mid new at first row within m n kind key =
    n ∙ ap (λ (xs : List (Option Row)). set xs at (reset (row_at xs at) row.base row.swaps)) m
    ∙ ap (λ (o : Option Row). set (set rows at (Some first)) at (reset o row.base row.swaps)) (written rows at first within)
    ∙ set-set rows at (Some first) (Some (record first { base = row.base; swaps = row.swaps }))
    ∙ rw (kind, key) refl

pub returns-clause-row : goal.returns-clause-row
returns-clause-row c =
    let row : Row = record { kind = c.args.kind; key = c.args.key.now; base = c.args.base; swaps = c.args.swaps } in
    let at = c.add-place.result in
    let are = c.set_tally.ensures.rows ∙ rows_are c.args.rows.now.rows c.add-place.new.self.rows c.set.new.self.rows at _ row c.add-place.ensures.within c.add-place.ensures.rows c.set.ensures.rows refl refl in
    ap (λ (xs : List (Option Row)). row_at xs at) are ∙ written c.args.rows.now.rows at row c.add-place.ensures.within

pub returns-clause-rows : goal.returns-clause-rows
returns-clause-rows c =
    let row : Row = record { kind = c.args.kind; key = c.args.key.now; base = c.args.base; swaps = c.args.swaps } in
    let at = c.add-place.result in
    let are = c.set_tally.ensures.rows ∙ rows_are c.args.rows.now.rows c.add-place.new.self.rows c.set.new.self.rows at _ row c.add-place.ensures.within c.add-place.ensures.rows c.set.ensures.rows refl refl in
    subst (λ (xs : List (Option Row)). AreRows xs c.push.new.self.places.items) (sym are)
    (subst (AreRows (set c.args.rows.now.rows at (Some row))) (sym c.push.ensures.places)
    (add_rows c.args.rows.now.rows at row c.add-place.ensures.within c.add-place.ensures.empty c.requires.absent c.args.order.now.places.items c.requires.rows))

pub returns-clause-stay : goal.returns-clause-stay
returns-clause-stay c =
    let row : Row = record { kind = c.args.kind; key = c.args.key.now; base = c.args.base; swaps = c.args.swaps } in
    let at = c.add-place.result in
    let are = c.set_tally.ensures.rows ∙ rows_are c.args.rows.now.rows c.add-place.new.self.rows c.set.new.self.rows at _ row c.add-place.ensures.within c.add-place.ensures.rows c.set.ensures.rows refl refl in
    subst (StayAt c.args.rows.now.rows) (sym are) (add_stays c.args.rows.now.rows at row c.add-place.ensures.within c.add-place.ensures.empty c.requires.absent)

pub returns-clause-others : goal.returns-clause-others
returns-clause-others c p ne =
    let row : Row = record { kind = c.args.kind; key = c.args.key.now; base = c.args.base; swaps = c.args.swaps } in
    let at = c.add-place.result in
    let within = c.add-place.ensures.within in
    let are = c.set_tally.ensures.rows ∙ rows_are c.args.rows.now.rows c.add-place.new.self.rows c.set.new.self.rows at _ row within c.add-place.ensures.rows c.set.ensures.rows refl refl in
    ap (λ (xs : List (Option Row)). row_at xs p) are ∙ unwritten c.args.rows.now.rows at row within p ne
