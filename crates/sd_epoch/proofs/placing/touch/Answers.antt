use Rattle.std.proofs.Common.{◌≡◌, ◌≢◌, ℕ, pos, List, get_or, set, Option, Some, None, refl, sym, ap, subst, ◌∙◌}
use Rattle.std.specs.Prelude.{unwrap_or}
use Rattle.std.specs.FinMap.{get, insert}
use Rattle.sd_model_shard.specs.Rows.{RowId, Kept, Summary, row_in, without_samples}
use Rattle.sd_rows.specs.Rows.{row_at, row_seen, Holds, reset}
use Rattle.sd_rows.specs.declared.row.Row.{Row}
use Rattle.sd_epoch.specs.Places.{kept_as, kept_in, reported_live, AreRows, AreSince, StayAt}
use Rattle.sd_epoch.specs.Since.{no_tally, since_of, since_at, values_at, members_at, without_swaps}
use Rattle.sd_epoch.specs.Table.{id_of}
use Rattle.sd_rows.specs.declared.tally.Tally.{Tally}
use Rattle.sd_epoch.proofs.PlaceLemmas.{written, unwritten, id_here, reset_rows, reset_stays, set_back, holds_id, listed_absent}
use Rattle.sd_epoch.proofs.OwnLemmas.{no_since, since_reset, since_added}
use Rattle.sd_epoch.proofs.ReportedLemmas.{row_reported, reported_none, reported_set, reported_add}
use Rattle.sd_epoch.proofs.placing.touch.Goals as goal
use Rattle.sd_epoch.proofs.placing.touch.Goals.{After-set}

abbrev fresh : Row → Row
fresh row = record row { swaps = 0 }

-- the place has its row again, without swaps
are : (c : After-set) → c.set.new.self.rows ≡ set c.args.rows.now.rows c.in-Some.place (Some (fresh (row_seen c.live_row.result)))
are c = c.set.ensures.rows ∙ ap (λ (o : Option Row). set c.args.rows.now.rows c.in-Some.place (reset o c.live_row.result.base 0)) c.live_row.ensures

there : (c : After-set) → row_at c.set.new.self.rows c.in-Some.place ≡ Some (fresh (row_seen c.live_row.result))
there c =
    ap (λ (xs : List (Option Row)). row_at xs c.in-Some.place) (are c) ∙ written c.args.rows.now.rows c.in-Some.place (fresh (row_seen c.live_row.result)) c.in-Some.ensures.within

pub returns-in-Some-clause-row : goal.returns-in-Some-clause-row
returns-in-Some-clause-row c =
    let Here = Holds c.args.kind c.args.key.now in
    subst Here (sym (there (goal.at.returns-in-Some-clause-row c).After-set)) (subst Here c.live_row.ensures c.in-Some.ensures.found)

pub returns-in-Some-clause-rows : goal.returns-in-Some-clause-rows
returns-in-Some-clause-rows c =
    let order = c.args.order.now.places.items in
    let row = (row_seen c.live_row.result) in
    subst (λ (xs : List (Option Row)). AreRows xs order) (sym (are (goal.at.returns-in-Some-clause-rows c).After-set))
    (reset_rows c.args.rows.now.rows c.in-Some.place row (fresh row) c.in-Some.ensures.within c.live_row.ensures refl refl order c.requires.rows)

pub returns-in-Some-clause-live : goal.returns-in-Some-clause-live
returns-in-Some-clause-live c values members mine named =
    let after = (goal.at.returns-in-Some-clause-live c).After-set in
    let rows = c.args.rows.now.rows in
    let order = c.args.order.now.places.items in
    let at = c.in-Some.place in
    let row = (row_seen c.live_row.result) in
    let is = c.live_row.ensures in
    let within = c.in-Some.ensures.within in
    let id = id_of c.args.kind c.args.key.now in
    let same = holds_id rows at c.args.kind c.args.key.now c.in-Some.ensures.found in
    let since : ℕ → Summary = since_at c.args.rows.now.tallies values members in
    let m = reported_live rows since order in
    let live : row_at rows at ≢ None = λ none. absurd (cc (is, none)) in
    let kept : kept_in (set rows at (Some (fresh row))) since at ≡ without_swaps (row_in m id) =
    ap (λ (o : Option Row). kept_as o (since at)) (written rows at (fresh row) within)
    ∙ sym (ap (λ (o : Option Row). without_swaps (kept_as o (since at))) is)
    ∙ sym (ap without_swaps (row_reported rows order c.requires.rows since at live))
    ∙ ap (λ (i : RowId). without_swaps (row_in m i)) same in
    ap (λ (ts : List Tally). reported_live c.set.new.self.rows (since_at ts values members) order) c.set.ensures.tallies
    ∙ ap (λ (xs : List (Option Row)). reported_live xs since order) (are after)
    ∙ reported_set rows (set rows at (Some (fresh row))) order since since at c.requires.rows (reset_rows rows at row (fresh row) within is refl refl order c.requires.rows)
    (reset_stays rows at row (fresh row) within is refl refl) (set_back rows at row (fresh row) within is) live
    (λ p ne. ap (λ (o : Option Row). kept_as o (since p)) (unwritten rows at (fresh row) within p ne))
    ∙ (λ i. insert m (same i) (kept i))

pub returns-in-Some-clause-since : goal.returns-in-Some-clause-since
returns-in-Some-clause-since c values members mine named reported =
    let after = (goal.at.returns-in-Some-clause-since c).After-set in
    let rows = c.args.rows.now.rows in
    let at = c.in-Some.place in
    let row = (row_seen c.live_row.result) in
    let within = c.in-Some.ensures.within in
    let since : ℕ → Summary = since_at c.args.rows.now.tallies values members in
    subst (λ (ts : List Tally). AreSince c.set.new.self.rows (since_at ts values members)) (sym c.set.ensures.tallies)
    (since_reset rows c.set.new.self.rows at row (fresh row) since reported c.live_row.ensures (there after)
    (λ p ne. ap (λ (xs : List (Option Row)). row_at xs p) (are after) ∙ unwritten rows at (fresh row) within p ne) refl refl)

pub returns-in-Some-clause-stay : goal.returns-in-Some-clause-stay
returns-in-Some-clause-stay c =
    let row = (row_seen c.live_row.result) in
    subst (StayAt c.args.rows.now.rows) (sym (are (goal.at.returns-in-Some-clause-stay c).After-set)) (reset_stays c.args.rows.now.rows c.in-Some.place row (fresh row) c.in-Some.ensures.within c.live_row.ensures refl refl)

pub returns-in-None-clause-live : goal.returns-in-None-clause-live
returns-in-None-clause-live c values members mine named =
    let rows = c.args.rows.now.rows in
    let later = c.add_row.new.rows.rows in
    let order = c.args.order.now.places.items in
    let at = c.add_row.result in
    let row : Row = record { kind = c.args.kind; key = c.args.key.now; base = record { 0 = pos 0 }; swaps = 0 } in
    let id = id_of c.args.kind c.args.key.now in
    let since : ℕ → Summary = since_at c.args.rows.now.tallies values members in
    let since' : ℕ → Summary = since_at c.add_row.new.rows.tallies values members in
    let m = reported_live rows since order in
    let w = c.requires.rows in
    let w' = subst (AreRows later) c.add_row.ensures.order c.add_row.ensures.rows in
    let here : row_at later at ≢ None = λ none. absurd (cc (c.add_row.ensures.row, none)) in
    let none : get m id ≡ None = reported_none rows order w since id (listed_absent rows order c.args.kind c.args.key.now c.in-None.ensures.found w.live) in
    let kept : kept_in later since' at ≡ without_swaps (row_in m id) =
    (λ i. kept_as (c.add_row.ensures.row i) (no_since rows at (get_or c.add_row.new.rows.tallies at no_tally) values members (pos 0) c.add_row.ensures.empty mine named c.add_row.ensures.tally i))
    ∙ sym (ap (λ (o : Option Kept). without_swaps (unwrap_or o (without_samples (pos 0) 0))) none) in
    ap (λ ps. reported_live later since' ps) c.add_row.ensures.order
    ∙ reported_add rows later order since since' at w w' c.add_row.ensures.stay c.add_row.ensures.empty here c.add_row.ensures.others
    (λ p ne. ap (λ (t : Tally). since_of t (values_at p values) (members_at p members)) (c.add_row.ensures.other_tallies p ne))
    ∙ (λ i. insert m (id_here later at row c.add_row.ensures.row i) (kept i))

pub returns-in-None-clause-since : goal.returns-in-None-clause-since
returns-in-None-clause-since c values members mine named reported =
    let rows = c.args.rows.now.rows in
    let at = c.add_row.result in
    let row : Row = record { kind = c.args.kind; key = c.args.key.now; base = record { 0 = pos 0 }; swaps = 0 } in
    since_added rows c.add_row.new.rows.rows at row (since_at c.args.rows.now.tallies values members) (since_at c.add_row.new.rows.tallies values members) reported c.add_row.ensures.row c.add_row.ensures.others
    (λ p ne. ap (λ (t : Tally). since_of t (values_at p values) (members_at p members)) (c.add_row.ensures.other_tallies p ne))
    (no_since rows at (get_or c.add_row.new.rows.tallies at no_tally) values members (pos 0) c.add_row.ensures.empty mine named c.add_row.ensures.tally)
