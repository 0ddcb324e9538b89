use Rattle.std.proofs.Common.{◌≡◌, ℤ, get_or, Option, sym, ap, subst, ◌∙◌, arith}
use Rattle.std.specs.Prelude.{IfSome}
use Rattle.std.specs.List.{slice_get}
use Rattle.sd_model_shard.specs.Rows.{RowId, Kept, amount_by}
use Rattle.sd_key.specs.Kind.{kind_of}
use Rattle.sd_key.specs.declared.kind.Kind.{Kind}
use Rattle.sd_rows.specs.Rows.{row_seen}
use Rattle.sd_epoch.specs.Since.{no_tally}
use Rattle.sd_epoch.specs.Table.{Listing}
use Rattle.sd_epoch.specs.TableInside.{since_in}
use Rattle.sd_rows.specs.declared.tally.Tally.{Tally}
use Rattle.sd_epoch.proofs.TableLemmas.{IsAt, place_live, place_within, at_place}
use Rattle.sd_epoch.proofs.table.Table.amount_of.Goals as goal
use Rattle.sd_epoch.proofs.table.Table.amount_of.Goals.{After-live_row}

pub live_row-requires : goal.live_row-requires
live_row-requires c = place_live c.self.inside c.self.invariant c.args.self.now c.self.view_is c.args.i c.index-place.result.now c.requires c.index-place.ensures

pub tally-tally-requires : goal.tally-tally-requires
tally-tally-requires c =
    let w = c.self.invariant in
    omega (arith, place_within c.self.inside c.self.invariant c.args.self.now c.self.view_is c.args.i c.index-place.result.now c.requires c.index-place.ensures, w.places)

pub distinct_sum-requires-clause-within : goal.distinct_sum-requires-clause-within
distinct_sum-requires-clause-within c =
    let w = c.self.invariant in
    omega (arith, place_within c.self.inside c.self.invariant c.args.self.now c.self.view_is c.args.i c.index-place.result.now c.requires c.index-place.ensures, w.places, w.member_places)

pub distinct_sum-requires-clause-few : goal.distinct_sum-requires-clause-few
distinct_sum-requires-clause-few c =
    let w = c.self.invariant in
    omega (arith, w.entries, w.limits.few_entries)

pub sum_at-requires-clause-within : goal.sum_at-requires-clause-within
sum_at-requires-clause-within c =
    let w = c.self.invariant in
    omega (arith, place_within c.self.inside c.self.invariant c.args.self.now c.self.view_is c.args.i c.index-place.result.now c.requires c.index-place.ensures, w.places, w.value_places)

pub sum_at-requires-clause-few : goal.sum_at-requires-clause-few
sum_at-requires-clause-few c =
    let w = c.self.invariant in
    omega (arith, w.entries, w.limits.few_entries)

-- the i-th row, and its tally
at : (c : After-live_row) → IsAt c.self.inside c.args.i c.index-place.result.now (row_seen c.live_row.result)
at c = at_place c.self.inside c.self.invariant c.args.self.now c.self.view_is c.args.i c.index-place.result.now c.requires c.index-place.ensures (row_seen c.live_row.result) c.live_row.ensures

tally : (c : After-live_row) → c.tally-tally.result ≡ get_or c.self.inside.rows.tallies c.index-place.result.now no_tally
tally c = c.tally-tally.ensures

-- what its kind makes of what came to it is its amount
reported : (c : After-live_row) (kind : Kind) (amount : ℤ) → c.live_row.result.kind ≡ kind → amount ≡ amount_by (kind_of kind) (since_in c.self.inside c.index-place.result.now)
    → IfSome (slice_get c.args.self.now.listed c.args.i) (λ r. amount ≡ amount_by r.0.kind r.1.since)
reported c kind amount is are =
    let all : amount ≡ amount_by (kind_of c.live_row.result.kind) (since_in c.self.inside c.index-place.result.now) = are ∙ ap (λ (kind : Kind). amount_by (kind_of kind) (since_in c.self.inside c.index-place.result.now)) (sym is) in
    subst (λ (s : Listing). IfSome (slice_get s.listed c.args.i) (λ r. amount ≡ amount_by r.0.kind r.1.since)) c.self.view_is
    (subst (λ (o : Option (RowId × Kept)). IfSome o (λ r. amount ≡ amount_by r.0.kind r.1.since)) (sym (at c).listed) all)

pub returns-in-Counter : goal.returns-in-Counter
returns-in-Counter c = let row = (goal.at.returns-in-Counter c).After-live_row in reported row _ _ c.in-Counter.is (ap (λ (x : Tally). x.weight.0) (tally row))

pub returns-in-Timer : goal.returns-in-Timer
returns-in-Timer c = let row = (goal.at.returns-in-Timer c).After-live_row in reported row _ _ c.in-Timer.is c.sum_at.ensures

pub returns-in-Gauge : goal.returns-in-Gauge
returns-in-Gauge c = let row = (goal.at.returns-in-Gauge c).After-live_row in reported row _ _ c.in-Gauge.is (c.gauge_sum.ensures ∙ ap (λ (x : Tally). x.gauge.0) (tally row))

pub returns-in-Set : goal.returns-in-Set
returns-in-Set c = let row = (goal.at.returns-in-Set c).After-live_row in reported row _ _ c.in-Set.is c.distinct_sum.ensures
