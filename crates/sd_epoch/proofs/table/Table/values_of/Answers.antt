use Rattle.std.proofs.Common.{◌≡◌, ◌==◌, length, Option, ap, sym, subst, ◌∙◌, arith}
use Rattle.std.specs.Prelude.{IfSome}
use Rattle.std.specs.List.{slice_get}
use Rattle.std.proofs.lemmas.List.{length-map}
use Rattle.std.proofs.lemmas.List.Elements.{All-filter}
use Rattle.sd_model_shard.specs.Rows.{RowId, Kept}
use Rattle.sd_rows.specs.Rows.{row_at}
use Rattle.sd_rows.proofs.IndexLemmas.{some_of}
use Rattle.sd_epoch.specs.Scratch.{micros, AreTimerValues}
use Rattle.sd_epoch.specs.Since.{values_at}
use Rattle.sd_epoch.specs.Table.{Listing}
use Rattle.sd_epoch.specs.Values.{IsTimed}
use Rattle.sd_epoch.specs.declared.values.TimerValue.{TimerValue}
use Rattle.sd_epoch.proofs.TableLemmas.{place_live, place_within, at_place, few_own, timed_values, values_same}
use Rattle.sd_epoch.proofs.table.Table.values_of.Goals as goal

pub put_values-requires-clause-room : goal.put_values-requires-clause-room
put_values-requires-clause-room c = omega (arith, c.requires.room, ap (λ (s : Listing). s.entries) c.self.view_is)

pub put_values-requires-clause-within : goal.put_values-requires-clause-within
put_values-requires-clause-within c =
    let w = c.self.invariant in
    omega (arith, place_within c.self.inside c.self.invariant c.args.self.now c.self.view_is c.args.i c.index.result.now c.requires.place c.index.ensures, w.places, w.value_places)

pub returns-clause-values : goal.returns-clause-values
returns-clause-values c =
    let t = c.self.inside in
    let place = c.index.result.now in
    let there = some_of (row_at t.rows.rows place) (place_live c.self.inside c.self.invariant c.args.self.now c.self.view_is c.args.i place c.requires.place c.index.ensures) in
    let at = at_place c.self.inside c.self.invariant c.args.self.now c.self.view_is c.args.i place c.requires.place c.index.ensures there.0 there.1 in
    subst (λ (s : Listing). IfSome (slice_get s.listed c.args.i) (λ row. micros c.put_values.new.self.values ≡ row.1.since.values)) c.self.view_is
    (subst (λ (o : Option (RowId × Kept)). IfSome o (λ row. micros c.put_values.new.self.values ≡ row.1.since.values)) (sym at.listed)
    (ap micros c.put_values.ensures.values ∙ values_same (values_at place t.values.items.items)))

pub returns-clause-range : goal.returns-clause-range
returns-clause-range c =
    let t = c.self.inside in
    let place = c.index.result.now in
    subst AreTimerValues (sym c.put_values.ensures.values)
    (timed_values (values_at place t.values.items.items) (All-filter (λ (v : TimerValue). v.place == place) IsTimed t.values.items.items c.self.invariant.values.timed))

pub returns-clause-few : goal.returns-clause-few
returns-clause-few c =
    let t = c.self.inside in
    let w = c.self.invariant in
    let place = c.index.result.now in
    omega (
      arith,
      ap length c.put_values.ensures.values,
      length-map (values_at place t.values.items.items) (λ (v : TimerValue). v.value),
      few_own (λ (v : TimerValue). v.place) place t.values.items.items,
      w.entries,
      w.limits.few_entries,
    )
