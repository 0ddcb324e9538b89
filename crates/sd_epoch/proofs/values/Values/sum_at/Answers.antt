use Rattle.std.proofs.Common.{◌≡◌, ℕ, ◌<◌, ◌+ℤ◌, List, [], ◌∷◌, ◌++◌, length, take, Option, sym, ap, subst, ◌∙◌, arith}
use Rattle.std.proofs.lemmas.Int.{ints}
use Rattle.std.proofs.lemmas.List.{length-map}
use Rattle.sd_model_shard.specs.Values.{total}
use Rattle.sd_epoch.specs.Chain.{up_to}
use Rattle.sd_epoch.specs.Since.{values_at, reported_values}
use Rattle.sd_epoch.specs.Values.{value_places, IsTimed}
use Rattle.sd_epoch.specs.declared.values.TimerValue.{TimerValue}
use Rattle.sd_epoch.proofs.ChainLemmas.{IsOfRow, begins, goes_on}
use Rattle.sd_epoch.proofs.ValueLemmas.{total_more, timed_at}
use Rattle.sd_epoch.proofs.values.Values.sum_at.Goals as goal
use Rattle.sd_epoch.proofs.values.Values.sum_at.Goals.{After-index}

pub loop-next-init : goal.loop-next-init
loop-next-init c =
    let at = begins (λ (v : TimerValue). v.place) c.args.self.now.items.items _ _ c.args.place c.last_at-next.result c.requires.values.chain c.last_at-next.ensures in record {
      of_row = at.of_row;
      so_far = omega (arith, ints, ap (λ (es : List TimerValue). total (reported_values es)) at.all);
      few = at.few;
      bound = omega (arith, at.few);
    }

pub with_value-sum-requires-clause-few : goal.with_value-sum-requires-clause-few
with_value-sum-requires-clause-few c = omega (arith, c.loop-next.invariant.bound, c.requires.few)

here : (c : After-index) → c.in-Some.at < length c.args.self.now.items.items
here c =
    let of_row = subst (IsOfRow (value_places c.args.self.now.items.items) c.args.place) c.in-Some.is c.loop-next.invariant.of_row in
    omega (arith, of_row.0, length-map c.args.self.now.items.items (λ (v : TimerValue). v.place))

timed : (c : After-index) → IsTimed c.index.result.now
timed c = subst IsTimed (sym c.index.ensures) (timed_at c.args.self.now.items.items c.in-Some.at c.index.result.now c.requires.values.timed (here c))

pub with_value-sum-requires-clause-low : goal.with_value-sum-requires-clause-low
with_value-sum-requires-clause-low c = (timed (goal.at.with_value-sum-requires-clause-low c).After-index).0

pub with_value-sum-requires-clause-high : goal.with_value-sum-requires-clause-high
with_value-sum-requires-clause-high c = (timed (goal.at.with_value-sum-requires-clause-high c).After-index).1

pub loop-next-preserved : goal.loop-next-preserved
loop-next-preserved c =
    let after = (goal.at.loop-next-preserved c).After-index in
    let inv = c.loop-next.invariant in
    let items = c.args.self.now.items.items in
    let next = c.before-next.result in
    let of_row = subst (IsOfRow (value_places items) c.args.place) c.in-Some.is inv.of_row in
    let on = goes_on (λ (v : TimerValue). v.place) items _ _ c.args.place c.in-Some.at next c.requires.values.chain of_row c.before-next.ensures in
    let own = values_at c.args.place (take (up_to next) items) in
    let v = c.index.result.now in
    let so_far : c.loop-next.sum.0 +ℤ total (reported_values (own ++ v ∷ [])) ≡ total (reported_values (values_at c.args.place items)) =
    ap (λ (x : TimerValue). c.loop-next.sum.0 +ℤ total (reported_values (own ++ x ∷ []))) c.index.ensures
    ∙ ap (λ (es : List TimerValue). c.loop-next.sum.0 +ℤ total (reported_values es)) (sym (on.more v))
    ∙ ap (λ (n : Option ℕ). c.loop-next.sum.0 +ℤ total (reported_values (values_at c.args.place (take (up_to n) items)))) (sym c.in-Some.is)
    ∙ inv.so_far in
    let more = total_more own v in
    let is = timed after in record {
      of_row = on.of_row;
      so_far = omega (arith, ints, so_far, more, c.with_value-sum.ensures);
      few = omega (arith, inv.few, on.few, ap up_to c.in-Some.is);
      bound = omega (arith, ints, inv.bound, on.few, ap up_to c.in-Some.is, c.with_value-sum.ensures, is.0, is.1);
    }

pub returns : goal.returns
returns c =
    let inv = c.loop-next.invariant in
    omega (arith, ints, inv.so_far, ap (λ (n : Option ℕ). total (reported_values (values_at c.args.place (take (up_to n) c.args.self.now.items.items)))) c.in_default.is)
