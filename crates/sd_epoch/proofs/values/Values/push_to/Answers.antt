use Rattle.std.proofs.Common.{◌<◌, length, refl, ap, subst, ◌∙◌, arith}
use Rattle.std.proofs.lemmas.List.{nil_from_length, length-map, get_or_read}
use Rattle.sd_epoch.specs.Since.{no_value}
use Rattle.sd_epoch.specs.Values.{value_places}
use Rattle.sd_epoch.specs.declared.values.TimerValue.{TimerValue}
use Rattle.sd_epoch.proofs.ChainLemmas.{IsOfRow, taken_none, taken_more}
use Rattle.sd_epoch.proofs.values.Values.push_to.Goals as goal

pub loop-next-init : goal.loop-next-init
loop-next-init c = record {
  taken = taken_none _ _ _ _ _ _ _ _ c.requires.values.chain (nil_from_length c.args.out.now.items (omega (arith, c.requires.empty, c.args.out.now.ok.0))) c.last_at-next.ensures;
  capacity = refl;
}

pub loop-next-preserved : goal.loop-next-preserved
loop-next-preserved c =
    let items = c.args.self.now.items.items in
    let here = subst (IsOfRow (value_places items) c.args.place) c.in-Some.is c.loop-next.invariant.taken.of_row in
    let within : c.in-Some.at < length items = omega (arith, here.0, length-map items (λ (v : TimerValue). v.place)) in
    let read = ap (λ (v : TimerValue). v.value) (get_or_read items c.in-Some.at c.index.result.now within c.index.ensures no_value) in record {
      taken = taken_more _ _ _ _ _ _ _ _ c.requires.values.chain no_value _ _ _ _ c.loop-next.invariant.taken c.in-Some.is c.before-next.ensures read c.push_reserved.ensures.items;
      capacity = c.push_reserved.ensures.capacity ∙ c.loop-next.invariant.capacity;
    }
