use Rattle.std.proofs.Common.{◌≡◌, List, All, length, pos, ◌^◌, is_some, sym, ap, subst, ◌∙◌, arith}
use Rattle.std.specs.Prelude.{◌≤ℤ◌}
use Rattle.std.specs.Vec.{with_items}
use Rattle.std.proofs.lemmas.List.{with_items_is}
use Rattle.std.proofs.lemmas.List.Elements.{All-filter}
use Rattle.sd_rows.specs.Rows.{row_at}
use Rattle.sd_epoch.specs.Chain.{IsChain, links_of}
use Rattle.sd_epoch.specs.Places.{AllLive}
use Rattle.sd_epoch.specs.Values.{IsTimed, value_places, values_before}
use Rattle.sd_epoch.specs.declared.values.TimerValue.{TimerValue}
use Rattle.sd_epoch.proofs.LeftLemmas.{all_owned, owned_within}
use Rattle.sd_epoch.proofs.PlacedLemmas.{same_all, same_length}
use Rattle.sd_epoch.proofs.values.Values.retain_live.Goals as goal

pub chain_anew-requires-clause-within : goal.chain_anew-requires-clause-within
chain_anew-requires-clause-within c i d lt =
    let rows = c.args.rows.now.rows in
    let owned = subst (λ (es : List TimerValue). AllLive rows (value_places es)) (sym (c.deref_mut.ensures.value ∙ c.drop_values.ensures.values)) (all_owned (λ (v : TimerValue). v.place) rows c.args.self.now.items.items) in
    omega (arith, owned_within (λ (v : TimerValue). v.place) rows c.deref_mut.result.now owned i d lt, c.requires.places)

pub returns-clause-values : goal.returns-clause-values
returns-clause-values c =
    let kept = c.drop_values.new.values in
    let new = c.chain_anew.new.values in
    let is = c.deref_mut.ensures.value ∙ c.drop_values.ensures.values in
    let timed = subst (All IsTimed) (sym is) (All-filter (λ (v : TimerValue). is_some (row_at c.args.rows.now.rows v.place)) IsTimed c.args.self.now.items.items c.requires.values.timed) in
    let long = same_length (λ (v : TimerValue). v.place) (λ (v : TimerValue). v.value.0) new c.deref_mut.result.now c.chain_anew.ensures.items in
    let back : (with_items kept new).items ≡ new = with_items_is kept new (omega (arith, long, ap length c.deref_mut.ensures.value, kept.ok.0)) in record {
      chain = subst (λ (vs : List TimerValue). IsChain (value_places vs) (links_of c.chain_anew.new.chain.last.items) (values_before vs)) (sym back) c.chain_anew.ensures.chain;
      timed = subst (All IsTimed) (sym back) (same_all (λ (v : TimerValue). v.place) (λ (v : TimerValue). v.value.0) new c.deref_mut.result.now c.chain_anew.ensures.items (λ z. (pos 0 ≤ℤ z) × (z ≤ℤ pos (10 ^ 16))) timed);
    }
