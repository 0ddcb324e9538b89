use Rattle.std.proofs.Common.{◌≡◌, ℕ, List, Option, None, replicate, length, sym, ap, subst, ◌∙◌, arith}
use Rattle.std.proofs.lemmas.List.{length-replicate}
use Rattle.sd_model_shard.specs.Rows.{Summary}
use Rattle.sd_rows.specs.declared.row.Row.{Row}
use Rattle.sd_epoch.specs.Members.{member_places}
use Rattle.sd_epoch.specs.Places.{AreRows, AreSince, AllLive}
use Rattle.sd_epoch.specs.Since.{since_at}
use Rattle.sd_epoch.specs.Values.{value_places}
use Rattle.sd_epoch.specs.declared.members.SetMember.{SetMember}
use Rattle.sd_epoch.specs.declared.values.TimerValue.{TimerValue}
use Rattle.sd_epoch.proofs.TableLemmas.{no_rows, no_since_yet, no_samples_yet}
use Rattle.sd_epoch.proofs.table.Table.clear.Goals as goal

pub invariant_of-self : goal.invariant_of-self
invariant_of-self c =
    let t = c.self.inside in
    let w = c.self.invariant in
    let n = length t.rows.rows in
    let rows = c.clear.new.self.rows in
    let order = c.clear-2.new.self in
    let values = c.clear-3.new.self in
    let members = c.clear-4.new.self in
    let since : ℕ → Summary = since_at c.clear.new.self.tallies values.items.items members.items.items in
    let empty : rows ≡ replicate n None = c.clear.ensures.rows in record {
      limits = w.limits;
      rows = subst (λ (xs : List (Option Row)). AreRows xs order.places.items) (sym empty) (subst (AreRows (replicate n None)) (sym c.clear-2.ensures.places) (no_rows n));
      ranked = c.clear-2.ensures.ranked;
      ranks = c.clear-2.ensures.ranks ∙ w.ranks;
      since = subst (λ (xs : List (Option Row)). AreSince xs since) (sym empty) (no_since_yet n since);
      held = sym (no_samples_yet rows since order.places.items c.clear-2.ensures.places);
      few_held = omega arith;
      values = c.clear-3.ensures.values;
      owned_values = subst (λ (vs : List TimerValue). AllLive rows (value_places vs)) (sym c.clear-3.ensures.items) tt;
      members = c.clear-4.ensures.members;
      owned_members = subst (λ (ms : List SetMember). AllLive rows (member_places ms)) (sym c.clear-4.ensures.items) tt;
      places = ap length empty ∙ length-replicate n None ∙ w.places;
      tally_places = ap length c.clear.ensures.tallies ∙ w.tally_places;
      value_places = c.clear-3.ensures.places ∙ w.value_places;
      member_places = c.clear-4.ensures.places ∙ w.member_places;
      order = omega (arith, c.clear-2.ensures.len);
      order_room = omega (arith, c.clear-2.ensures.capacity, w.order_room);
      entries = omega (arith, ap length c.clear-3.ensures.items, ap length c.clear-4.ensures.items);
      value_room = omega (arith, c.clear-3.ensures.capacity, w.value_room);
      member_room = omega (arith, c.clear-4.ensures.capacity, w.member_room);
    }
