use Rattle.std.proofs.Common.{◌≡◌, ℕ, List, [], Option, None, replicate, length, sym, ap, subst, ◌∙◌, arith}
use Rattle.std.proofs.lemmas.List.{length-replicate}
use Rattle.sd_model_shard.specs.Rows.{Summary}
use Rattle.sd_rows.specs.declared.row.Row.{Row}
use Rattle.sd_epoch.specs.Members.{member_places}
use Rattle.sd_epoch.specs.Places.{AreRows, AreSince, AllLive}
use Rattle.sd_epoch.specs.Since.{no_tally, since_at}
use Rattle.sd_epoch.specs.Values.{value_places}
use Rattle.sd_epoch.specs.declared.members.SetMember.{SetMember}
use Rattle.sd_epoch.specs.declared.values.TimerValue.{TimerValue}
use Rattle.sd_epoch.proofs.TableLemmas.{no_rows, no_since_yet, no_samples_yet}
use Rattle.sd_epoch.proofs.table.Table.open.Goals as goal

pub invariant_of-result : goal.invariant_of-result
invariant_of-result c =
    let n = c.args.limits.rows in
    let rows = c.in_ok-open.field-0.rows in
    let order = c.in_ok-open-2.field-0 in
    let values = c.in_ok-open-3.field-0 in
    let members = c.in_ok-open-4.field-0 in
    let since : ℕ → Summary = since_at c.in_ok-open.field-0.tallies values.items.items members.items.items in
    let empty : rows ≡ replicate n None = c.in_ok-open.ensures.rows in
    let no_order : order.places.items ≡ [] = c.in_ok-open-2.ensures.places in
    let no_values : values.items.items ≡ [] = c.in_ok-open-3.ensures.items in
    let no_members : members.items.items ≡ [] = c.in_ok-open-4.ensures.items in record {
      limits = c.requires;
      rows = subst (λ (xs : List (Option Row)). AreRows xs order.places.items) (sym empty) (subst (AreRows (replicate n None)) (sym no_order) (no_rows n));
      ranked = c.in_ok-open-2.ensures.ranked;
      ranks = c.in_ok-open-2.ensures.ranks;
      since = subst (λ (xs : List (Option Row)). AreSince xs since) (sym empty) (no_since_yet n since);
      held = sym (no_samples_yet rows since order.places.items no_order);
      few_held = omega arith;
      values = c.in_ok-open-3.ensures.values;
      owned_values = subst (λ (vs : List TimerValue). AllLive rows (value_places vs)) (sym no_values) tt;
      members = c.in_ok-open-4.ensures.members;
      owned_members = subst (λ (ms : List SetMember). AllLive rows (member_places ms)) (sym no_members) tt;
      places = ap length empty ∙ length-replicate n None;
      tally_places = ap length c.in_ok-open.ensures.tallies ∙ length-replicate n no_tally;
      value_places = c.in_ok-open-3.ensures.places;
      member_places = c.in_ok-open-4.ensures.places;
      order = omega (arith, c.in_ok-open-2.ensures.len);
      order_room = c.in_ok-open-2.ensures.capacity;
      entries = omega (arith, ap length no_values, ap length no_members);
      value_room = c.in_ok-open-3.ensures.room;
      member_room = c.in_ok-open-4.ensures.room;
    }
