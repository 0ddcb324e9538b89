use Rattle.std.proofs.Common.{◌≡◌, ℕ, true, List, length, sym, ap, subst, ◌∙◌, arith}
use Rattle.sd_model_shard.specs.Rows.{Summary}
use Rattle.sd_epoch.specs.Members.{member_places}
use Rattle.sd_epoch.specs.Places.{AllLive}
use Rattle.sd_epoch.specs.Since.{since_at}
use Rattle.sd_epoch.specs.Table.{Listing, freshened}
use Rattle.sd_epoch.specs.TableInside.{since_in}
use Rattle.sd_epoch.specs.Values.{value_places}
use Rattle.sd_epoch.specs.declared.members.SetMember.{SetMember}
use Rattle.sd_epoch.specs.declared.values.TimerValue.{TimerValue}
use Rattle.sd_epoch.proofs.FreshLemmas.{all_fresh, fresh_since, fresh_samples, freshened_are}
use Rattle.sd_epoch.proofs.SumLemmas.{none_reported}
use Rattle.sd_epoch.proofs.table.Table.clear_samples.Goals as goal

pub invariant_of-self : goal.invariant_of-self
invariant_of-self c =
    let t = c.self.inside in
    let w = c.self.invariant in
    let tallies = c.clear_tallies.new.rows.tallies in
    let values = c.clear.new.self in
    let members = c.clear-2.new.self in
    let since : ℕ → Summary = since_at tallies values.items.items members.items.items in
    let none = all_fresh t.rows.rows tallies values.items.items members.items.items c.clear.ensures.items c.clear-2.ensures.items c.clear_tallies.ensures.tallies in
    let reported_now : c.clear_tallies.new.rows ≡ record { rows = t.rows.rows; tallies = tallies; used = c.clear_tallies.new.rows.used } =
    λ i. record { rows = c.clear_tallies.ensures.rows i; tallies = tallies; used = c.clear_tallies.new.rows.used } in
    rw reported_now record {
      limits = w.limits;
      rows = w.rows;
      ranked = w.ranked;
      ranks = w.ranks;
      since = fresh_since t.rows.rows since none;
      held = sym (none_reported (λ id. true) t.rows.rows since t.order.places.items w.rows (fresh_samples t.rows.rows since none));
      few_held = omega arith;
      values = c.clear.ensures.values;
      owned_values = subst (λ (vs : List TimerValue). AllLive t.rows.rows (value_places vs)) (sym c.clear.ensures.items) tt;
      members = c.clear-2.ensures.members;
      owned_members = subst (λ (ms : List SetMember). AllLive t.rows.rows (member_places ms)) (sym c.clear-2.ensures.items) tt;
      places = w.places;
      tally_places = c.clear_tallies.ensures.tally_places ∙ w.tally_places;
      value_places = c.clear.ensures.places ∙ w.value_places;
      member_places = c.clear-2.ensures.places ∙ w.member_places;
      order = w.order;
      order_room = w.order_room;
      entries = omega (arith, ap length c.clear.ensures.items, ap length c.clear-2.ensures.items);
      value_room = omega (arith, c.clear.ensures.capacity, w.value_room);
      member_room = omega (arith, c.clear-2.ensures.capacity, w.member_room);
    }

pub returns-clause-rows : goal.returns-clause-rows
returns-clause-rows c =
    let t = c.self.inside in
    let tallies = c.clear_tallies.new.rows.tallies in
    let values = c.clear.new.self in
    let members = c.clear-2.new.self in
    let none = all_fresh t.rows.rows tallies values.items.items members.items.items c.clear.ensures.items c.clear-2.ensures.items c.clear_tallies.ensures.tallies in
    rw c.clear_tallies.ensures.rows (freshened_are t.rows.rows (since_in t) (since_at tallies values.items.items members.items.items) t.order.places.items c.self.invariant.rows.live none
    ∙ ap (λ (s : Listing). freshened s.listed) c.self.view_is)
