use Rattle.std.proofs.Common.{◌≡◌, true, List, None, Option, sym, ap, subst, length, ◌∙◌, arith}
use Rattle.std.proofs.lemmas.List.{length-set}
use Rattle.sd_rows.specs.Rows.{row_at}
use Rattle.sd_rows.specs.declared.row.Row.{Row}
use Rattle.sd_epoch.specs.Members.{member_places}
use Rattle.sd_epoch.specs.Places.{AllLive, AreSince}
use Rattle.sd_epoch.specs.Table.{Listing}
use Rattle.sd_epoch.specs.TableInside.{since_in}
use Rattle.sd_epoch.specs.Values.{value_places}
use Rattle.sd_epoch.specs.declared.members.SetMember.{SetMember}
use Rattle.sd_epoch.specs.declared.values.TimerValue.{TimerValue}
use Rattle.sd_epoch.proofs.FreshLemmas.{no_row_samples, no_values, no_members, since_emptied, still_live}
use Rattle.sd_epoch.proofs.SumLemmas.{none_reported}
use Rattle.sd_epoch.proofs.TurnLemmas.{has_places}
use Rattle.sd_epoch.proofs.table.Table.drop_place.Goals as goal

pub invariant_of-self : goal.invariant_of-self
invariant_of-self c =
    let t = c.self.inside in
    let w = c.self.invariant in
    let rows = c.empty_at.new.rows.rows in
    let order = c.empty_at.new.order.places.items in
    let are = c.empty_at.ensures.places in
    let none = ap (λ (s : Listing). s.held) c.self.view_is ∙ c.requires.no_samples in
    let reported_now : c.empty_at.new.rows ≡ record { rows = rows; tallies = t.rows.tallies; used = c.empty_at.new.rows.used } =
    λ i. record { rows = rows; tallies = c.empty_at.ensures.tallies i; used = c.empty_at.new.rows.used } in
    rw reported_now record {
      limits = w.limits;
      rows = c.empty_at.ensures.rows;
      ranked = c.empty_at.ensures.ranked;
      ranks = c.empty_at.ensures.ranks ∙ w.ranks;
      since = subst (λ (xs : List (Option Row)). AreSince xs (since_in t)) (sym are) (since_emptied t.rows.rows c.args.at (since_in t) w.since);
      held = none ∙ sym (none_reported (λ id. true) rows (since_in t) order c.empty_at.ensures.rows (λ p l. no_row_samples t w none p (still_live t.rows.rows c.args.at p (λ gone. l (ap (λ (xs : List (Option Row)). row_at xs p) are ∙ gone)))));
      few_held = w.few_held;
      values = w.values;
      owned_values = subst (λ (vs : List TimerValue). AllLive rows (value_places vs)) (sym (no_values t w none)) tt;
      members = w.members;
      owned_members = subst (λ (ms : List SetMember). AllLive rows (member_places ms)) (sym (no_members t w none)) tt;
      places = ap length are ∙ length-set t.rows.rows c.args.at None ∙ w.places;
      tally_places = w.tally_places;
      value_places = w.value_places;
      member_places = w.member_places;
      order = omega (arith, c.empty_at.ensures.few, w.order);
      order_room = omega (arith, c.empty_at.ensures.capacity, w.order_room);
      entries = w.entries;
      value_room = w.value_room;
      member_room = w.member_room;
    }

pub returns-clause-listing : goal.returns-clause-listing
returns-clause-listing c = has_places _ (invariant_of-self c)

pub returns-clause-entries : goal.returns-clause-entries
returns-clause-entries c =
    let t = c.self.inside in
    let w = c.self.invariant in
    let none = ap (λ (s : Listing). s.held) c.self.view_is ∙ c.requires.no_samples in
    omega (arith, ap length (no_values t w none), ap length (no_members t w none))
