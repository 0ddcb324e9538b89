-- A table of which rows were taken out, and what came to them.
use Rattle.std.proofs.Common.{◌≡◌, ◌≢◌, ℕ, ◌+◌, ◌≤◌, Bool, true, not, List, length, get_or, filter, is_some, Option, None, refl, sym, ap, subst, ◌∙◌, arith}
use Rattle.std.specs.Prelude.{sum_by}
use Rattle.std.specs.FinMap.{retain_keys}
use Rattle.sd_model_shard.specs.Rows as model
use Rattle.sd_model_shard.specs.Rows.{RowId, Summary, is_listed, samples_in, samples_where}
use Rattle.sd_model_shard.proofs.SumLemmas.{samples-parts}
use Rattle.sd_key.specs.Kind.{kind_of}
use Rattle.sd_rows.specs.Rows.{row_at}
use Rattle.sd_rows.specs.declared.row.Row.{Row}
use Rattle.sd_epoch.specs.Forget.{IsClosedUp}
use Rattle.sd_epoch.specs.Members.{member_places}
use Rattle.sd_epoch.specs.Places.{listed_as, kept_as, kept_in, reported_live, AllLive, AreLeft, AreRows, AreSince, IsSince}
use Rattle.sd_epoch.specs.Since.{no_tally, since_at, reported_values, reported_members}
use Rattle.sd_epoch.specs.TableInside.{since_in, IsTable}
use Rattle.sd_epoch.specs.Table.{most_held}
use Rattle.sd_epoch.specs.Values.{value_places}
use Rattle.sd_epoch.specs.declared.members.Members.{Members}
use Rattle.sd_epoch.specs.declared.members.SetMember.{SetMember}
use Rattle.sd_epoch.specs.declared.order.Order.{Order}
use Rattle.sd_epoch.specs.declared.table.Table.TheInside.{Inside}
use Rattle.sd_rows.specs.declared.tally.Tally.{Tally}
use Rattle.sd_epoch.specs.declared.values.TimerValue.{TimerValue}
use Rattle.sd_epoch.specs.declared.values.Values.{Values}
use Rattle.sd_epoch.proofs.LeftLemmas.{left_rows, left_was, left_stays, all_owned, own_left}
use Rattle.sd_epoch.proofs.OrderLemmas.{ranked_different}
use Rattle.sd_epoch.proofs.PlacedLemmas.{same_reported, same_places}
use Rattle.sd_epoch.proofs.SumLemmas.{samples_reported, entries_are}
use Rattle.sd_epoch.proofs.ReportedLemmas.{reported_left}
use Rattle.sd_model_shard.proofs.Short.{listed_in as samples_listed}

module _
    (t : Inside) (w : IsTable t) (gone : RowId → Bool) (rows : List (Option Row)) (order : Order) (values : Values) (members : Members)
    (are : AreLeft gone t.rows.rows rows) (closed : IsClosedUp rows t.order order t.values values t.members members) where
  abbrev pub since_now : ℕ → Summary
  since_now = since_at t.rows.tallies values.items.items members.items.items

  -- the values and the members whose place has a row, with the links that they had
  abbrev left_values : List TimerValue
  left_values = filter (λ v. is_some (row_at rows v.place)) t.values.items.items

  abbrev left_members : List SetMember
  left_members = filter (λ m. is_some (row_at rows m.place)) t.members.items.items

  -- what came to a row that is left stays
  same_since : (p : ℕ) → row_at rows p ≢ None → since_now p ≡ since_in t p
  same_since p l =
      let tally = get_or t.rows.tallies p no_tally in
      let mine = same_reported (λ (v : TimerValue). v.place) (λ (v : TimerValue). v.value.0) values.items.items left_values closed.value_items p ∙ ap reported_values (own_left (λ (v : TimerValue). v.place) rows p l t.values.items.items) in
      let named = same_reported (λ (m : SetMember). m.place) (λ (m : SetMember). m.member.items) members.items.items left_members closed.member_items p ∙ ap reported_members (own_left (λ (m : SetMember). m.place) rows p l t.members.items.items) in
      λ i. record { samples = tally.samples; weight = tally.weight.0; gauge = tally.gauge.0; values = mine i; members = named i }

  pub rows_now : AreRows rows order.places.items
  rows_now = subst (AreRows rows) (sym closed.order) (left_rows gone t.rows.rows rows are t.order.places.items w.rows)

  pub all_since : AreSince rows since_now
  all_since p row is =
      let l : row_at rows p ≢ None = λ none. absurd (cc (is, none)) in
      let was = left_was gone t.rows.rows rows are p l in
      subst (IsSince (kind_of row.kind) row.base.0) (sym (same_since p l)) (w.since p row (sym was.2 ∙ is))

  pub owned_values_now : AllLive rows (value_places values.items.items)
  owned_values_now = subst (AllLive rows) (sym (same_places (λ (v : TimerValue). v.place) (λ (v : TimerValue). v.value.0) values.items.items left_values closed.value_items)) (all_owned (λ (v : TimerValue). v.place) rows t.values.items.items)

  pub owned_members_now : AllLive rows (member_places members.items.items)
  owned_members_now = subst (AllLive rows) (sym (same_places (λ (m : SetMember). m.place) (λ (m : SetMember). m.member.items) members.items.items left_members closed.member_items)) (all_owned (λ (m : SetMember). m.place) rows t.members.items.items)

  -- the rows that are left, each with what came to it
  pub live_now : reported_live rows since_now order.places.items ≡ retain_keys (reported_live t.rows.rows (since_in t) t.order.places.items) (λ id. not (gone id))
  live_now =
      reported_left gone t.rows.rows rows t.order.places.items order.places.items (since_in t) since_now w.rows rows_now
      (λ p l.
      let was = left_was gone t.rows.rows rows are p l in
      let kept : kept_in rows since_now p ≡ kept_in t.rows.rows (since_in t) p = λ i. kept_as (was.2 i) (same_since p l i) in
      (was.0, was.1, kept, ap (λ (o : Option Row). (listed_as o).0) was.2))
      (left_stays gone t.rows.rows rows are)

  -- those that go and those that are left
  parts : (test : RowId → Bool) → samples_where test (reported_live t.rows.rows (since_in t) t.order.places.items)
      ≡ samples_where test (retain_keys (reported_live t.rows.rows (since_in t) t.order.places.items) gone) + samples_where test (reported_live rows since_now order.places.items)
  parts test =
      let m = reported_live t.rows.rows (since_in t) t.order.places.items in
      samples-parts test m gone ∙ ap (λ (live : model.Rows). samples_where test (retain_keys m gone) + samples_where test live) (sym live_now)

  pub samples_parted : t.held ≡ samples_in (retain_keys (reported_live t.rows.rows (since_in t) t.order.places.items) gone) + samples_in (reported_live rows since_now order.places.items)
  samples_parted = w.held ∙ parts (λ id. true)

  -- the samples of the rows that are left, place by place
  pub left_samples : sum_by (λ p. (get_or t.rows.tallies p no_tally).samples) order.places.items ≡ samples_in (reported_live rows since_now order.places.items)
  left_samples = sym (samples_reported (λ id. true) rows since_now order.places.items rows_now)

  -- the same of what was read, and its bound
  pub held_is : (tallies : List Tally) (places : List ℕ) (held : ℕ) → places ≡ order.places.items → tallies ≡ t.rows.tallies → held ≡ sum_by (λ p. (get_or tallies p no_tally).samples) places
      → held ≡ samples_in (reported_live rows since_now order.places.items)
  held_is tallies places held there same is = is ∙ (λ i. sum_by (λ (p : ℕ). (get_or (same i) p no_tally).samples) (there i)) ∙ left_samples

  pub few_left : (tallies : List Tally) (places : List ℕ) → places ≡ order.places.items → tallies ≡ t.rows.tallies → sum_by (λ p. (get_or tallies p no_tally).samples) places ≤ most_held
  few_left tallies places there same = omega (arith, held_is tallies places (sum_by (λ p. (get_or tallies p no_tally).samples) places) there same refl, samples_parted, w.few_held)

  pub entries_parted : length t.values.items.items + length t.members.items.items
      ≡ samples_listed (retain_keys (reported_live t.rows.rows (since_in t) t.order.places.items) gone) + (length values.items.items + length members.items.items)
  entries_parted =
      let before = entries_are t.rows.rows t.rows.tallies t.values.items.items t.members.items.items t.order.places.items w.rows (ranked_different t.order.places.items t.order.rank.items w.ranked) w.since w.owned_values w.owned_members in
      let after = entries_are rows t.rows.tallies values.items.items members.items.items order.places.items rows_now (ranked_different order.places.items order.rank.items closed.ranked) all_since owned_values_now owned_members_now in
      omega (arith, before, after, parts (λ id. is_listed id.kind))

  -- what is left is a table
  pub table_now : (used held : ℕ) → length rows ≡ length t.rows.rows → held ≡ samples_in (reported_live rows since_now order.places.items)
      → IsTable (record t { rows = record { rows = rows; tallies = t.rows.tallies; used = used }; order = order; values = values; members = members; held = held })
  table_now used held long is = record {
    limits = w.limits;
    rows = rows_now;
    ranked = closed.ranked;
    ranks = closed.ranks ∙ w.ranks;
    since = all_since;
    held = is;
    few_held = omega (arith, is, samples_parted, w.few_held);
    values = closed.values;
    owned_values = owned_values_now;
    members = closed.members;
    owned_members = owned_members_now;
    places = long ∙ w.places;
    tally_places = w.tally_places;
    value_places = closed.value_places ∙ w.value_places;
    member_places = closed.member_places ∙ w.member_places;
    order = omega (arith, closed.order_few, w.order);
    order_room = omega (arith, closed.order_capacity, w.order_room);
    entries = omega (arith, entries_parted, w.entries);
    value_room = omega (arith, closed.value_capacity, w.value_room);
    member_room = omega (arith, closed.member_capacity, w.member_room);
  }
