use Rattle.std.proofs.Common.{◌≡◌, ◌≢◌, Bool, ℕ, ◌+◌, ◌*◌, ◌^◌, ◌<◌, ◌≤◌, true, false, cond, ◌+ℤ◌, length, set, Some, None, refl, sym, ap, subst, ◌∙◌, arith}
use Rattle.std.proofs.lemmas.List.{get_or-set_same, length-set}
use Rattle.std.specs.Prelude.{unsigned_abs}
use Rattle.std.specs.FinMap.{contains_key, insert, len}
use Rattle.sd_model_text.specs.Lines.{Sample}
use Rattle.sd_model_shard.specs.Rows.{RowId, Summary, row_of, sample_weight, is_listed, row_in, samples_in, touched}
use Rattle.sd_model_shard.proofs.SumLemmas.{samples-touched}
use Rattle.sd_key.specs.Kind.{kind_of}
use Rattle.sd_rows.specs.Rows.{row_at}
use Rattle.sd_rows.specs.declared.row.Row.{Row}
use Rattle.sd_rows.proofs.IndexLemmas.{present_within, some_of}
use Rattle.sd_epoch.specs.Members.{member_places}
use Rattle.sd_epoch.specs.Places.{reported_live, AreSince}
use Rattle.sd_epoch.specs.Since.{gauge_by, no_tally, since_at, without_swaps}
use Rattle.sd_epoch.specs.Table.{Listing, live_of, id_of}
use Rattle.sd_epoch.specs.TableInside.{since_in}
use Rattle.sd_epoch.specs.Values.{value_places}
use Rattle.sd_rows.specs.declared.tally.Tally.{Tally}
use Rattle.sd_epoch.proofs.PlaceLemmas.{AllLive-stays, holds_id, id_here}
use Rattle.sd_epoch.proofs.SampleLemmas.{live_after, here_after, others_after, since_after, kept_few}
use Rattle.sd_epoch.proofs.TableLemmas.{holds_live, find_tells, reported_count}
use Rattle.sd_epoch.proofs.table.Table.sample.Goals as goal
use Rattle.sd_epoch.proofs.table.Table.sample.Goals.{After-touch-place}

pub touch-place-requires-clause-room : goal.touch-place-requires-clause-room
touch-place-requires-clause-room c = λ absent.
    let t = c.self.inside in
    let w = c.self.invariant in
    let self = c.args.self.now in
    let room = subst (λ (s : Sample). contains_key (live_of self) (row_of s) ≡ false → len (live_of self) < self.limits.rows) (sym c.s.view_is) c.requires.row_room in
    let none = sym (find_tells t.rows.rows (since_in t) t.order.places.items c.s.inside.kind c.s.inside.key None w.rows absent ∙ ap (λ (s : Listing). contains_key (live_of s) (id_of c.s.inside.kind c.s.inside.key)) c.self.view_is) in
    omega (arith, room none, reported_count t.rows.rows (since_in t) t.order.places.items w.rows, ap (λ (s : Listing). len (live_of s)) c.self.view_is, ap (λ (s : Listing). s.limits.rows) c.self.view_is, w.places, t.order.places.ok.0)

-- what came to rows before the sample, in the places that they have now
abbrev since_before : After-touch-place → ℕ → Summary
since_before c = since_at c.touch-place.new.rows.tallies c.self.inside.values.items.items c.self.inside.members.items.items

live_here : (c : After-touch-place) → row_at c.touch-place.new.rows.rows c.touch-place.result ≢ None
live_here c = holds_live (row_at c.touch-place.new.rows.rows c.touch-place.result) c.s.inside.kind c.s.inside.key c.touch-place.ensures.row

within : (c : After-touch-place) → c.touch-place.result < length c.touch-place.new.rows.tallies
within c =
    let w = c.self.invariant in
    omega (arith, present_within c.touch-place.new.rows.rows c.touch-place.result (live_here c), c.touch-place.ensures.places, c.touch-place.ensures.tally_places, w.places, w.tally_places)

reported : (c : After-touch-place) → AreSince c.touch-place.new.rows.rows (since_before c)
reported c =
    let t = c.self.inside in
    let w = c.self.invariant in
    c.touch-place.ensures.since t.values.items.items t.members.items.items w.owned_values w.owned_members w.since

-- the row has no more samples than all rows had together
few : (c : After-touch-place) → (since_before c c.touch-place.result).samples ≤ c.self.inside.held
few c =
    let t = c.self.inside in
    let w = c.self.invariant in
    let order = c.touch-place.new.order.places.items in
    let m = reported_live t.rows.rows (since_in t) t.order.places.items in
    let id = holds_id c.touch-place.new.rows.rows c.touch-place.result c.s.inside.kind c.s.inside.key c.touch-place.ensures.row in
    omega (
      arith,
      kept_few c.touch-place.new.rows.rows order (since_before c) c.touch-place.result m (id_of c.s.inside.kind c.s.inside.key) c.touch-place.ensures.rows (live_here c) id
          (c.touch-place.ensures.live t.values.items.items t.members.items.items w.owned_values w.owned_members),
      w.held,
    )

row_there : (c : After-touch-place) → (row : Row) × (row_at c.touch-place.new.rows.rows c.touch-place.result ≡ Some row)
row_there c = some_of (row_at c.touch-place.new.rows.rows c.touch-place.result) (live_here c)

pub tally-requires : goal.tally-requires
tally-requires c =
    let after = (goal.at.tally-requires c).After-touch-place in
    present_within c.touch-place.new.rows.rows c.touch-place.result (live_here after)

pub with_sample-tally-requires-clause-few : goal.with_sample-tally-requires-clause-few
with_sample-tally-requires-clause-few c =
    let after = (goal.at.with_sample-tally-requires-clause-few c).After-touch-place in
    omega (arith, ap (λ (x : Tally). x.samples) c.tally.ensures, few after, c.requires.room, ap (λ (s : Listing). s.held) c.self.view_is)

pub with_sample-tally-requires-clause-bound : goal.with_sample-tally-requires-clause-bound
with_sample-tally-requires-clause-bound c =
    let after = (goal.at.with_sample-tally-requires-clause-bound c).After-touch-place in
    let row = row_there after in
    omega (arith, ap (λ (x : Tally). x.samples) c.tally.ensures, ap (λ (x : Tally). unsigned_abs x.weight.0) c.tally.ensures, (reported after c.touch-place.result row.0 row.1).bound)

pub set_tally-requires : goal.set_tally-requires
set_tally-requires c = record { live = live_here (goal.at.set_tally-requires c).After-touch-place }

-- as many entries as there may be, also with one more
few_entries : (listed : Bool) (before after limit : ℕ) → before ≤ limit → after ≡ before + cond listed 1 0 → (listed ≡ true → before < limit) → after ≤ limit
few_entries true before after limit few more room = omega (arith, room refl, more)
few_entries false before after limit few more room = omega (arith, few, more)

pub invariant_of-self : goal.invariant_of-self
invariant_of-self c =
    let after = (goal.at.invariant_of-self c).After-touch-place in
    let t = c.self.inside in
    let w = c.self.invariant in
    let s = c.args.s.now in
    let rows = c.touch-place.new.rows.rows in
    let order = c.touch-place.new.order.places.items in
    let place = c.touch-place.result in
    let tallies = c.touch-place.new.rows.tallies in
    let before : ℕ → Summary = since_at tallies t.values.items.items t.members.items.items in
    let since : ℕ → Summary = since_at (set tallies place c.with_sample-tally.result) c.list.new.values.items.items c.list.new.members.items.items in
    let tally = c.tally.ensures in
    let samples = c.with_sample-tally.ensures.samples ∙ ap (λ (x : Tally). x.samples + 1) tally in
    let gauge = c.with_sample-tally.ensures.gauge ∙ ap (λ (x : Tally). gauge_by s.kind x.gauge.0 s) tally in
    let weight = c.with_sample-tally.ensures.weight ∙ ap (λ (x : Tally). x.weight.0 +ℤ sample_weight s.kind s) tally in
    let m = reported_live t.rows.rows (since_in t) t.order.places.items in
    let same : id_of c.s.inside.kind c.s.inside.key ≡ row_of s = ap row_of c.s.view_is in
    let id = holds_id rows place c.s.inside.kind c.s.inside.key c.touch-place.ensures.row ∙ same in
    let noted : reported_live rows before order ≡ insert m (row_of s) (without_swaps (row_in m (row_of s))) =
    c.touch-place.ensures.live t.values.items.items t.members.items.items w.owned_values w.owned_members ∙ (λ i. insert m (same i) (without_swaps (row_in m (same i)))) in
    let live : reported_live rows since order ≡ touched m s =
    live_after tallies t.values.items.items c.list.new.values.items.items t.members.items.items c.list.new.members.items.items place c.with_sample-tally.result s (within after) samples gauge weight c.list.ensures.values c.list.ensures.members
    rows order m c.touch-place.ensures.rows (live_here after) id noted in
    let row = row_there after in
    let kind : kind_of row.0.kind ≡ s.kind = ap (λ (r : RowId). r.kind) (sym (id_here rows place row.0 row.1) ∙ id) in
    let here = here_after tallies t.values.items.items c.list.new.values.items.items t.members.items.items c.list.new.members.items.items place c.with_sample-tally.result s (within after) samples gauge weight c.list.ensures.values c.list.ensures.members in
    let others = others_after tallies t.values.items.items c.list.new.values.items.items t.members.items.items c.list.new.members.items.items place c.with_sample-tally.result s (within after) samples gauge weight c.list.ensures.values c.list.ensures.members in
    let bound : unsigned_abs (since place).weight ≤ ((before place).samples + 1) * 10 ^ 24 = omega (arith, c.with_sample-tally.ensures.bound, samples, ap (λ (x : Tally). unsigned_abs x.weight.0) (get_or-set_same tallies place c.with_sample-tally.result no_tally (within after))) in
    let reported_now : c.set_tally.new.self ≡ record { rows = rows; tallies = set tallies place c.with_sample-tally.result; used = c.touch-place.new.rows.used } =
    λ i. record { rows = c.set_tally.ensures.rows i; tallies = c.set_tally.ensures.tallies i; used = c.set_tally.ensures.used i } in
    rw reported_now record {
      limits = w.limits;
      rows = c.touch-place.ensures.rows;
      ranked = c.touch-place.ensures.ranked;
      ranks = c.touch-place.ensures.ranks ∙ w.ranks;
      since = since_after rows before since place s row.0 (reported after) row.1 kind here others bound;
      held = omega (arith, w.held, ap samples_in live, samples-touched (λ id. true) m s);
      few_held = omega (arith, c.requires.room, ap (λ (l : Listing). l.held) c.self.view_is);
      values = c.list.ensures.are_values;
      owned_values = c.list.ensures.owned_values rows (live_here after) (AllLive-stays t.rows.rows rows (value_places t.values.items.items) c.touch-place.ensures.stay w.owned_values);
      members = c.list.ensures.are_members;
      owned_members = c.list.ensures.owned_members rows (live_here after) (AllLive-stays t.rows.rows rows (member_places t.members.items.items) c.touch-place.ensures.stay w.owned_members);
      places = c.touch-place.ensures.places ∙ w.places;
      tally_places = length-set tallies place c.with_sample-tally.result ∙ c.touch-place.ensures.tally_places ∙ w.tally_places;
      value_places = c.list.ensures.value_places ∙ w.value_places;
      member_places = c.list.ensures.member_places ∙ w.member_places;
      order = omega (arith, c.touch-place.ensures.few, c.touch-place.ensures.places, w.places);
      order_room = omega (arith, c.touch-place.ensures.capacity, w.order_room);
      entries = few_entries (is_listed s.kind) _ _ _ w.entries c.list.ensures.count (λ h. omega (arith, c.requires.entry_room h, ap (λ (l : Listing). l.entries) c.self.view_is, ap (λ (l : Listing). l.limits.entries) c.self.view_is));
      value_room = omega (arith, c.list.ensures.value_capacity, w.value_room);
      member_room = omega (arith, c.list.ensures.member_capacity, w.member_room);
    }

pub returns-clause-live : goal.returns-clause-live
returns-clause-live c =
    let after = (goal.at.returns-clause-live c).After-touch-place in
    let t = c.self.inside in
    let w = c.self.invariant in
    let s = c.args.s.now in
    let rows = c.touch-place.new.rows.rows in
    let order = c.touch-place.new.order.places.items in
    let place = c.touch-place.result in
    let tallies = c.touch-place.new.rows.tallies in
    let before : ℕ → Summary = since_at tallies t.values.items.items t.members.items.items in
    let since : ℕ → Summary = since_at (set tallies place c.with_sample-tally.result) c.list.new.values.items.items c.list.new.members.items.items in
    let tally = c.tally.ensures in
    let samples = c.with_sample-tally.ensures.samples ∙ ap (λ (x : Tally). x.samples + 1) tally in
    let gauge = c.with_sample-tally.ensures.gauge ∙ ap (λ (x : Tally). gauge_by s.kind x.gauge.0 s) tally in
    let weight = c.with_sample-tally.ensures.weight ∙ ap (λ (x : Tally). x.weight.0 +ℤ sample_weight s.kind s) tally in
    let m = reported_live t.rows.rows (since_in t) t.order.places.items in
    let same : id_of c.s.inside.kind c.s.inside.key ≡ row_of s = ap row_of c.s.view_is in
    let id = holds_id rows place c.s.inside.kind c.s.inside.key c.touch-place.ensures.row ∙ same in
    let noted : reported_live rows before order ≡ insert m (row_of s) (without_swaps (row_in m (row_of s))) =
    c.touch-place.ensures.live t.values.items.items t.members.items.items w.owned_values w.owned_members ∙ (λ i. insert m (same i) (without_swaps (row_in m (same i)))) in
    let live : reported_live rows since order ≡ touched m s =
    live_after tallies t.values.items.items c.list.new.values.items.items t.members.items.items c.list.new.members.items.items place c.with_sample-tally.result s (within after) samples gauge weight c.list.ensures.values c.list.ensures.members
    rows order m c.touch-place.ensures.rows (live_here after) id noted in
    let reported_now : c.set_tally.new.self ≡ record { rows = rows; tallies = set tallies place c.with_sample-tally.result; used = c.touch-place.new.rows.used } =
    λ i. record { rows = c.set_tally.ensures.rows i; tallies = c.set_tally.ensures.tallies i; used = c.set_tally.ensures.used i } in
    rw reported_now (live ∙ ap (λ (l : Listing). touched (live_of l) s) c.self.view_is)
