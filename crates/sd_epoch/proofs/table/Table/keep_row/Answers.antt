use Rattle.std.proofs.Common.{◌≡◌, ◌≢◌, ℕ, Bool, true, false, [], ◌∷◌, ◌++◌, get_or, length, Some, None, sym, ap, subst, ◌∙◌, arith}
use Rattle.std.proofs.lemmas.List.{length-map}
use Rattle.std.specs.FinMap.{contains_key, insert}
use Rattle.sd_model_shard.specs.Rows.{RowId, Kept, Summary, samples_in}
use Rattle.sd_rows.specs.Rows.{row_at}
use Rattle.sd_rows.specs.declared.row.Row.{Row}
use Rattle.sd_epoch.specs.Members.{member_places}
use Rattle.sd_epoch.specs.Places.{id_in, kept_as, kept_in, reported_live, AreRows}
use Rattle.sd_epoch.specs.Since.{no_tally, since_of, since_at, values_at, members_at}
use Rattle.sd_epoch.specs.Table.{Listing, live_of, id_of}
use Rattle.sd_epoch.specs.TableInside.{since_in}
use Rattle.sd_epoch.specs.Values.{value_places}
use Rattle.sd_rows.specs.declared.tally.Tally.{Tally}
use Rattle.sd_epoch.proofs.OwnLemmas.{no_since, since_added}
use Rattle.sd_epoch.proofs.PlaceLemmas.{AllLive-stays, id_here}
use Rattle.sd_epoch.proofs.SumLemmas.{added_reported}
use Rattle.sd_epoch.proofs.TableLemmas.{find_tells}
use Rattle.sd_epoch.proofs.ReportedLemmas.{reported_add}
use Rattle.sd_epoch.proofs.table.Table.keep_row.Goals as goal
use Rattle.sd_epoch.proofs.table.Table.keep_row.Goals.{After-add_row}
use Rattle.sd_model_shard.proofs.Short.{no_samples}

both : (b : Bool) → b ≡ true → b ≡ false → ⊥
both true t f = absurd (cc)
both false t f = absurd (cc)

pub add_row-requires-clause-absent : goal.add_row-requires-clause-absent
add_row-requires-clause-absent c p h =
    let t = c.self.inside in
    let id = id_of c.args.kind c.args.key.now in
    both (contains_key (live_of c.args.self.now) id)
    (sym (find_tells t.rows.rows (since_in t) t.order.places.items c.args.kind c.args.key.now (Some p) c.self.invariant.rows h ∙ ap (λ (s : Listing). contains_key (live_of s) id) c.self.view_is)) c.requires.absent

pub add_row-requires-clause-room : goal.add_row-requires-clause-room
add_row-requires-clause-room c =
    let t = c.self.inside in
    omega (arith, c.requires.room, ap (λ (s : Listing). length s.listed) c.self.view_is, ap (λ (s : Listing). s.limits.rows) c.self.view_is, length-map {B = RowId × Kept} t.order.places.items (λ p. (id_in t.rows.rows p, kept_in t.rows.rows (since_in t) p)), t.order.places.ok.0, c.self.invariant.places)

-- what came to rows afterwards
abbrev since_now : After-add_row → ℕ → Summary
since_now c = since_at c.add_row.new.rows.tallies c.self.inside.values.items.items c.self.inside.members.items.items

same : (c : After-add_row) (p : ℕ) → p ≢ c.add_row.result → since_now c p ≡ since_in c.self.inside p
same c p ne =
    let t = c.self.inside in
    ap (λ (x : Tally). since_of x (values_at p t.values.items.items) (members_at p t.members.items.items)) (c.add_row.ensures.other_tallies p ne)

none : (c : After-add_row) → since_now c c.add_row.result ≡ no_samples c.args.base.0
none c =
    let t = c.self.inside in
    no_since t.rows.rows c.add_row.result (get_or c.add_row.new.rows.tallies c.add_row.result no_tally) t.values.items.items t.members.items.items c.args.base.0 c.add_row.ensures.empty
    c.self.invariant.owned_values c.self.invariant.owned_members c.add_row.ensures.tally

rows_now : (c : After-add_row) → AreRows c.add_row.new.rows.rows (c.self.inside.order.places.items ++ c.add_row.result ∷ [])
rows_now c = subst (AreRows c.add_row.new.rows.rows) c.add_row.ensures.order c.add_row.ensures.rows

pub invariant_of-self : goal.invariant_of-self
invariant_of-self c =
    let after = (goal.at.invariant_of-self c).After-add_row in
    let t = c.self.inside in
    let w = c.self.invariant in
    let rows = c.add_row.new.rows.rows in
    let at = c.add_row.result in
    let row : Row = record { kind = c.args.kind; key = c.args.key.now; base = c.args.base; swaps = c.args.swaps } in
    let order = t.order.places.items in
    let stays : (p : ℕ) → row_at t.rows.rows p ≢ None → since_now after p ≡ since_in t p = λ p l. same after p (λ e. l (ap (row_at t.rows.rows) e ∙ c.add_row.ensures.empty)) in record {
      limits = w.limits;
      rows = c.add_row.ensures.rows;
      ranked = c.add_row.ensures.ranked;
      ranks = c.add_row.ensures.ranks ∙ w.ranks;
      since = since_added t.rows.rows rows at row (since_in t) (since_now after) w.since c.add_row.ensures.row c.add_row.ensures.others (same after) (none after);
      held = w.held ∙ sym (added_reported t.rows.rows rows (since_in t) (since_now after) order at w.rows (rows_now after) stays (ap (λ (x : Summary). x.samples) (none after)))
          ∙ sym (ap (λ ps. samples_in (reported_live rows (since_now after) ps)) c.add_row.ensures.order);
      few_held = w.few_held;
      values = w.values;
      owned_values = AllLive-stays t.rows.rows rows (value_places t.values.items.items) c.add_row.ensures.stay w.owned_values;
      members = w.members;
      owned_members = AllLive-stays t.rows.rows rows (member_places t.members.items.items) c.add_row.ensures.stay w.owned_members;
      places = c.add_row.ensures.places ∙ w.places;
      tally_places = c.add_row.ensures.tally_places ∙ w.tally_places;
      value_places = w.value_places;
      member_places = w.member_places;
      order = omega (arith, c.requires.room, ap (λ (s : Listing). length s.listed) c.self.view_is, ap (λ (s : Listing). s.limits.rows) c.self.view_is, length-map {B = RowId × Kept} order (λ p. (id_in t.rows.rows p, kept_in t.rows.rows (since_in t) p)), t.order.places.ok.0, c.add_row.ensures.len);
      order_room = omega (arith, c.add_row.ensures.capacity, w.order_room);
      entries = w.entries;
      value_room = w.value_room;
      member_room = w.member_room;
    }

pub returns-clause-live : goal.returns-clause-live
returns-clause-live c =
    let after = (goal.at.returns-clause-live c).After-add_row in
    let t = c.self.inside in
    let rows = c.add_row.new.rows.rows in
    let at = c.add_row.result in
    let row : Row = record { kind = c.args.kind; key = c.args.key.now; base = c.args.base; swaps = c.args.swaps } in
    let order = t.order.places.items in
    let m = reported_live t.rows.rows (since_in t) order in
    let here : row_at rows at ≢ None = λ gone. absurd (cc (c.add_row.ensures.row, gone)) in
    let id = id_here rows at row c.add_row.ensures.row in
    ap (λ ps. reported_live rows (since_now after) ps) c.add_row.ensures.order
    ∙ reported_add t.rows.rows rows order (since_in t) (since_now after) at c.self.invariant.rows (rows_now after) c.add_row.ensures.stay c.add_row.ensures.empty here c.add_row.ensures.others (same after)
    ∙ (λ i. insert m (id i) (kept_as (c.add_row.ensures.row i) (none after i)))
    ∙ ap (λ (s : Listing). insert (live_of s) (id_of c.args.kind c.args.key.now) (kept_as (Some row) (no_samples c.args.base.0))) c.self.view_is
