use Rattle.std.proofs.Common.{◌≡◌, ◌≢◌, ℕ, ◌<◌, true, List, set, Option, Some, None, length, sym, ap, subst, ◌∙◌, arith}
use Rattle.std.proofs.lemmas.List.{length-set}
use Rattle.sd_model_shard.specs.Rows.{Summary}
use Rattle.sd_rows.specs.Rows.{row_at, reset}
use Rattle.sd_rows.specs.declared.row.Row.{Row}
use Rattle.sd_rows.proofs.IndexLemmas.{present_within, some_of, taken_count-le}
use Rattle.sd_epoch.specs.Members.{member_places}
use Rattle.sd_epoch.specs.Places.{AllLive}
use Rattle.sd_epoch.specs.Since.{since_at}
use Rattle.sd_epoch.specs.Table.{Listing}
use Rattle.sd_epoch.specs.Values.{value_places}
use Rattle.sd_epoch.specs.declared.members.SetMember.{SetMember}
use Rattle.sd_epoch.specs.declared.values.TimerValue.{TimerValue}
use Rattle.sd_epoch.proofs.FreshLemmas.{no_values, no_members, fresh_since, fresh_samples, kept_fresh}
use Rattle.sd_epoch.proofs.PlaceLemmas.{written, unwritten}
use Rattle.sd_epoch.proofs.SumLemmas.{none_reported}
use Rattle.sd_epoch.proofs.TurnLemmas.{has_places, order_count}
use Rattle.sd_epoch.proofs.table.Table.carry_row.Goals as goal

pub invariant_of-self : goal.invariant_of-self
invariant_of-self g c =
    let t = c.self.inside in
    let w = c.self.invariant in
    let rows = c.keep_in.new.rows.rows in
    let order = c.keep_in.new.order in
    let tallies = c.keep_in.new.rows.tallies in
    let since : ℕ → Summary = since_at tallies t.values.items.items t.members.items.items in
    let none = ap (λ (s : Listing). s.held) c.self.view_is ∙ c.requires.no_samples in
    let live : row_at c.from.inside.rows.rows c.args.at ≢ None = subst (λ (s : Listing). row_at s.places c.args.at ≢ None) (sym c.from.view_is) c.requires.live in
    let there = some_of (row_at c.from.inside.rows.rows c.args.at) live in
    let row : Row = record there.0 { base = c.args.base; swaps = c.args.swaps } in
    let within : c.args.at < length t.rows.rows =
    omega (arith, present_within c.from.inside.rows.rows c.args.at live, c.from.invariant.places, w.places, ap (λ (s : Listing). s.limits.rows) c.self.view_is, ap (λ (s : Listing). s.limits.rows) c.from.view_is, ap (λ l. l.rows) c.requires.limits) in
    let are : rows ≡ set t.rows.rows c.args.at (Some row) = c.keep_in.ensures.places ∙ ap (λ (o : Option Row). set t.rows.rows c.args.at (reset o c.args.base c.args.swaps)) there.1 in
    let fresh = kept_fresh t w none rows c.args.at row tallies
    (ap (λ (xs : List (Option Row)). row_at xs c.args.at) are ∙ written t.rows.rows c.args.at row within)
    (λ p ne. ap (λ (xs : List (Option Row)). row_at xs p) are ∙ unwritten t.rows.rows c.args.at row within p ne)
    c.keep_in.ensures.tally c.keep_in.ensures.other_tallies in
    let places = ap length c.keep_in.ensures.places ∙ length-set t.rows.rows c.args.at (reset (row_at c.from.inside.rows.rows c.args.at) c.args.base c.args.swaps) ∙ w.places in record {
      limits = w.limits;
      rows = c.keep_in.ensures.rows;
      ranked = c.keep_in.ensures.ranked;
      ranks = c.keep_in.ensures.ranks ∙ w.ranks;
      since = fresh_since rows since fresh;
      held = none ∙ sym (none_reported (λ id. true) rows since order.places.items c.keep_in.ensures.rows (fresh_samples rows since fresh));
      few_held = w.few_held;
      values = w.values;
      owned_values = subst (λ (vs : List TimerValue). AllLive rows (value_places vs)) (sym (no_values t w none)) tt;
      members = w.members;
      owned_members = subst (λ (ms : List SetMember). AllLive rows (member_places ms)) (sym (no_members t w none)) tt;
      places = places;
      tally_places = c.keep_in.ensures.tally_places ∙ w.tally_places;
      value_places = w.value_places;
      member_places = w.member_places;
      order = omega (arith, order_count rows order.places.items c.keep_in.ensures.rows, taken_count-le rows, places, order.places.ok.0);
      order_room = omega (arith, c.keep_in.ensures.capacity, w.order_room);
      entries = w.entries;
      value_room = w.value_room;
      member_room = w.member_room;
    }

pub returns-clause-listing : goal.returns-clause-listing
returns-clause-listing g c = has_places _ (invariant_of-self g c)

pub returns-clause-entries : goal.returns-clause-entries
returns-clause-entries g c =
    let t = c.self.inside in
    let w = c.self.invariant in
    let none = ap (λ (s : Listing). s.held) c.self.view_is ∙ c.requires.no_samples in
    omega (arith, ap length (no_values t w none), ap length (no_members t w none))
