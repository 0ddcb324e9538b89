-- What the fields of a table say of the rows and entries that it stands for.
use Rattle.std.proofs.Common.{◌≡◌, ◌≢◌, ℕ, zero, suc, ◌<◌, ◌≤◌, List, [], ◌∷◌, length, get_or, map, replicate, true, false, cond, ◌==◌, pos, ◌≤ℤ◌, ◌^◌, All, Option, Some, None, is_some, option_map, MatchOption, refl, sym, ap, subst, ◌∙◌, arith}
use Rattle.std.proofs.lemmas.List.{length-map, get_or_read_under}
use Rattle.std.proofs.lemmas.List.Elements.{All-nil, All-cons, All-head, All-tail}
use Rattle.std.proofs.lemmas.Option.{slice_get-map, slice_get_read}
use Rattle.std.specs.List.{slice_get}
use Rattle.std.specs.FinMap.{contains_key, get, len}
use Rattle.sd_model_shard.specs.Rows.{RowId, Kept, Summary, samples_in}
use Rattle.sd_key.specs.Kind.{kind_of}
use Rattle.sd_key.specs.declared.kind.Kind.{Kind}
use Rattle.sd_rows.specs.Rows.{row_at, Holds, IsAbsent}
use Rattle.sd_rows.specs.declared.row.Row.{Row}
use Rattle.sd_rows.proofs.IndexLemmas.{present_within, replicate_at}
use Rattle.sd_epoch.specs.Places.{listed_as, id_in, listed_in, live_in, kept_as, kept_in, reported_in, reported_live, AllLive, AreRows, AreSince, IsSince}
use Rattle.sd_epoch.specs.Scratch.{micros, AreTimerValues}
use Rattle.sd_epoch.specs.Since.{no_tally, reported_values}
use Rattle.sd_epoch.specs.Table.{Listing, Tells, id_of, row_view}
use Rattle.sd_epoch.specs.TableInside.{listing_of, since_in, IsTable}
use Rattle.sd_epoch.specs.Values.{IsTimed}
use Rattle.sd_epoch.specs.declared.table.RowFacts.{RowFacts}
use Rattle.sd_epoch.specs.declared.table.Table.TheInside.{Inside}
use Rattle.sd_rows.specs.declared.tally.Tally.{Tally}
use Rattle.sd_epoch.specs.declared.values.TimerValue.{TimerValue}
use Rattle.sd_decimal.specs.declared.number.Micro.{Micro}
use Rattle.sd_decimal.specs.declared.number.Sum.{Sum}
use Rattle.sd_epoch.proofs.ChainLemmas.{own}
use Rattle.sd_epoch.proofs.ListingLemmas.{len-apart}
use Rattle.sd_epoch.proofs.PlaceLemmas.{holds_id, id_here, listed_absent}
use Rattle.sd_epoch.proofs.SumLemmas.{samples_found, samples_of_none, reported_apart}
use Rattle.sd_epoch.proofs.ReportedLemmas.{reported_at, reported_none}

-- empty places
pub no_rows : (n : ℕ) → AreRows (replicate n None) []
no_rows n = record {
  apart = λ p q kind key h k. absurd (subst (Holds kind key) (replicate_at n p None) h);
  live = tt;
  all = λ p l. absurd (l (replicate_at n p None));
  listed = tt;
}

pub no_since_yet : (n : ℕ) (since : ℕ → Summary) → AreSince (replicate n None) since
no_since_yet n since p row is = absurd (cc (is, replicate_at {X = Option Row} n p None))

pub no_samples_yet : (rows : List (Option Row)) (since : ℕ → Summary) (order : List ℕ) → order ≡ [] → samples_in (reported_live rows since order) ≡ 0
no_samples_yet rows since order none = ap (λ ps. samples_in (reported_live rows since ps)) none ∙ samples_of_none

pub holds_live : (o : Option Row) (kind : Kind) (key : List ℕ) → Holds kind key o → o ≢ None
holds_live o kind key h e = subst (Holds kind key) e h

-- what is found says whether the map has the row
pub find_tells : (rows : List (Option Row)) (since : ℕ → Summary) (order : List ℕ) (kind : Kind) (key : List ℕ) (found : Option ℕ) → AreRows rows order
    → MatchOption found (IsAbsent kind key rows) (λ at. Holds kind key (row_at rows at)) → is_some found ≡ contains_key (reported_live rows since order) (id_of kind key)
find_tells rows since order kind key None w h = sym (ap is_some (reported_none rows order w since (id_of kind key) (listed_absent rows order kind key h w.live)))
find_tells rows since order kind key (Some at) w h =
    sym (ap (λ (id : RowId). contains_key (reported_live rows since order) id) (sym (holds_id rows at kind key h))
    ∙ ap is_some (reported_at rows order w since at (holds_live (row_at rows at) kind key h)))

-- there are as many rows as places in the order
pub live_count : (rows : List (Option Row)) (order : List ℕ) → AreRows rows order → len (live_in rows order) ≡ length order
live_count rows order w = len-apart (listed_in rows order) w.listed ∙ length-map order (λ p. listed_as (row_at rows p))

pub reported_count : (rows : List (Option Row)) (since : ℕ → Summary) (order : List ℕ) → AreRows rows order → len (reported_live rows since order) ≡ length order
reported_count rows since order w = len-apart (reported_in rows since order) (reported_apart rows since order w.listed) ∙ length-map {B = RowId × Kept} order (λ p. (id_in rows p, kept_in rows since p))

live_order : (rows : List (Option Row)) (order : List ℕ) (i : ℕ) → AllLive rows order → i < length order → row_at rows (get_or order i 0) ≢ None
live_order rows [] i l lt = absurd (omega arith)
live_order rows (p ∷ order) zero l lt = l.0
live_order rows (p ∷ order) (suc i) l lt = live_order rows order i l.1 (omega arith)

-- the i-th place of a table's order, and the row there
pub record IsAt (t : Inside) (i place : ℕ) (row : Row) : Type 0 where
  pub listed : slice_get (listing_of t).listed i ≡ Some ((row_view row).0, kept_as (Some row) (since_in t place))
  pub is : row_at t.rows.rows place ≡ Some row
  pub live : row_at t.rows.rows place ≢ None
  pub within : place < length t.rows.rows
  pub since : IsSince (kind_of row.kind) row.base.0 (since_in t place)
  pub few : (since_in t place).samples ≤ t.held

module _ (t : Inside) (w : IsTable t) where
  -- a row has no more samples than all together
  pub few_samples : (place : ℕ) → row_at t.rows.rows place ≢ None → (since_in t place).samples ≤ t.held
  few_samples place live =
      let order = t.order.places.items in
      let found = samples_found (reported_live t.rows.rows (since_in t) order) (id_in t.rows.rows place) (kept_in t.rows.rows (since_in t) place) (reported_at t.rows.rows order w.rows (since_in t) place live) in
      omega (arith, found, w.held)

  module _ (self : Listing) (view : listing_of t ≡ self) (i place : ℕ) (below : i < length self.listed) (read : place ≡ get_or t.order.places.items i place) where
    in_order : i < length t.order.places.items
    in_order = omega (arith, below, ap (λ (s : Listing). length s.listed) view, length-map {B = RowId × Kept} t.order.places.items (λ p. (id_in t.rows.rows p, kept_in t.rows.rows (since_in t) p)))

    pub place_live : row_at t.rows.rows place ≢ None
    place_live none =
        live_order t.rows.rows t.order.places.items i w.rows.live in_order (ap (row_at t.rows.rows) (sym (get_or_read_under t.order.places.items i t.order.places.len place 0 read (omega (arith, in_order, t.order.places.ok.0)) t.order.places.ok.0)) ∙ none)

    pub place_within : place < length t.rows.rows
    place_within = present_within t.rows.rows place place_live

    pub at_place : (row : Row) → row_at t.rows.rows place ≡ Some row → IsAt t i place row
    at_place row is = record {
      listed = slice_get-map (λ p. (id_in t.rows.rows p, kept_in t.rows.rows (since_in t) p)) t.order.places.items i
          ∙ ap (option_map (λ p. (id_in t.rows.rows p, kept_in t.rows.rows (since_in t) p))) (slice_get_read t.order.places.items t.order.places.len i place t.order.places.ok.0 (omega (arith, in_order, t.order.places.ok.0)) read)
          ∙ ap (λ (o : Option Row). Some ((listed_as o).0, kept_as o (since_in t place))) is;
      is = is;
      live = place_live;
      within = place_within;
      since = w.since place row is;
      few = few_samples place place_live;
    }

-- what is told of a row is what is kept of it
pub facts_tell : (t : Inside) (row : Row) (place : ℕ) (x : Tally) (facts : RowFacts) → x ≡ get_or t.rows.tallies place no_tally
    → row ≡ record { kind = facts.kind; key = facts.key; base = facts.base; swaps = facts.swaps } → facts.samples ≡ x.samples → facts.weight ≡ x.weight
    → Tells facts ((row_view row).0, kept_as (Some row) (since_in t place))
facts_tell t row place x facts tally same samples weight = record {
  id = ap (λ (r : Row). (row_view r).0) same;
  base = ap (λ (r : Row). r.base.0) same;
  swaps = ap (λ (r : Row). r.swaps) same;
  samples = sym (samples ∙ ap (λ (y : Tally). y.samples) tally);
  weight = sym (ap (λ (s : Sum). s.0) weight ∙ ap (λ (y : Tally). y.weight.0) tally);
}

-- those of a place are no more than all
pub few_own : {A : Type 0} (place_of : A → ℕ) (place : ℕ) (items : List A) → length (own place_of place items) ≤ length items
few_own place_of place [] = omega arith
few_own {A} place_of place (e ∷ items) = elim (place_of e == place) as (λ b. length (cond b (e ∷ own place_of place items) (own place_of place items)) ≤ suc (length items)) [
  | true ↦ omega (arith, few_own place_of place items)
  | false ↦ omega (arith, few_own place_of place items)
]

pub values_same : (own : List TimerValue) → micros (map (λ (v : TimerValue). v.value) own) ≡ reported_values own
values_same [] = refl
values_same (v ∷ own) = ap (λ vs. v.value.0 ∷ vs) (values_same own)

pub timed_values : (own : List TimerValue) → All IsTimed own → AreTimerValues (map (λ (v : TimerValue). v.value) own)
timed_values [] timed = All-nil (λ (v : Micro). (pos 0 ≤ℤ v.0) × (v.0 ≤ℤ pos (10 ^ 16)))
timed_values (v ∷ own) timed =
    All-cons (λ (x : Micro). (pos 0 ≤ℤ x.0) × (x.0 ≤ℤ pos (10 ^ 16))) v.value (map (λ (x : TimerValue). x.value) own) (All-head IsTimed v own timed) (timed_values own (All-tail IsTimed v own timed))

-- the row of a place is in the map
pub found_here : (t : Inside) → IsTable t → (p : ℕ) (row : Row) → row_at t.rows.rows p ≡ Some row → get (reported_live t.rows.rows (since_in t) t.order.places.items) (row_view row).0 ≡ Some (kept_as (Some row) (since_in t p))
found_here t w p row is =
    let m = reported_live t.rows.rows (since_in t) t.order.places.items in
    ap (get m) (sym (id_here t.rows.rows p row is)) ∙ reported_at t.rows.rows t.order.places.items w.rows (since_in t) p (λ none. absurd (cc (is, none)))
    ∙ ap (λ (o : Option Row). Some (kept_as o (since_in t p))) is
