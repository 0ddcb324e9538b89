-- Rows that are kept in a place, and the map that the places make.
use Rattle.std.proofs.Common.{◌≡◌, ◌≢◌, ℕ, ◌<◌, Bool, true, false, ◌||◌, ◌==◌, List, [], ◌∷◌, length, set, Option, Some, None, MatchOption, is_some, option_map, inl, inr, refl, sym, ap, subst, ◌∙◌, arith}
use Rattle.std.proofs.lemmas.Bool.{cases_eq, eq-eqb}
use Rattle.std.proofs.lemmas.List.{set-set, length-set, get_or-set_other}
use Rattle.std.specs.FinMap.{find, get, len, from_entries, get-from_entries, same_map}
use Rattle.sd_model_shard.specs.Rows as model
use Rattle.sd_model_shard.specs.Rows.{RowId, row_cmp, Kept, Summary, is_same_row}
use Rattle.sd_model_shard.proofs.RowLemmas.{rows_exact, rows_total}
use Rattle.sd_rows.specs.Index.{taken_count}
use Rattle.sd_rows.specs.Rows as places
use Rattle.sd_rows.specs.Rows.{row_at, Holds, IsAbsent, StandsNowhereElse, reset}
use Rattle.sd_rows.specs.RowMap.{has_id, rows_of}
use Rattle.sd_rows.specs.RowMap as map
use Rattle.sd_rows.specs.declared.row.Row.{Row}
use Rattle.sd_rows.proofs.IndexLemmas.{set_differs, some_of, present_within}
use Rattle.sd_rows.proofs.MapLemmas.{not_true, map-get, map-found, map-count, find-absent}
use Rattle.sd_rows.proofs.RowsLemmas.{fill_apart, empty_apart, copy_absent}
use Rattle.sd_epoch.specs.Order.{AreDifferent, IsWithout}
use Rattle.sd_epoch.specs.Places.{listed_as, id_in, listed_in, live_in, kept_as, kept_in, reported_in, reported_live, AllLive, is_among, AreRows}
use Rattle.sd_epoch.specs.Table.{AreApart, HasPlaces, fresh, listed_with}
use Rattle.sd_epoch.specs.TableInside.{listing_of, since_in, IsTable}
use Rattle.sd_decimal.specs.declared.number.Micro.{Micro}
use Rattle.sd_epoch.specs.declared.table.Table.TheInside.{Inside}
use Rattle.sd_epoch.proofs.FreshLemmas.{no_row_samples}
use Rattle.sd_epoch.proofs.ListingLemmas.{same_row, not_found}
use Rattle.sd_epoch.proofs.PlaceLemmas.{id_here, has_in, test_place, listed_among, live_among, find_among, unwritten, live_at, or_left, or_right}
use Rattle.sd_epoch.proofs.TableLemmas.{live_count}
use Rattle.sd_epoch.proofs.ReportedLemmas.{listed_place, reported_at, reported_none}
use Rattle.sd_epoch.proofs.OrderLemmas.{different_head, different_tail}
use Rattle.sd_epoch.proofs.CountLemmas.{unset_none}
use Rattle.sd_model_shard.proofs.Short.{no_samples}

both : (b : Bool) → b ≡ true → b ≡ false → ⊥
both true t f = absurd (cc)
both false t f = absurd (cc)

-- Rows that stay rows, under whatever ids, are listed apart as before.
module _ (old later : List (Option Row)) (wo : places.AreApart old) (wl : places.AreApart later) (stay : (p : ℕ) → row_at old p ≢ None → row_at later p ≢ None) where
  any_same : (p : ℕ) (ps : List ℕ) → row_at old p ≢ None → AllLive old ps → listed_with (id_in later p) (listed_in later ps) ≡ listed_with (id_in old p) (listed_in old ps)
  any_same p [] l ls = refl
  any_same p (q ∷ ps) l ls =
      ap (λ b. b || listed_with (id_in later p) (listed_in later ps)) (test_place later p q wl (stay p l) (stay q ls.0) ∙ sym (test_place old p q wo l ls.0))
      ∙ ap (λ b. is_same_row (id_in old p) (id_in old q) || b) (any_same p ps l ls.1)

  still_apart : (order : List ℕ) → AllLive old order → AreApart (listed_in old order) → AreApart (listed_in later order)
  still_apart [] l a = tt
  still_apart (p ∷ order) l a = (any_same p order l.0 l.1 ∙ a.0, still_apart order l.1 a.1)

  still_live : (order : List ℕ) → AllLive old order → AllLive later order
  still_live [] l = tt
  still_live (p ∷ order) l = (stay p l.0, still_live order l.1)

-- A row comes to a place, whose kind and key no other place has.
module _ (rows : List (Option Row)) (at : ℕ) (row : Row) (within : at < length rows) (nowhere : StandsNowhereElse (Some row) at rows) where
  pub kept_apart : places.AreApart rows → places.AreApart (set rows at (Some row))
  kept_apart w =
      subst places.AreApart (set-set rows at None (Some row))
      (fill_apart (set rows at None) at row (empty_apart rows at w within) (copy_absent rows at row within nowhere) (omega (arith, within, length-set rows at None)))

  -- the place had a row
  pub kept_over : (order : List ℕ) → AreRows rows order → row_at rows at ≢ None → AreRows (set rows at (Some row)) order
  kept_over order w here =
      let stay : (p : ℕ) → row_at rows p ≢ None → row_at (set rows at (Some row)) p ≢ None = λ p l none.
      elim (cases_eq p at) as (λ _. ⊥) [
        | inl e ↦ live_at rows at row within (ap (row_at (set rows at (Some row))) (sym e) ∙ none)
        | inr ne ↦ l (sym (unwritten rows at row within p ne) ∙ none)
      ] in record {
        apart = kept_apart w.apart;
        live = still_live rows (set rows at (Some row)) w.apart (kept_apart w.apart) stay order w.live;
        all = λ p l. w.all p (λ none. elim (cases_eq p at) as (λ _. ⊥) [
          | inl e ↦ here (ap (row_at rows) (sym e) ∙ none)
          | inr ne ↦ l (unwritten rows at row within p ne ∙ none)
        ]);
        listed = still_apart rows (set rows at (Some row)) w.apart (kept_apart w.apart) stay order w.live w.listed;
      }

  -- the place was empty
  pub kept_new : row_at rows at ≡ None → IsAbsent row.kind row.key rows
  kept_new empty p h = subst (Holds row.kind row.key) (ap (row_at rows) (nowhere p h) ∙ empty) h

-- the order lists the rows that the places have
pub map_of_places : (rows : List (Option Row)) (order : List ℕ) → AreRows rows order → live_in rows order ≡ rows_of rows
map_of_places rows order w =
    same_map rows_total rows_exact _ _ (λ q. get-from_entries rows_total (listed_in rows order) q ∙ by_test q (listed_with q (listed_in rows order)) refl ∙ sym (map-get rows q)) where
      by_test : (q : RowId) (b : Bool) → listed_with q (listed_in rows order) ≡ b → find row_cmp q (listed_in rows order) ≡ find row_cmp q (map.entries_of rows)
      by_test q true h =
          let at = listed_place rows order q w.live h in
          let row = some_of (row_at rows at.0) at.1 in
          ap (λ (i : RowId). find row_cmp i (listed_in rows order)) at.3 ∙ find_among rows order at.0 w.apart at.1 w.live at.2
          ∙ ap (λ (o : Option Row). Some (listed_as o).1) row.1 ∙ sym (map-found rows at.0 row.0 w.apart row.1)
          ∙ ap (get (rows_of rows)) (sym (id_here rows at.0 row.0 row.1) ∙ sym at.3) ∙ map-get rows q
      by_test q false h =
          not_found q (listed_in rows order) h
          ∙ sym (find-absent q rows (λ p. not_true (has_id q (row_at rows p)) (λ t.
          let live : row_at rows p ≢ None = λ none. both (has_id q (row_at rows p)) t (ap (has_id q) none) in
          both (listed_with q (listed_in rows order))
          (ap (λ (i : RowId). listed_with i (listed_in rows order)) (same_row q (id_in rows p) (sym (has_in rows p q live) ∙ t)) ∙ listed_among rows order p (w.all p live)) h)))

-- rows with what came to them are those of the places
pub reported_places : (rows : List (Option Row)) (since : ℕ → Summary) (order : List ℕ) → AreRows rows order
    → (id : RowId) → option_map fresh (get (reported_live rows since order) id) ≡ get (rows_of rows) id
reported_places rows since order w id =
    by_test (listed_with id (listed_in rows order)) refl ∙ ap (λ (m : model.Rows). get m id) (map_of_places rows order w) where
      fresh_is : (o : Option Row) (s : Summary) → fresh (kept_as o s) ≡ (listed_as o).1
      fresh_is None s = refl
      fresh_is (Some row) s = refl

      by_test : (b : Bool) → listed_with id (listed_in rows order) ≡ b → option_map fresh (get (reported_live rows since order) id) ≡ get (live_in rows order) id
      by_test true h =
          let at = listed_place rows order id w.live h in
          ap (λ (i : RowId). option_map fresh (get (reported_live rows since order) i)) at.3 ∙ ap (option_map fresh) (reported_at rows order w since at.0 at.1)
          ∙ ap Some (fresh_is (row_at rows at.0) (since at.0))
          ∙ sym (get-from_entries rows_total (listed_in rows order) (id_in rows at.0) ∙ find_among rows order at.0 w.apart at.1 w.live at.2)
          ∙ ap (get (live_in rows order)) (sym at.3)
      by_test false h =
          ap (option_map fresh) (reported_none rows order w since id h) ∙ sym (get-from_entries rows_total (listed_in rows order) id ∙ not_found id (listed_in rows order) h)

-- and just those where no sample came to them
fresh_listed : (rows : List (Option Row)) (since : ℕ → Summary) (order : List ℕ) → AllLive rows order → ((p : ℕ) (row : Row) → row_at rows p ≡ Some row → since p ≡ no_samples row.base.0)
    → reported_in rows since order ≡ listed_in rows order
fresh_listed rows since [] l none = refl
fresh_listed rows since (p ∷ order) l none =
    let row = some_of (row_at rows p) l.0 in
    let here : kept_in rows since p ≡ (listed_as (row_at rows p)).1 = (λ i. kept_as (row.1 i) (none p row.0 row.1 i)) ∙ sym (ap (λ (o : Option Row). (listed_as o).1) row.1) in
    let rest = fresh_listed rows since order l.1 none in
    λ i. (id_in rows p, here i) ∷ rest i

pub fresh_places : (rows : List (Option Row)) (since : ℕ → Summary) (order : List ℕ) → AreRows rows order → ((p : ℕ) (row : Row) → row_at rows p ≡ Some row → since p ≡ no_samples row.base.0)
    → reported_live rows since order ≡ rows_of rows
fresh_places rows since order w none = ap (λ (es : List (RowId × Kept)). from_entries {R = row_cmp} es) (fresh_listed rows since order w.live none) ∙ map_of_places rows order w

-- a table has its places
pub has_places : (t : Inside) → IsTable t → HasPlaces (listing_of t)
has_places t w = record {
  len = w.places;
  apart = w.rows.apart;
  rows = reported_places t.rows.rows (since_in t) t.order.places.items w.rows;
  fresh_rows = λ none.
      fresh_places t.rows.rows (since_in t) t.order.places.items w.rows
      (λ p row is. (w.since p row is).none (no_row_samples t w none p (λ gone. absurd (cc (is, gone)))));
}

-- there are as many places in the order as places with rows
pub order_count : (rows : List (Option Row)) (order : List ℕ) → AreRows rows order → length order ≡ taken_count rows
order_count rows order w = sym (live_count rows order w) ∙ ap (len) (map_of_places rows order w) ∙ map-count rows w.apart

-- where no row stands, the order has no place
pub absent_place : (rows : List (Option Row)) (order : List ℕ) (at : ℕ) → AllLive rows order → row_at rows at ≡ None → is_among at order ≡ false
absent_place rows order at l none = not_true (is_among at order) (λ h. live_among rows order at l h none)

all_live : (rows : List (Option Row)) (order : List ℕ) → ((p : ℕ) → is_among p order ≡ true → row_at rows p ≢ None) → AllLive rows order
all_live rows [] h = tt
all_live rows (p ∷ order) h = (h p (or_left (p == p) _ (eq-eqb p p refl)), all_live rows order (λ q more. h q (or_right (p == q) _ more)))

-- different places are listed apart
listed_by : (rows : List (Option Row)) (order : List ℕ) (p : ℕ) → places.AreApart rows → row_at rows p ≢ None → AllLive rows order → listed_with (id_in rows p) (listed_in rows order) ≡ is_among p order
listed_by rows [] p w here l = refl
listed_by rows (q ∷ order) p w here l =
    ap (λ b. b || listed_with (id_in rows p) (listed_in rows order)) (test_place rows p q w here l.0) ∙ ap (λ b. (q == p) || b) (listed_by rows order p w here l.1)

different_listed : (rows : List (Option Row)) (order : List ℕ) → places.AreApart rows → AllLive rows order → AreDifferent order → AreApart (listed_in rows order)
different_listed rows [] w l d = tt
different_listed rows (p ∷ order) w l d = (listed_by rows order p w l.0 l.1 ∙ different_head p order d, different_listed rows order w l.1 (different_tail p order d))

-- the row of a place goes, and the place goes from the order
pub emptied_rows : (rows : List (Option Row)) (at : ℕ) (order left : List ℕ) → AreRows rows order → row_at rows at ≢ None → IsWithout at order left → AreRows (set rows at None) left
emptied_rows rows at order left w here without =
    let other : (p : ℕ) → p ≢ at → row_at (set rows at None) p ≡ row_at rows p = λ p ne. get_or-set_other rows at p None None ne in
    let apart : places.AreApart (set rows at None) = empty_apart rows at w.apart (present_within rows at here) in
    let live : AllLive (set rows at None) left = all_live (set rows at None) left (λ p h none.
    let was = without.among p h in live_among rows order p w.live was.0 (sym (other p was.1) ∙ none)) in
    record {
      apart = apart;
      live = live;
      all = λ p l.
          let away : p ≢ at = λ e. l (ap (row_at (set rows at None)) e ∙ unset_none rows at) in
          without.others p (w.all p (λ none. l (other p away ∙ none))) away;
      listed = different_listed (set rows at None) left apart live without.different;
    }

-- a place takes another's row, and then its base and swaps
pub kept_are : (rows mid new : List (Option Row)) (o : Option Row) (at : ℕ) (base : Micro) (swaps : ℕ) → at < length rows → mid ≡ set rows at o → new ≡ set mid at (reset (row_at mid at) base swaps) → new ≡ set rows at (reset o base swaps)
kept_are rows mid new o at base swaps within m n =
    n ∙ ap (λ (xs : List (Option Row)). set xs at (reset (row_at xs at) base swaps)) m
    ∙ ap (λ (x : Option Row). set (set rows at o) at (reset x base swaps)) (set_differs rows at o None within).at ∙ set-set rows at o (reset o base swaps)

-- what was asked of an option, and is none or some
pub empty_by : {T : Type 0} (A : Type 0) (B : T → Type 0) (o : Option T) → is_some o ≡ false → MatchOption o A B → A
empty_by A B None h m = m
empty_by A B (Some x) h m = absurd (cc)

pub taken_by : {T : Type 0} (A : Type 0) (rows : List (Option Row)) (at : ℕ) (now : T → Row) (o : Option T) → is_some o ≡ true → MatchOption o A (λ x. row_at rows at ≡ Some (now x)) → row_at rows at ≢ None
taken_by A rows at now None h m = absurd (cc)
taken_by A rows at now (Some x) h m = λ none. absurd (cc (m, none))
