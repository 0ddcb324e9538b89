-- Rows in an order of their places, and the map that they make.
use Rattle.std.proofs.Common.{◌≡◌, ◌≢◌, ℕ, ◌<◌, Bool, true, false, cond, ◌==◌, ◌||◌, ◌⊎◌, List, [], ◌∷◌, ◌++◌, length, map, set, Option, Some, None, inl, inr, refl, sym, ap, subst, ◌∙◌}
use Rattle.std.proofs.lemmas.Bool.{cases_eq, eqb-true, eq-eqb, ne_eqb}
use Rattle.std.proofs.lemmas.List.{map-append}
use Rattle.std.specs.FinMap.{find}
use Rattle.sd_model_shard.specs.Rows.{RowId, row_cmp, Kept, is_same_row}
use Rattle.sd_key.specs.declared.kind.Kind.{Kind}
use Rattle.sd_rows.specs.Rows as places
use Rattle.sd_rows.specs.Rows.{row_at, Holds, IsAbsent}
use Rattle.sd_rows.specs.RowMap.{has_id}
use Rattle.sd_rows.specs.declared.row.Row.{Row}
use Rattle.sd_rows.proofs.IndexLemmas.{set_differs, some_of}
use Rattle.sd_rows.proofs.MapLemmas.{not_true, has_holds, holds_has, one_place}
use Rattle.sd_rows.proofs.RowsLemmas.{fill_apart, reset_apart}
use Rattle.sd_epoch.specs.Places.{listed_as, id_in, listed_in, AllLive, is_among, AreRows, StayAt}
use Rattle.sd_epoch.specs.Table.{AreApart, id_of, row_view, listed_with}
use Rattle.sd_epoch.proofs.ListingLemmas.{same_itself, same_row, AreApart-push}

-- the id of a place that has a row
pub id_here : (rows : List (Option Row)) (place : ℕ) (row : Row) → row_at rows place ≡ Some row → id_in rows place ≡ (row_view row).0
id_here rows place row e = ap (λ (o : Option Row). (listed_as o).0) e

has_here : (rows : List (Option Row)) (place : ℕ) (row : Row) (id : RowId) → row_at rows place ≡ Some row → has_id id (row_at rows place) ≡ is_same_row id (id_in rows place)
has_here rows place row id e = ap (has_id id) e ∙ ap (is_same_row id) (sym (id_here rows place row e))

-- a place that has a row has its id
pub has_in : (rows : List (Option Row)) (place : ℕ) (id : RowId) → row_at rows place ≢ None → has_id id (row_at rows place) ≡ is_same_row id (id_in rows place)
has_in rows place id l = let row = some_of (row_at rows place) l in has_here rows place row.0 id row.1

-- places whose ids are one are one
pub same_place : (rows : List (Option Row)) (p q : ℕ) → places.AreApart rows → row_at rows p ≢ None → row_at rows q ≢ None → is_same_row (id_in rows p) (id_in rows q) ≡ true → p ≡ q
same_place rows p q w lp lq h =
    one_place rows (id_in rows p) p q w (has_in rows p (id_in rows p) lp ∙ same_itself (id_in rows p)) (has_in rows q (id_in rows p) lq ∙ h)

-- to test the ids of places is to test the places
pub test_place : (rows : List (Option Row)) (p q : ℕ) → places.AreApart rows → row_at rows p ≢ None → row_at rows q ≢ None → is_same_row (id_in rows p) (id_in rows q) ≡ (q == p)
test_place rows p q w lp lq = elim (cases_eq q p) as (λ _. is_same_row (id_in rows p) (id_in rows q) ≡ (q == p)) [
  | inl e ↦ ap (λ i. is_same_row (id_in rows p) (id_in rows i)) e ∙ same_itself (id_in rows p) ∙ sym (eq-eqb q p e)
  | inr ne ↦ not_true _ (λ t. ne (sym (same_place rows p q w lp lq t))) ∙ sym (ne_eqb q p ne)
]

-- a place that holds a kind and key has their id
pub holds_id : (rows : List (Option Row)) (place : ℕ) (kind : Kind) (key : List ℕ) → Holds kind key (row_at rows place) → id_in rows place ≡ id_of kind key
holds_id rows place kind key h = sym (same_row (id_of kind key) (id_in rows place) (sym (has_in rows place (id_of kind key) (holds_live (row_at rows place) h)) ∙ holds_has kind key (row_at rows place) h)) where
  holds_live : (o : Option Row) → Holds kind key o → o ≢ None
  holds_live o h e = subst (Holds kind key) e h

-- where a kind and key is absent, no place has their id
pub absent_id : (rows : List (Option Row)) (place : ℕ) (kind : Kind) (key : List ℕ) → IsAbsent kind key rows → row_at rows place ≢ None → is_same_row (id_of kind key) (id_in rows place) ≡ false
absent_id rows place kind key absent l =
    not_true _ (λ t. absent place (has_holds kind key (row_at rows place) (has_in rows place (id_of kind key) l ∙ t)))

pub either : (a b : Bool) → (a || b) ≡ true → (a ≡ true) ⊎ (b ≡ true)
either true b h = inl refl
either false b h = inr h

pub or_left : (a b : Bool) → a ≡ true → (a || b) ≡ true
or_left true b h = refl
or_left false b h = absurd (cc)

pub or_right : (a b : Bool) → b ≡ true → (a || b) ≡ true
or_right true b h = refl
or_right false b h = h

-- places that are among those with rows
pub live_among : (rows : List (Option Row)) (order : List ℕ) (place : ℕ) → AllLive rows order → is_among place order ≡ true → row_at rows place ≢ None
live_among rows [] place l h = absurd (cc)
live_among rows (p ∷ order) place l h = elim (either (p == place) (is_among place order) h) as (λ _. row_at rows place ≢ None) [
  | inl e ↦ subst (λ i. row_at rows i ≢ None) (eqb-true p place e) l.0
  | inr more ↦ live_among rows order place l.1 more
]

pub AllLive-stays : (old new : List (Option Row)) (order : List ℕ) → StayAt old new → AllLive old order → AllLive new order
AllLive-stays old new [] stay l = tt
AllLive-stays old new (p ∷ order) stay l = ((stay p l.0).0, AllLive-stays old new order stay l.1)

pub AllLive-push : (rows : List (Option Row)) (order : List ℕ) (place : ℕ) → AllLive rows order → row_at rows place ≢ None → AllLive rows (order ++ place ∷ [])
AllLive-push rows [] place l h = (h, tt)
AllLive-push rows (p ∷ order) place l h = (l.0, AllLive-push rows order place l.1 h)

among-push : (order : List ℕ) (place : ℕ) → is_among place (order ++ place ∷ []) ≡ true
among-push [] place = ap (λ b. b || false) (eq-eqb place place refl)
among-push (p ∷ order) place = or_right (p == place) _ (among-push order place)

among-more : (order : List ℕ) (place at : ℕ) → is_among place order ≡ true → is_among place (order ++ at ∷ []) ≡ true
among-more [] place at h = absurd (cc)
among-more (p ∷ order) place at h = elim (either (p == place) (is_among place order) h) as (λ _. ((p == place) || is_among place (order ++ at ∷ [])) ≡ true) [
  | inl e ↦ or_left (p == place) _ e
  | inr more ↦ or_right (p == place) _ (among-more order place at more)
]

-- rows that are there and stay are listed as before
listed_same : (old new : List (Option Row)) (order : List ℕ) → ((p : ℕ) → row_at old p ≢ None → row_at new p ≡ row_at old p) → AllLive old order → listed_in new order ≡ listed_in old order
listed_same old new [] same l = refl
listed_same old new (p ∷ order) same l =
    ap (λ (o : Option Row). listed_as o ∷ listed_in new order) (same p l.0) ∙ ap (λ (es : List (RowId × Kept)). listed_as (row_at old p) ∷ es) (listed_same old new order same l.1)

-- a kind and key that is absent isn't listed
pub listed_absent : (rows : List (Option Row)) (order : List ℕ) (kind : Kind) (key : List ℕ) → IsAbsent kind key rows → AllLive rows order → listed_with (id_of kind key) (listed_in rows order) ≡ false
listed_absent rows [] kind key absent l = refl
listed_absent rows (p ∷ order) kind key absent l =
    ap (λ b. b || listed_with (id_of kind key) (listed_in rows order)) (absent_id rows p kind key absent l.0) ∙ listed_absent rows order kind key absent l.1

-- the id of a place of the order is listed
pub listed_among : (rows : List (Option Row)) (order : List ℕ) (place : ℕ) → is_among place order ≡ true → listed_with (id_in rows place) (listed_in rows order) ≡ true
listed_among rows [] place h = absurd (cc)
listed_among rows (p ∷ order) place h =
    elim (either (p == place) (is_among place order) h) as (λ _. (is_same_row (id_in rows place) (id_in rows p) || listed_with (id_in rows place) (listed_in rows order)) ≡ true) [
      | inl e ↦ or_left _ _ (ap (λ i. is_same_row (id_in rows place) (id_in rows i)) (eqb-true p place e) ∙ same_itself (id_in rows place))
      | inr more ↦ or_right _ _ (listed_among rows order place more)
    ]

-- A row is written into a place that was empty, or that had the same id.
module _ (rows : List (Option Row)) (at : ℕ) (row : Row) (within : at < length rows) where
  pub written : row_at (set rows at (Some row)) at ≡ Some row
  written = (set_differs rows at (Some row) None within).at

  pub unwritten : (p : ℕ) → p ≢ at → row_at (set rows at (Some row)) p ≡ row_at rows p
  unwritten p ne = (set_differs rows at (Some row) None within).other p ne

  pub live_at : row_at (set rows at (Some row)) at ≢ None
  live_at e = absurd (cc (written, e))

  pub write_stays : (row_at rows at ≢ None → id_in rows at ≡ (row_view row).0) → StayAt rows (set rows at (Some row))
  write_stays same p l = elim (cases_eq p at) as (λ _. (row_at (set rows at (Some row)) p ≢ None) × (id_in (set rows at (Some row)) p ≡ id_in rows p)) [
    | inl e ↦ rw e
        (live_at, id_here (set rows at (Some row)) at row written ∙ sym (same (subst (λ i. row_at rows i ≢ None) e l)))
    | inr ne ↦ (λ none. l (sym (unwritten p ne) ∙ none), ap (λ (o : Option Row). (listed_as o).0) (unwritten p ne))
  ]

  module _ (empty : row_at rows at ≡ None) (absent : IsAbsent row.kind row.key rows) where
    same_rows : (p : ℕ) → row_at rows p ≢ None → row_at (set rows at (Some row)) p ≡ row_at rows p
    same_rows p l = unwritten p (λ e. l (ap (row_at rows) e ∙ empty))

    listed_add : (order : List ℕ) → AllLive rows order → listed_in (set rows at (Some row)) (order ++ at ∷ []) ≡ listed_in rows order ++ row_view row ∷ []
    listed_add order l =
        map-append (λ p. listed_as (row_at (set rows at (Some row)) p)) order (at ∷ [])
        ∙ ap (λ (es : List (RowId × Kept)). es ++ listed_as (row_at (set rows at (Some row)) at) ∷ []) (listed_same rows (set rows at (Some row)) order same_rows l)
        ∙ ap (λ (o : Option Row). listed_in rows order ++ listed_as o ∷ []) written

    pub add_stays : StayAt rows (set rows at (Some row))
    add_stays = write_stays (λ l. absurd (l empty))

    pub add_rows : (order : List ℕ) → AreRows rows order → AreRows (set rows at (Some row)) (order ++ at ∷ [])
    add_rows order w = record {
      apart = fill_apart rows at row w.apart absent within;
      live = AllLive-push (set rows at (Some row)) order at (AllLive-stays rows (set rows at (Some row)) order add_stays w.live) live_at;
      all = λ p l. elim (cases_eq p at) as (λ _. is_among p (order ++ at ∷ []) ≡ true) [
        | inl e ↦ ap (λ i. is_among i (order ++ at ∷ [])) e ∙ among-push order at
        | inr ne ↦ among-more order p at (w.all p (λ none. l (unwritten p ne ∙ none)))
      ];
      listed = subst AreApart (sym (listed_add order w.live))
          (AreApart-push (row_view row).0 (row_view row).1 (listed_in rows order) (listed_absent rows order row.kind row.key absent w.live) w.listed);
    }

-- ids that are listed in other places' stead stand apart as before
apart_ids : (old later : List (Option Row)) (order : List ℕ) → ((p : ℕ) → row_at old p ≢ None → id_in later p ≡ id_in old p) → AllLive old order → AreApart (listed_in old order) → AreApart (listed_in later order)
apart_ids old later [] same l a = tt
apart_ids old later (p ∷ order) same l a =
    (ap (λ id. listed_with id (listed_in later order)) (same p l.0) ∙ any_same (id_in old p) order l.1 ∙ a.0, apart_ids old later order same l.1 a.1) where
      any_same : (id : RowId) (ps : List ℕ) → AllLive old ps → listed_with id (listed_in later ps) ≡ listed_with id (listed_in old ps)
      any_same id [] l = refl
      any_same id (q ∷ ps) l = ap (λ i. is_same_row id i || listed_with id (listed_in later ps)) (same q l.0) ∙ ap (λ b. is_same_row id (id_in old q) || b) (any_same id ps l.1)

-- what is found of the id of a place of the order, where each place has something
pub find_by : (f : ℕ → Kept) (rows : List (Option Row)) (order : List ℕ) (at : ℕ) → places.AreApart rows → row_at rows at ≢ None → AllLive rows order → is_among at order ≡ true
    → find row_cmp (id_in rows at) (map {B = RowId × Kept} (λ p. (id_in rows p, f p)) order) ≡ Some (f at)
find_by f rows [] at w here l h = absurd (cc)
find_by f rows (p ∷ order) at w here l h =
    let rest = find row_cmp (id_in rows at) (map {B = RowId × Kept} (λ q. (id_in rows q, f q)) order) in
    ap (λ b. cond b (Some (f p)) rest) (test_place rows at p w here l.0)
    ∙ elim (cases_eq p at) as (λ _. cond (p == at) (Some (f p)) rest ≡ Some (f at)) [
      | inl e ↦ ap (λ b. cond b (Some (f p)) rest) (eq-eqb p at e) ∙ ap (λ i. Some (f i)) e
      | inr ne ↦ ap (λ b. cond b (Some (f p)) rest) (ne_eqb p at ne)
          ∙ find_by f rows order at w here l.1 (elim (either (p == at) (is_among at order) h) as (λ _. is_among at order ≡ true) [ inl e ↦ absurd (ne (eqb-true p at e)) | inr more ↦ more ])
    ]

-- what is found of an id that isn't listed
pub find_none : (f : ℕ → Kept) (rows : List (Option Row)) (order : List ℕ) (q : RowId) → listed_with q (listed_in rows order) ≡ false
    → find row_cmp q (map {B = RowId × Kept} (λ p. (id_in rows p, f p)) order) ≡ None
find_none f rows [] q h = refl
find_none f rows (p ∷ order) q h = by_test (is_same_row q (id_in rows p)) h (find_none f rows order q) where
  by_test : (b : Bool) → (b || listed_with q (listed_in rows order)) ≡ false
      → (listed_with q (listed_in rows order) ≡ false → find row_cmp q (map {B = RowId × Kept} (λ p. (id_in rows p, f p)) order) ≡ None)
      → cond b (Some (f p)) (find row_cmp q (map {B = RowId × Kept} (λ p. (id_in rows p, f p)) order)) ≡ None
  by_test true h rest = absurd (cc)
  by_test false h rest = rest h

pub find_among : (rows : List (Option Row)) (order : List ℕ) (at : ℕ) → places.AreApart rows → row_at rows at ≢ None → AllLive rows order → is_among at order ≡ true
    → find row_cmp (id_in rows at) (listed_in rows order) ≡ Some (listed_as (row_at rows at)).1
find_among rows order at w here l h = find_by (λ p. (listed_as (row_at rows p)).1) rows order at w here l h

-- The row of a place gets another base and other swaps.
module _ (rows : List (Option Row)) (at : ℕ) (row new : Row) (within : at < length rows) (is : row_at rows at ≡ Some row) (kind : new.kind ≡ row.kind) (key : new.key ≡ row.key) where
  same_id : (row_view new).0 ≡ id_in rows at
  same_id = rw (kind, key) (sym (id_here rows at row is))

  pub reset_stays : StayAt rows (set rows at (Some new))
  reset_stays = write_stays rows at new within (λ l. sym same_id)

  live_here : row_at rows at ≢ None
  live_here e = absurd (cc (is, e))

  pub reset_rows : (order : List ℕ) → AreRows rows order → AreRows (set rows at (Some new)) order
  reset_rows order w = record {
    apart = reset_apart rows at row new w.apart within is kind key;
    live = AllLive-stays rows (set rows at (Some new)) order reset_stays w.live;
    all = λ p l. w.all p (λ none. elim (cases_eq p at) as (λ _. ⊥) [
      | inl e ↦ live_here (ap (row_at rows) (sym e) ∙ none)
      | inr ne ↦ l (unwritten rows at new within p ne ∙ none)
    ]);
    listed = apart_ids rows (set rows at (Some new)) order (λ p l. (reset_stays p l).1) w.live w.listed;
  }

-- where a row is written there was one, and elsewhere as before
pub set_back : (rows : List (Option Row)) (at : ℕ) (row new : Row) → at < length rows → row_at rows at ≡ Some row → (p : ℕ) → row_at (set rows at (Some new)) p ≢ None → row_at rows p ≢ None
set_back rows at row new within is p l none = elim (cases_eq p at) as (λ _. ⊥) [
  | inl e ↦ absurd (cc (is, ap (row_at rows) (sym e), none))
  | inr ne ↦ l (unwritten rows at new within p ne ∙ none)
]
