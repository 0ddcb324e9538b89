-- Rows with what came to them, and the map that they make.
use Rattle.std.proofs.Common.{◌≡◌, ◌≢◌, ℕ, Bool, true, false, cond, not, ◌==◌, ◌||◌, List, [], ◌∷◌, ◌++◌, Option, Some, None, inl, inr, refl, sym, ap, ◌∙◌}
use Rattle.std.specs.Prelude.{unwrap_or, pos}
use Rattle.std.proofs.lemmas.Bool.{cases_eq, eq-eqb, ne_eqb}
use Rattle.std.specs.FinMap.{get, insert, retain_keys, get-insert, get-from_entries, get-retain_keys, same_map}
use Rattle.sd_model_shard.specs.Rows as model
use Rattle.sd_model_shard.specs.Rows.{RowId, Kept, Summary, is_same_row, row_in, without_samples}
use Rattle.sd_model_shard.proofs.RowLemmas.{rows_exact, rows_total}
use Rattle.sd_rows.specs.Rows.{row_at}
use Rattle.sd_rows.specs.declared.row.Row.{Row}
use Rattle.sd_rows.proofs.MapLemmas.{not_true}
use Rattle.sd_epoch.specs.Places.{id_in, listed_in, kept_as, kept_in, reported_in, reported_live, AllLive, is_among, AreRows, StayAt}
use Rattle.sd_epoch.specs.Table.{listed_with}
use Rattle.sd_epoch.proofs.ListingLemmas.{same_row}
use Rattle.sd_epoch.proofs.PlaceLemmas.{find_by, find_none, listed_among, test_place}

behind : (a b : Bool) → b ≡ true → (a || b) ≡ true
behind true b e = refl
behind false b e = e

-- a listed id is that of a place
pub listed_place : (rows : List (Option Row)) (order : List ℕ) (q : RowId) → AllLive rows order → listed_with q (listed_in rows order) ≡ true
    → (p : ℕ) × (row_at rows p ≢ None) × (is_among p order ≡ true) × (q ≡ id_in rows p)
listed_place rows [] q l h = absurd (cc)
listed_place rows (p ∷ order) q l h = by_test (is_same_row q (id_in rows p)) refl h (listed_place rows order q l.1) where
  by_test : (b : Bool) → is_same_row q (id_in rows p) ≡ b → (b || listed_with q (listed_in rows order)) ≡ true
      → (listed_with q (listed_in rows order) ≡ true → (i : ℕ) × (row_at rows i ≢ None) × (is_among i order ≡ true) × (q ≡ id_in rows i))
      → (i : ℕ) × (row_at rows i ≢ None) × (is_among i (p ∷ order) ≡ true) × (q ≡ id_in rows i)
  by_test true s h more = (p, l.0, ap (λ b. b || is_among p order) (eq-eqb p p refl), same_row q (id_in rows p) s)
  by_test false s h more = let there = more h in (there.0, there.1, behind (p == there.0) (is_among there.0 order) there.2, there.3)

module _ (rows : List (Option Row)) (order : List ℕ) (w : AreRows rows order) where
  -- what is found at the id of a place, and at an id that isn't listed
  pub reported_at : (since : ℕ → Summary) (p : ℕ) → row_at rows p ≢ None → get (reported_live rows since order) (id_in rows p) ≡ Some (kept_in rows since p)
  reported_at since p here = get-from_entries rows_total (reported_in rows since order) (id_in rows p) ∙ find_by (kept_in rows since) rows order p w.apart here w.live (w.all p here)

  pub reported_none : (since : ℕ → Summary) (q : RowId) → listed_with q (listed_in rows order) ≡ false → get (reported_live rows since order) q ≡ None
  reported_none since q h = get-from_entries rows_total (reported_in rows since order) q ∙ find_none (kept_in rows since) rows order q h

  -- a map that has the same at each id is this one
  pub reported_is : (since : ℕ → Summary) (m : model.Rows) → ((p : ℕ) → row_at rows p ≢ None → get m (id_in rows p) ≡ Some (kept_in rows since p))
      → ((q : RowId) → listed_with q (listed_in rows order) ≡ false → get m q ≡ None) → reported_live rows since order ≡ m
  reported_is since m there nowhere = same_map rows_total rows_exact (reported_live rows since order) m (λ q. by_test q (listed_with q (listed_in rows order)) refl) where
    by_test : (q : RowId) (b : Bool) → listed_with q (listed_in rows order) ≡ b → get (reported_live rows since order) q ≡ get m q
    by_test q true h =
        let at = listed_place rows order q w.live h in
        ap (get (reported_live rows since order)) at.3 ∙ reported_at since at.0 at.1 ∙ sym (there at.0 at.1) ∙ ap (get m) (sym at.3)
    by_test q false h = reported_none since q h ∙ sym (nowhere q h)

-- ids that stay are listed as before
listed_still : (rows later : List (Option Row)) (order : List ℕ) → StayAt rows later → AllLive rows order → (q : RowId) → listed_with q (listed_in later order) ≡ listed_with q (listed_in rows order)
listed_still rows later [] stay l q = refl
listed_still rows later (p ∷ order) stay l q =
    ap (λ id. is_same_row q id || listed_with q (listed_in later order)) (stay p l.0).1 ∙ ap (λ b. is_same_row q (id_in rows p) || b) (listed_still rows later order stay l.1 q)

-- where an id is that of a place of the order, it is listed
not_same : (rows : List (Option Row)) (order : List ℕ) (at : ℕ) → is_among at order ≡ true → (q : RowId) → listed_with q (listed_in rows order) ≡ false → is_same_row q (id_in rows at) ≡ false
not_same rows order at among q h =
    not_true (is_same_row q (id_in rows at)) (λ t. absurd (cc (h, ap (λ (i : RowId). listed_with i (listed_in rows order)) (same_row q (id_in rows at) t), listed_among rows order at among)))

-- something else is kept of the row in a place, and of the others the same
pub reported_set : (rows later : List (Option Row)) (order : List ℕ) (since since' : ℕ → Summary) (at : ℕ) → AreRows rows order → AreRows later order → StayAt rows later
    → ((p : ℕ) → row_at later p ≢ None → row_at rows p ≢ None) → row_at rows at ≢ None → ((p : ℕ) → p ≢ at → kept_in later since' p ≡ kept_in rows since p)
    → reported_live later since' order ≡ insert (reported_live rows since order) (id_in rows at) (kept_in later since' at)
reported_set rows later order since since' at w w' stay back here others =
    let m = reported_live rows since order in
    let v = kept_in later since' at in
    let id = id_in rows at in
    reported_is later order w' since' (insert m id v)
    (λ p l.
    let old = back p l in
    ap (get (insert m id v)) (stay p old).1 ∙ get-insert rows_total m id v (id_in rows p)
    ∙ ap (λ b. cond b (Some v) (get m (id_in rows p))) (test_place rows p at w.apart old here)
    ∙ elim (cases_eq at p) as (λ _. cond (at == p) (Some v) (get m (id_in rows p)) ≡ Some (kept_in later since' p)) [
      | inl e ↦ ap (λ b. cond b (Some v) (get m (id_in rows p))) (eq-eqb at p e) ∙ ap (λ i. Some (kept_in later since' i)) e
      | inr ne ↦ ap (λ b. cond b (Some v) (get m (id_in rows p))) (ne_eqb at p ne) ∙ reported_at rows order w since p old ∙ ap Some (sym (others p (λ e. ne (sym e))))
    ])
    (λ q h.
    let was = sym (listed_still rows later order stay w.live q) ∙ h in
    get-insert rows_total m id v q ∙ ap (λ b. cond b (Some v) (get m q)) (not_same rows order at (w.all at here) q was) ∙ reported_none rows order w since q was)

-- a row comes to a place that was empty
pub reported_add : (rows later : List (Option Row)) (order : List ℕ) (since since' : ℕ → Summary) (at : ℕ) → AreRows rows order → AreRows later (order ++ at ∷ []) → StayAt rows later
    → row_at rows at ≡ None → row_at later at ≢ None → ((p : ℕ) → p ≢ at → row_at later p ≡ row_at rows p) → ((p : ℕ) → p ≢ at → since' p ≡ since p)
    → reported_live later since' (order ++ at ∷ []) ≡ insert (reported_live rows since order) (id_in later at) (kept_in later since' at)
reported_add rows later order since since' at w w' stay empty here others same =
    let m = reported_live rows since order in
    let v = kept_in later since' at in
    let id = id_in later at in
    reported_is later (order ++ at ∷ []) w' since' (insert m id v)
    (λ p l.
    get-insert rows_total m id v (id_in later p)
    ∙ ap (λ b. cond b (Some v) (get m (id_in later p))) (test_place later p at w'.apart l here)
    ∙ elim (cases_eq at p) as (λ _. cond (at == p) (Some v) (get m (id_in later p)) ≡ Some (kept_in later since' p)) [
      | inl e ↦ ap (λ b. cond b (Some v) (get m (id_in later p))) (eq-eqb at p e) ∙ ap (λ i. Some (kept_in later since' i)) e
      | inr ne ↦
          let away : p ≢ at = λ e. ne (sym e) in
          let old : row_at rows p ≢ None = λ none. l (others p away ∙ none) in
          ap (λ b. cond b (Some v) (get m (id_in later p))) (ne_eqb at p ne)
          ∙ ap (get m) (stay p old).1 ∙ reported_at rows order w since p old
          ∙ ap Some (kept_same p away)
    ])
    (λ q h.
    let parts = split order q h in
    get-insert rows_total m id v q ∙ ap (λ b. cond b (Some v) (get m q)) parts.1
    ∙ reported_none rows order w since q (sym (listed_still rows later order stay w.live q) ∙ parts.0)) where
      kept_same : (p : ℕ) → p ≢ at → kept_in rows since p ≡ kept_in later since' p
      kept_same p away = sym (ap (λ (o : Option Row). kept_as o (since' p)) (others p away) ∙ ap (kept_as (row_at rows p)) (same p away))

      or_parts : (a b : Bool) → (a || b) ≡ false → (a ≡ false) × (b ≡ false)
      or_parts true b h = absurd (cc)
      or_parts false b h = (refl, h)

      split : (ps : List ℕ) (q : RowId) → listed_with q (listed_in later (ps ++ at ∷ [])) ≡ false → (listed_with q (listed_in later ps) ≡ false) × (is_same_row q (id_in later at) ≡ false)
      split [] q h = (refl, (or_parts (is_same_row q (id_in later at)) false h).0)
      split (p ∷ ps) q h =
          let first = or_parts (is_same_row q (id_in later p)) (listed_with q (listed_in later (ps ++ at ∷ []))) h in
          let rest = split ps q first.1 in
          (ap (λ b. b || listed_with q (listed_in later ps)) first.0 ∙ rest.0, rest.1)

-- some of the rows are left
pub reported_left : (gone : RowId → Bool) (rows left : List (Option Row)) (order order' : List ℕ) (since since' : ℕ → Summary) → AreRows rows order → AreRows left order'
    → ((p : ℕ) → row_at left p ≢ None → (row_at rows p ≢ None) × (gone (id_in rows p) ≡ false) × (kept_in left since' p ≡ kept_in rows since p) × (id_in left p ≡ id_in rows p))
    → ((p : ℕ) → row_at rows p ≢ None → gone (id_in rows p) ≡ false → row_at left p ≢ None)
    → reported_live left since' order' ≡ retain_keys (reported_live rows since order) (λ id. not (gone id))
reported_left gone rows left order order' since since' w w' back stays =
    let m = reported_live rows since order in
    let rest = retain_keys m (λ id. not (gone id)) in
    let at_rest : (q : RowId) → get rest q ≡ cond (not (gone q)) (get m q) None = λ q. get-retain_keys m (λ id. not (gone id)) q (λ x tie. ap (λ (r : RowId). not (gone r)) (sym (rows_exact q x tie))) in
    reported_is left order' w' since' rest
    (λ p l.
    let was = back p l in
    ap (get rest) was.3 ∙ at_rest (id_in rows p) ∙ ap (λ b. cond (not b) (get m (id_in rows p)) None) was.1 ∙ reported_at rows order w since p was.0 ∙ ap Some (sym was.2))
    (λ q h. at_rest q ∙ by_test q h (gone q) refl (listed_with q (listed_in rows order)) refl) where
      by_test : (q : RowId) → listed_with q (listed_in left order') ≡ false → (g : Bool) → gone q ≡ g → (b : Bool) → listed_with q (listed_in rows order) ≡ b
          → cond (not g) (get (reported_live rows since order) q) None ≡ None
      by_test q h true is b listed = refl
      by_test q h false is true listed =
          let at = listed_place rows order q w.live listed in
          let here = stays at.0 at.1 (ap gone (sym at.3) ∙ is) in
          absurd (cc (h, ap (λ (i : RowId). listed_with i (listed_in left order')) (at.3 ∙ sym (back at.0 here).3), listed_among left order' at.0 (w'.all at.0 here)))
      by_test q h false is false listed = reported_none rows order w since q listed

-- the row of an id, where it is that of a place
pub row_reported : (rows : List (Option Row)) (order : List ℕ) → AreRows rows order → (since : ℕ → Summary) (p : ℕ) → row_at rows p ≢ None → row_in (reported_live rows since order) (id_in rows p) ≡ kept_in rows since p
row_reported rows order w since p here = ap (λ (o : Option Kept). unwrap_or o (without_samples (pos 0) 0)) (reported_at rows order w since p here)
