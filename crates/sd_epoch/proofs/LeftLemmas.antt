-- Rows of some ids go, and what names their places with them.
use Rattle.std.proofs.Common.{◌≡◌, ◌≢◌, ℕ, zero, suc, ◌<◌, Bool, true, false, cond, not, ◌==◌, ◌||◌, List, [], ◌∷◌, length, get_or, set, map, filter, Option, Some, None, is_some, inl, inr, refl, sym, ap, subst, ◌∙◌, arith}
use Rattle.std.proofs.lemmas.Bool.{cases_eq, eqb-true, ne_eqb}
use Rattle.sd_model_shard.specs.Rows.{RowId, Kept, is_same_row}
use Rattle.sd_key.specs.declared.kind.Kind.{Kind}
use Rattle.sd_rows.specs.Rows as places
use Rattle.sd_rows.specs.Rows.{row_at, Holds}
use Rattle.sd_rows.specs.declared.row.Row.{Row}
use Rattle.sd_rows.proofs.IndexLemmas.{set_differs, present_within, some_of}
use Rattle.sd_rows.proofs.MapLemmas.{not_true, has_holds, holds_has}
use Rattle.sd_epoch.specs.Places.{listed_as, id_in, listed_in, AllLive, is_among, AreRows, left_by, AreLeft}
use Rattle.sd_epoch.specs.Table.{AreApart, id_of, row_view}
use Rattle.sd_epoch.proofs.ChainLemmas.{own}
use Rattle.sd_epoch.proofs.ForgetLemmas.{AreApart-filter}

map-cond : {A B : Type 0} (f : A → B) (b : Bool) (x : A) (xs : List A) → map f (cond b (x ∷ xs) xs) ≡ cond b (f x ∷ map f xs) (map f xs)
map-cond f true x xs = refl
map-cond f false x xs = refl

pick : {A : Type 0} (b : Bool) (x y : A) (xs ys : List A) → (b ≡ true → x ≡ y) → xs ≡ ys → cond b (x ∷ xs) xs ≡ cond b (y ∷ ys) ys
pick true x y xs ys h e = ap (λ z. z ∷ xs) (h refl) ∙ ap (λ zs. y ∷ zs) e
pick false x y xs ys h e = e

live_some : (o : Option Row) → is_some o ≡ true → o ≢ None
live_some None h = absurd (cc)
live_some (Some row) h = λ e. absurd (cc)

some_live : (o : Option Row) → o ≢ None → is_some o ≡ true
some_live None h = absurd (h refl)
some_live (Some row) h = refl

-- the places of an order that have a row
all_live : (left : List (Option Row)) (order : List ℕ) → AllLive left (filter (λ p. is_some (row_at left p)) order)
all_live left [] = tt
all_live left (p ∷ order) = by_test (is_some (row_at left p)) refl (all_live left order) where
  by_test : (b : Bool) → is_some (row_at left p) ≡ b → AllLive left (filter (λ i. is_some (row_at left i)) order)
      → AllLive left (cond b (p ∷ filter (λ i. is_some (row_at left i)) order) (filter (λ i. is_some (row_at left i)) order))
  by_test true h rest = (live_some (row_at left p) h, rest)
  by_test false h rest = rest

-- and those that items name
pub all_owned : {A : Type 0} (place_of : A → ℕ) (left : List (Option Row)) (items : List A) → AllLive left (map place_of (filter (λ e. is_some (row_at left (place_of e))) items))
all_owned place_of left [] = tt
all_owned {A} place_of left (e ∷ items) = by_test (is_some (row_at left (place_of e))) refl (all_owned place_of left items) where
  rest : List A
  rest = filter (λ (x : A). is_some (row_at left (place_of x))) items

  by_test : (b : Bool) → is_some (row_at left (place_of e)) ≡ b → AllLive left (map place_of rest) → AllLive left (map place_of (cond b (e ∷ rest) rest))
  by_test true h l = (live_some (row_at left (place_of e)) h, l)
  by_test false h l = l

-- of a place that has a row, all that names it is left
pub own_left : {A : Type 0} (place_of : A → ℕ) (left : List (Option Row)) (p : ℕ) → row_at left p ≢ None → (items : List A)
    → own place_of p (filter (λ e. is_some (row_at left (place_of e))) items) ≡ own place_of p items
own_left place_of left p l [] = refl
own_left {A} place_of left p l (e ∷ items) = by_tests (is_some (row_at left (place_of e))) refl (place_of e == p) refl (own_left place_of left p l items) where
  rest : List A
  rest = filter (λ (x : A). is_some (row_at left (place_of x))) items

  by_tests : (b : Bool) → is_some (row_at left (place_of e)) ≡ b → (t : Bool) → (place_of e == p) ≡ t → own place_of p rest ≡ own place_of p items
      → own place_of p (cond b (e ∷ rest) rest) ≡ cond t (e ∷ own place_of p items) (own place_of p items)
  by_tests true here true e' ih = ap (λ t. cond t (e ∷ own place_of p rest) (own place_of p rest)) e' ∙ ap (λ (es : List A). e ∷ es) ih
  by_tests true here false e' ih = ap (λ t. cond t (e ∷ own place_of p rest) (own place_of p rest)) e' ∙ ih
  by_tests false here true e' ih = absurd (cc (here, ap (λ i. is_some (row_at left i)) (eqb-true (place_of e) p e'), some_live (row_at left p) l))
  by_tests false here false e' ih = ih

among_left : (left : List (Option Row)) (order : List ℕ) (place : ℕ) → is_among place order ≡ true → is_some (row_at left place) ≡ true → is_among place (filter (λ p. is_some (row_at left p)) order) ≡ true
among_left left [] place h s = absurd (cc)
among_left left (p ∷ order) place h s = by_tests (is_some (row_at left p)) refl (p == place) refl h (λ more. among_left left order place more s) where
  rest : List ℕ
  rest = filter (λ i. is_some (row_at left i)) order

  by_tests : (b : Bool) → is_some (row_at left p) ≡ b → (t : Bool) → (p == place) ≡ t → (t || is_among place order) ≡ true → (is_among place order ≡ true → is_among place rest ≡ true)
      → is_among place (cond b (p ∷ rest) rest) ≡ true
  by_tests true l true e h more = ap (λ t. t || is_among place rest) e
  by_tests true l false e h more = ap (λ t. t || is_among place rest) e ∙ more h
  by_tests false l true e h more = absurd (cc (l, ap (λ i. is_some (row_at left i)) (eqb-true p place e), s))
  by_tests false l false e h more = more h

-- Rows of some ids go.
module _ (gone : RowId → Bool) (rows left : List (Option Row)) (are : AreLeft gone rows left) where
  left_row : (o : Option Row) (row : Row) → left_by gone o ≡ Some row → (o ≡ Some row) × (gone (row_view row).0 ≡ false)
  left_row None row e = absurd (cc)
  left_row (Some r) row e = by_test (gone (row_view r).0) refl e where
    by_test : (b : Bool) → gone (row_view r).0 ≡ b → cond b None (Some r) ≡ Some row → (Some r ≡ Some row) × (gone (row_view row).0 ≡ false)
    by_test true g e = absurd (cc)
    by_test false g e = let same : r ≡ row = cc in (e, ap (λ (x : Row). gone (row_view x).0) (sym same) ∙ g)

  left_some : (o : Option Row) → o ≢ None → is_some (left_by gone o) ≡ not (gone (listed_as o).0)
  left_some None l = absurd (l refl)
  left_some (Some r) l = by_test (gone (row_view r).0) where
    by_test : (b : Bool) → is_some (cond b None (Some r)) ≡ not b
    by_test true = refl
    by_test false = refl

  left_holds : (o : Option Row) (kind : Kind) (key : List ℕ) → Holds kind key (left_by gone o) → Holds kind key o
  left_holds None kind key h = h
  left_holds (Some r) kind key h = by_test (gone (row_view r).0) h where
    by_test : (b : Bool) → Holds kind key (cond b None (Some r)) → Holds kind key (Some r)
    by_test true h = absurd h
    by_test false h = h

  left_listed : (o : Option Row) → is_some (left_by gone o) ≡ true → listed_as (left_by gone o) ≡ listed_as o
  left_listed None h = refl
  left_listed (Some r) h = by_test (gone (row_view r).0) h where
    by_test : (b : Bool) → is_some (cond b None (Some r)) ≡ true → listed_as (cond b None (Some r)) ≡ listed_as (Some r)
    by_test true h = absurd (cc)
    by_test false h = refl

  pub test_left : (p : ℕ) → row_at rows p ≢ None → is_some (row_at left p) ≡ not (gone (id_in rows p))
  test_left p l = ap is_some (are p) ∙ left_some (row_at rows p) l

  pub listed_here : (p : ℕ) → is_some (row_at left p) ≡ true → listed_as (row_at left p) ≡ listed_as (row_at rows p)
  listed_here p h = ap listed_as (are p) ∙ left_listed (row_at rows p) (sym (ap is_some (are p)) ∙ h)

  pub listed_left : (order : List ℕ) → AllLive rows order → listed_in left (filter (λ p. is_some (row_at left p)) order) ≡ filter (λ (e : RowId × Kept). not (gone e.0)) (listed_in rows order)
  listed_left [] l = refl
  listed_left (p ∷ order) l =
      map-cond (λ i. listed_as (row_at left i)) (is_some (row_at left p)) p (filter (λ i. is_some (row_at left i)) order)
      ∙ pick (is_some (row_at left p)) _ (listed_as (row_at rows p)) _ _ (listed_here p) (listed_left order l.1)
      ∙ ap (λ b. cond b (listed_as (row_at rows p) ∷ filter (λ (e : RowId × Kept). not (gone e.0)) (listed_in rows order)) (filter (λ (e : RowId × Kept). not (gone e.0)) (listed_in rows order))) (test_left p l.0)

  left_apart : places.AreApart rows → places.AreApart left
  left_apart w p q kind key hp hq =
      w p q kind key (left_holds (row_at rows p) kind key (subst (Holds kind key) (are p) hp)) (left_holds (row_at rows q) kind key (subst (Holds kind key) (are q) hq))

  left_here : (p : ℕ) → row_at left p ≢ None → row_at rows p ≢ None
  left_here p l e = l (are p ∙ ap (left_by gone) e)

  pub left_rows : (order : List ℕ) → AreRows rows order → AreRows left (filter (λ p. is_some (row_at left p)) order)
  left_rows order w = record {
    apart = left_apart w.apart;
    live = all_live left order;
    all = λ p l. among_left left order p (w.all p (left_here p l)) (some_live (row_at left p) l);
    listed = subst AreApart (sym (listed_left order w.live)) (AreApart-filter (λ r. not (gone r)) (listed_in rows order) w.listed);
  }

  -- a row that is left was there, and didn't go
  pub left_was : (p : ℕ) → row_at left p ≢ None → (row_at rows p ≢ None) × (gone (id_in rows p) ≡ false) × (row_at left p ≡ row_at rows p)
  left_was p l =
      let row = some_of (row_at left p) l in
      let was = left_row (row_at rows p) row.0 (sym (are p) ∙ row.1) in
      (left_here p l, ap (λ (o : Option Row). gone (listed_as o).0) was.0 ∙ was.1, row.1 ∙ sym was.0)

  pub left_stays : (p : ℕ) → row_at rows p ≢ None → gone (id_in rows p) ≡ false → row_at left p ≢ None
  left_stays p l h = live_some (row_at left p) (test_left p l ∙ ap not h)

stays_in : (o : Option Row) (kind : Kind) (key : List ℕ) → (Holds kind key o → ⊥) → left_by (is_same_row (id_of kind key)) o ≡ o
stays_in None kind key other = refl
stays_in (Some row) kind key other = ap (λ b. cond b None (Some row)) (not_true _ (λ t. other (has_holds kind key (Some row) t)))

goes_from : (o : Option Row) (kind : Kind) (key : List ℕ) → Holds kind key o → left_by (is_same_row (id_of kind key)) o ≡ None
goes_from None kind key h = absurd h
goes_from (Some row) kind key h = ap (λ b. cond b None (Some row)) (holds_has kind key (Some row) h)

-- a kind and key that is absent goes from nowhere
pub none_gone : (rows : List (Option Row)) (kind : Kind) (key : List ℕ) → places.IsAbsent kind key rows → AreLeft (is_same_row (id_of kind key)) rows rows
none_gone rows kind key absent p = sym (stays_in (row_at rows p) kind key (absent p))

-- to empty the place of a kind and key is to let it go
pub one_gone : (rows : List (Option Row)) (at : ℕ) (kind : Kind) (key : List ℕ) → places.AreApart rows → at < length rows → Holds kind key (row_at rows at) → AreLeft (is_same_row (id_of kind key)) rows (set rows at None)
one_gone rows at kind key w within h p =
    let D = set_differs rows at None None within in
    elim (cases_eq p at) as (λ _. row_at (set rows at None) p ≡ left_by (is_same_row (id_of kind key)) (row_at rows p)) [
      | inl e ↦ ap (λ i. row_at (set rows at None) i) e ∙ D.at ∙ sym (goes_from (row_at rows p) kind key (subst (λ i. Holds kind key (row_at rows i)) (sym e) h))
      | inr ne ↦ D.other p ne ∙ sym (stays_in (row_at rows p) kind key (λ there. ne (w p at kind key there h)))
    ]

-- the place that an item names is one of the places
pub owned_within : {A : Type 0} (place_of : A → ℕ) (rows : List (Option Row)) (items : List A) → AllLive rows (map place_of items) → (i : ℕ) (d : A) → i < length items → place_of (get_or items i d) < length rows
owned_within place_of rows [] l i d lt = absurd (omega arith)
owned_within place_of rows (e ∷ items) l zero d lt = present_within rows (place_of e) l.0
owned_within place_of rows (e ∷ items) l (suc i) d lt = owned_within place_of rows items l.1 i d (omega arith)

-- what no item names has none
pub none_own : {A : Type 0} (place_of : A → ℕ) (rows : List (Option Row)) (p : ℕ) → row_at rows p ≡ None → (items : List A) → AllLive rows (map place_of items) → own place_of p items ≡ []
none_own place_of rows p none [] l = refl
none_own {A} place_of rows p none (e ∷ items) l =
    ap (λ b. cond b (e ∷ own place_of p items) (own place_of p items)) (ne_eqb (place_of e) p (λ same. l.0 (ap (row_at rows) same ∙ none))) ∙ none_own place_of rows p none items l.1
