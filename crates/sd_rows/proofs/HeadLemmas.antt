-- Rows whose keys stand apart, and lists that are padded.
use Rattle.std.proofs.Common.{◌≡◌, ◌≢◌, ℕ, zero, suc, ◌+◌, ◌-◌, ◌<◌, ◌≤◌, List, [], ◌∷◌, ◌++◌, length, get_or, set, Option, None, replicate, refl, sym, subst, ap, ◌∙◌, arith}
use Rattle.std.proofs.lemmas.List.{get_or_read, length-set, length-append, length-replicate, length-map, map-append, map-set, set-set, get_or-set_same, set-append_left, append_assoc}
use Rattle.sd_rows.specs.Index.{taken_count}
use Rattle.sd_rows.specs.Heads.{no_head, row_with, rows_with, tallies_in, padded}
use Rattle.sd_rows.specs.Rows.{Places, no_tally, AreApart, Holds}
use Rattle.sd_rows.specs.RowsInside.{rows_in, places_of}
use Rattle.sd_rows.specs.declared.head.Head.{Head}
use Rattle.sd_rows.specs.declared.row.Row.{Row}
use Rattle.sd_rows.specs.declared.rows.Rows.TheInside.{Inside}
use Rattle.sd_rows.specs.declared.tally.Tally.{Tally}
use Rattle.sd_rows.proofs.IndexLemmas.{present_within, get_or_padded, length-pushed, taken_count-append}

pub length-rows_with : (heads : List Head) (keys : List (List ℕ)) → length (rows_with heads keys) ≡ length heads
length-rows_with [] keys = refl
length-rows_with (head ∷ heads) [] = ap suc (length-rows_with heads [])
length-rows_with (head ∷ heads) (key ∷ keys) = ap suc (length-rows_with heads keys)

pub rows_with-at : (heads : List Head) (keys : List (List ℕ)) (i : ℕ) → get_or (rows_with heads keys) i None ≡ row_with (get_or heads i no_head) (get_or keys i [])
rows_with-at [] keys i = refl
rows_with-at (head ∷ heads) [] zero = refl
rows_with-at (head ∷ heads) [] (suc i) = rows_with-at heads [] i
rows_with-at (head ∷ heads) (key ∷ keys) zero = refl
rows_with-at (head ∷ heads) (key ∷ keys) (suc i) = rows_with-at heads keys i

pub rows_with-head : (heads : List Head) (keys : List (List ℕ)) (i : ℕ) (head : Head) → rows_with (set heads i head) keys ≡ set (rows_with heads keys) i (row_with head (get_or keys i []))
rows_with-head [] keys i head = refl
rows_with-head (h ∷ heads) [] zero head = refl
rows_with-head (h ∷ heads) [] (suc i) head = ap (λ rows. row_with h [] ∷ rows) (rows_with-head heads [] i head)
rows_with-head (h ∷ heads) (key ∷ keys) zero head = refl
rows_with-head (h ∷ heads) (key ∷ keys) (suc i) head = ap (λ rows. row_with h key ∷ rows) (rows_with-head heads keys i head)

pub rows_with-key : (heads : List Head) (keys : List (List ℕ)) (i : ℕ) (key : List ℕ) → i < length keys → rows_with heads (set keys i key) ≡ set (rows_with heads keys) i (row_with (get_or heads i no_head) key)
rows_with-key [] keys i key lt = refl
rows_with-key (h ∷ heads) [] i key lt = absurd (omega arith)
rows_with-key (h ∷ heads) (k ∷ keys) zero key lt = refl
rows_with-key (h ∷ heads) (k ∷ keys) (suc i) key lt = ap (λ rows. row_with h k ∷ rows) (rows_with-key heads keys i key (omega arith))

pub rows_with-push : (heads : List Head) (keys : List (List ℕ)) (head : Head) (key : List ℕ) → length keys ≡ length heads
    → rows_with (heads ++ head ∷ []) (keys ++ key ∷ []) ≡ rows_with heads keys ++ row_with head key ∷ []
rows_with-push [] [] head key e = refl
rows_with-push [] (k ∷ keys) head key e = absurd (omega arith)
rows_with-push (h ∷ heads) [] head key e = absurd (omega arith)
rows_with-push (h ∷ heads) (k ∷ keys) head key e = ap (λ rows. row_with h k ∷ rows) (rows_with-push heads keys head key (omega arith))

-- a place is given a head and a key
pub rows_with-both :
    (heads : List Head) (keys : List (List ℕ)) (i : ℕ) (head : Head) (key : List ℕ) → length keys ≡ length heads → i < length heads
    → rows_with (set heads i head) (set keys i key) ≡ set (rows_with heads keys) i (row_with head key)
rows_with-both heads keys i head key len lt =
    rows_with-key (set heads i head) keys i key (omega arith)
    ∙ ap (λ rows. set rows i (row_with (get_or (set heads i head) i no_head) key)) (rows_with-head heads keys i head)
    ∙ set-set (rows_with heads keys) i _ _
    ∙ ap (λ h. set (rows_with heads keys) i (row_with h key)) (get_or-set_same heads i head no_head lt)

-- a head whose tally stays
pub tallies-same : (heads : List Head) (i : ℕ) (head : Head) → head.tally ≡ (get_or heads i no_head).tally → tallies_in (set heads i head) ≡ tallies_in heads
tallies-same [] i head e = refl
tallies-same (h ∷ heads) zero head e = ap (λ t. t ∷ tallies_in heads) e
tallies-same (h ∷ heads) (suc i) head e = ap (λ ts. h.tally ∷ ts) (tallies-same heads i head e)

pub tallies-at : (heads : List Head) (i : ℕ) → get_or (tallies_in heads) i no_tally ≡ (get_or heads i no_head).tally
tallies-at [] i = refl
tallies-at (h ∷ heads) zero = refl
tallies-at (h ∷ heads) (suc i) = tallies-at heads i

pub length-padded : {X : Type 0} (x : X) (n : ℕ) (xs : List X) → length xs ≤ n → length (padded x n xs) ≡ n
length-padded x n xs le = omega (arith, length-append xs (replicate (n - length xs) x), length-replicate (n - length xs) x)

pub padded-set : {X : Type 0} (x : X) (n : ℕ) (xs : List X) (i : ℕ) (y : X) → i < length xs → padded x n (set xs i y) ≡ set (padded x n xs) i y
padded-set x n xs i y lt =
    ap (λ m. set xs i y ++ replicate (n - m) x) (length-set xs i y) ∙ sym (set-append_left xs (replicate (n - length xs) x) i y lt)

less_one : (n m : ℕ) → m < n → n - m ≡ suc (n - (m + 1))
less_one n m lt = omega arith

pub padded-push : {X : Type 0} (x : X) (n : ℕ) (xs : List X) → length xs < n → padded x n (xs ++ x ∷ []) ≡ padded x n xs
padded-push x n xs lt =
    ap (λ m. (xs ++ x ∷ []) ++ replicate (n - m) x) (length-pushed xs x)
    ∙ append_assoc xs (x ∷ []) (replicate (n - (length xs + 1)) x)
    ∙ ap (λ m. xs ++ replicate m x) (sym (less_one n (length xs) lt))

-- What contracts see of the places is what stands in those that were in use, and nothing behind them.
module _ (x : Inside) (v : Places) (e : places_of x ≡ v) where
  pub seen_row : (p : ℕ) → get_or v.rows p None ≡ get_or (rows_in x) p None
  seen_row p = ap (λ u. get_or u.rows p None) (sym e) ∙ get_or_padded (rows_in x) _ p None

  pub seen_tally : (p : ℕ) → get_or v.tallies p no_tally ≡ (get_or x.heads.items p no_head).tally
  seen_tally p = ap (λ u. get_or u.tallies p no_tally) (sym e) ∙ get_or_padded (tallies_in x.heads.items) _ p no_tally ∙ tallies-at x.heads.items p

  pub seen_len : length x.heads.items ≤ x.room → length v.rows ≡ x.room
  seen_len le = ap (λ u. length u.rows) (sym e) ∙ length-padded None x.room (rows_in x) (omega (arith, le, length-rows_with x.heads.items x.keys.items))

  pub seen_tallies_len : length x.heads.items ≤ x.room → length v.tallies ≡ x.room
  seen_tallies_len le = ap (λ u. length u.tallies) (sym e) ∙ length-padded no_tally x.room (tallies_in x.heads.items) (omega (arith, le, length-map x.heads.items (λ head. head.tally)))

  pub seen_count : taken_count v.rows ≡ taken_count (rows_in x)
  seen_count = ap (λ u. taken_count u.rows) (sym e) ∙ taken_count-append (rows_in x) _

  pub seen_used : v.used ≡ length x.heads.items
  seen_used = ap (λ u. u.used) (sym e)

  pub seen_apart : AreApart (rows_in x) → AreApart v.rows
  seen_apart w p q kind key hp hq = w p q kind key (subst (Holds kind key) (seen_row p) hp) (subst (Holds kind key) (seen_row q) hq)

  -- a place with a row was in use
  pub live_inside : (p : ℕ) → get_or v.rows p None ≢ None → get_or (rows_in x) p None ≢ None
  live_inside p ne none = ne (seen_row p ∙ none)

  pub live_used : (p : ℕ) → get_or v.rows p None ≢ None → p < length x.heads.items
  live_used p ne = subst (λ n. p < n) (length-rows_with x.heads.items x.keys.items) (present_within (rows_in x) p (live_inside p ne))

  -- the row that a place has
  pub seen_with : (p : ℕ) → get_or v.rows p None ≡ row_with (get_or x.heads.items p no_head) (get_or x.keys.items p [])
  seen_with p = seen_row p ∙ rows_with-at x.heads.items x.keys.items p

-- What contracts see once a place in use is given another head and key, and once the next place comes into use.
pub rows-both :
    (n : ℕ) (heads : List Head) (keys : List (List ℕ)) (rows : List (Option Row)) (i : ℕ) (head : Head) (key : List ℕ)
    → padded None n (rows_with heads keys) ≡ rows → length keys ≡ length heads → i < length heads
    → padded None n (rows_with (set heads i head) (set keys i key)) ≡ set rows i (row_with head key)
rows-both n heads keys rows i head key e len lt =
    ap (padded None n) (rows_with-both heads keys i head key len lt)
    ∙ padded-set None n (rows_with heads keys) i (row_with head key) (omega (arith, lt, length-rows_with heads keys))
    ∙ ap (λ l. set l i (row_with head key)) e

pub rows-head :
    (n : ℕ) (heads : List Head) (keys : List (List ℕ)) (rows : List (Option Row)) (i : ℕ) (head : Head)
    → padded None n (rows_with heads keys) ≡ rows → i < length heads
    → padded None n (rows_with (set heads i head) keys) ≡ set rows i (row_with head (get_or keys i []))
rows-head n heads keys rows i head e lt =
    ap (padded None n) (rows_with-head heads keys i head)
    ∙ padded-set None n (rows_with heads keys) i (row_with head (get_or keys i [])) (omega (arith, lt, length-rows_with heads keys))
    ∙ ap (λ l. set l i (row_with head (get_or keys i []))) e

pub rows-push :
    (n : ℕ) (heads : List Head) (keys : List (List ℕ)) (rows : List (Option Row)) (key : List ℕ)
    → padded None n (rows_with heads keys) ≡ rows → length keys ≡ length heads → length heads < n
    → padded None n (rows_with (heads ++ no_head ∷ []) (keys ++ key ∷ [])) ≡ rows
rows-push n heads keys rows key e len lt =
    ap (padded None n) (rows_with-push heads keys no_head key len)
    ∙ padded-push None n (rows_with heads keys) (omega (arith, lt, length-rows_with heads keys)) ∙ e

pub tallies-push :
    (n : ℕ) (heads : List Head) (tallies : List Tally) → padded no_tally n (tallies_in heads) ≡ tallies → length heads < n
    → padded no_tally n (tallies_in (heads ++ no_head ∷ [])) ≡ tallies
tallies-push n heads tallies e lt =
    ap (padded no_tally n) (map-append (λ head. head.tally) heads (no_head ∷ []))
    ∙ padded-push no_tally n (tallies_in heads) (omega (arith, lt, length-map heads (λ head. head.tally))) ∙ e

pub tallies-head :
    (n : ℕ) (heads : List Head) (tallies : List Tally) (i : ℕ) (head : Head)
    → padded no_tally n (tallies_in heads) ≡ tallies → head.tally ≡ (get_or heads i no_head).tally
    → padded no_tally n (tallies_in (set heads i head)) ≡ tallies
tallies-head n heads tallies i head e same = ap (padded no_tally n) (tallies-same heads i head same) ∙ e

pub tallies-set :
    (n : ℕ) (heads : List Head) (tallies : List Tally) (i : ℕ) (head : Head)
    → padded no_tally n (tallies_in heads) ≡ tallies → i < length heads
    → padded no_tally n (tallies_in (set heads i head)) ≡ set tallies i head.tally
tallies-set n heads tallies i head e lt =
    ap (padded no_tally n) (map-set (λ h. h.tally) heads i head)
    ∙ padded-set no_tally n (tallies_in heads) i head.tally (omega (arith, lt, length-map heads (λ h. h.tally)))
    ∙ ap (λ l. set l i head.tally) e

-- what is read of heads and keys, as a row that contracts see
pub read_with :
    (x : Inside) (v : Places) → places_of x ≡ v → (p : ℕ) (head : Head) (key : List ℕ)
    → p < length x.heads.items → length x.keys.items ≡ length x.heads.items → head ≡ get_or x.heads.items p head → key ≡ get_or x.keys.items p key
    → row_with head key ≡ get_or v.rows p None
read_with x v e p head key lt len h k =
    ap (λ z. row_with z key) (get_or_read x.heads.items p head lt h no_head)
    ∙ ap (row_with (get_or x.heads.items p no_head)) (get_or_read x.keys.items p key (omega arith) k [])
    ∙ sym (seen_with x v e p)
