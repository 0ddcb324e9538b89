-- How many samples rows have together, place by place, and how many of them are listed.
use Rattle.std.proofs.Common.{◌≡◌, ◌≢◌, ℕ, zero, suc, ◌+◌, ◌<◌, ◌≤◌, ◌==◌, ◌||◌, Bool, true, false, cond, List, [], ◌∷◌, ◌++◌, length, map, take, get_or, Option, Some, None, inl, inr, refl, sym, ap, ◌∙◌, arith}
use Rattle.std.specs.Prelude.{pos, sum_by, unwrap_or}
use Rattle.std.specs.declared.cmp.Ordering.{Ordering}
use Rattle.std.specs.declared.cmp.Ordering.TheVariants.{Less, Equal, Greater}
use Rattle.std.specs.Ordering.{is_eq}
use Rattle.std.specs.FinMap.{find, get, insert, remove, put, entries, entries-insert, from_entries, get-entries, get-from_entries, get-insert, get-remove, same_map}
use Rattle.std.specs.FinMap.Entries.{by_order}
use Rattle.std.proofs.lemmas.Bool.{cases_eq, eq-eqb, ne_eqb}
use Rattle.std.proofs.lemmas.List.{length-map}
use Rattle.std.proofs.lemmas.List.Sums.{sum_by-append, sum_by-cons}
use Rattle.sd_model_shard.specs.Rows as model
use Rattle.sd_model_shard.specs.Rows.{RowId, row_cmp, Kept, Summary, is_same_row, is_listed, row_in, without_samples, samples_in, samples_where}
use Rattle.sd_model_shard.proofs.OrderLemmas.{sum_by-map}
use Rattle.sd_model_shard.proofs.RowLemmas.{rows_exact, rows_total}
use Rattle.sd_rows.specs.Rows.{row_at}
use Rattle.sd_rows.specs.declared.row.Row.{Row}
use Rattle.sd_rows.proofs.IndexLemmas.{some_of}
use Rattle.sd_epoch.specs.Members.{member_places}
use Rattle.sd_epoch.specs.Order.{AreDifferent}
use Rattle.sd_epoch.specs.Places.{id_in, listed_in, kept_in, reported_in, reported_live, AllLive, is_among, AreRows, AreSince}
use Rattle.sd_epoch.specs.Since.{since_at, values_at, members_at}
use Rattle.sd_epoch.specs.Table.{AreApart, listed_with}
use Rattle.sd_epoch.specs.Values.{value_places}
use Rattle.sd_epoch.specs.declared.members.SetMember.{SetMember}
use Rattle.sd_rows.specs.declared.tally.Tally.{Tally}
use Rattle.sd_epoch.specs.declared.values.TimerValue.{TimerValue}
use Rattle.sd_epoch.proofs.ChainLemmas.{own}
use Rattle.sd_epoch.proofs.ListingLemmas.{not_found, same_itself, same_row}
use Rattle.sd_epoch.proofs.OrderLemmas.{different_head, different_tail}
use Rattle.sd_epoch.proofs.PlaceLemmas.{id_here}
use Rattle.sd_model_shard.proofs.Short.{listed_in as samples_listed}

module _ (f : RowId × Kept → ℕ) where
  -- a row that is new
  put_sum : (id : RowId) (v : Kept) (es : List (RowId × Kept)) → find row_cmp id es ≡ None → sum_by f (put row_cmp id v es) ≡ sum_by f es + f (id, v)
  put_sum id v [] none = omega (arith, sum_by-cons f (id, v) [])
  put_sum id v (e ∷ es) none = by_cmp (row_cmp id e.0) none (put_sum id v es) where
    by_cmp : (o : Ordering) → cond (is_eq o) (Some e.1) (find row_cmp id es) ≡ None
        → (find row_cmp id es ≡ None → sum_by f (put row_cmp id v es) ≡ sum_by f es + f (id, v))
        → sum_by f (by_order o ((id, v) ∷ e ∷ es) ((e.0, v) ∷ es) (e ∷ put row_cmp id v es)) ≡ sum_by f (e ∷ es) + f (id, v)
    by_cmp Less none rest = omega (arith, sum_by-cons f (id, v) (e ∷ es), sum_by-cons f e es)
    by_cmp Equal none rest = absurd (cc)
    by_cmp Greater none rest = omega (arith, rest none, sum_by-cons f e (put row_cmp id v es), sum_by-cons f e es)

  no_sum : (es : List (RowId × Kept)) → ((q : RowId) → find row_cmp q es ≡ None) → sum_by f es ≡ 0
  no_sum [] none = refl
  no_sum (e ∷ es) none =
      let there : cond (is_same_row e.0 e.0) (Some e.1) (find row_cmp e.0 es) ≡ Some e.1 = ap (λ b. cond b (Some e.1) (find row_cmp e.0 es)) (same_itself e.0) in
      absurd (cc (there, none e.0))

  -- rows that stand apart make a map of the same sum
  sum_listed : (es : List (RowId × Kept)) → AreApart es → sum_by f (entries (from_entries {R = row_cmp} es)) ≡ sum_by f es
  sum_listed [] apart =
      no_sum (entries (from_entries {R = row_cmp} [])) (λ q. sym (get-entries (from_entries {R = row_cmp} []) q) ∙ get-from_entries rows_total [] q)
  sum_listed (e ∷ es) apart =
      let m = from_entries {R = row_cmp} es in
      let none : find row_cmp e.0 (entries m) ≡ None = sym (get-entries m e.0) ∙ get-from_entries rows_total es e.0 ∙ not_found e.0 es apart.0 in
      omega (arith, ap (sum_by f) (entries-insert rows_total m e.0 e.1), put_sum e.0 e.1 (entries m) none, sum_listed es apart.1, sum_by-cons f e es)

  -- what is found counts
  sum_found : (id : RowId) (kept : Kept) (es : List (RowId × Kept)) → find row_cmp id es ≡ Some kept → ((q : RowId) → f (q, kept) ≡ f (id, kept)) → f (id, kept) ≤ sum_by f es
  sum_found id kept [] is any = absurd (cc)
  sum_found id kept (e ∷ es) is any = by_tie (is_eq (row_cmp id e.0)) is (λ rest. sum_found id kept es rest any) where
    by_tie : (b : Bool) → cond b (Some e.1) (find row_cmp id es) ≡ Some kept → (find row_cmp id es ≡ Some kept → f (id, kept) ≤ sum_by f es) → f (id, kept) ≤ sum_by f (e ∷ es)
    by_tie true is rest = let same : e.1 ≡ kept = cc in omega (arith, ap (λ (k : Kept). f (e.0, k)) same, any e.0, sum_by-cons f e es)
    by_tie false is rest = omega (arith, rest is, sum_by-cons f e es)

-- a row has no more samples than all rows together
pub samples_found : (live : model.Rows) (id : RowId) (kept : Kept) → get live id ≡ Some kept → kept.since.samples ≤ samples_in live
samples_found live id kept is = sum_found (λ row. cond true row.1.since.samples 0) id kept (entries live) (sym (get-entries live id) ∙ is) (λ q. refl)

-- rows are told apart as they are listed
same_listed : (rows : List (Option Row)) (since : ℕ → Summary) (order : List ℕ) (id : RowId) → listed_with id (reported_in rows since order) ≡ listed_with id (listed_in rows order)
same_listed rows since [] id = refl
same_listed rows since (p ∷ order) id = ap (λ b. is_same_row id (id_in rows p) || b) (same_listed rows since order id)

pub reported_apart : (rows : List (Option Row)) (since : ℕ → Summary) (order : List ℕ) → AreApart (listed_in rows order) → AreApart (reported_in rows since order)
reported_apart rows since [] apart = tt
reported_apart rows since (p ∷ order) apart = (same_listed rows since order (id_in rows p) ∙ apart.0, reported_apart rows since order apart.1)

-- the samples of rows, place by place
pub samples_reported : (test : RowId → Bool) (rows : List (Option Row)) (since : ℕ → Summary) (order : List ℕ) → AreRows rows order
    → samples_where test (reported_live rows since order) ≡ sum_by (λ p. cond (test (id_in rows p)) (since p).samples 0) order
samples_reported test rows since order w =
    sum_listed (λ row. cond (test row.0) row.1.since.samples 0) (reported_in rows since order) (reported_apart rows since order w.listed)
    ∙ sum_by-map (λ (row : RowId × Kept). cond (test row.0) row.1.since.samples 0) (λ p. (id_in rows p, kept_in rows since p)) order

sum_alike : (f g : ℕ → ℕ) (rows : List (Option Row)) (order : List ℕ) → AllLive rows order → ((p : ℕ) → row_at rows p ≢ None → f p ≡ g p) → sum_by f order ≡ sum_by g order
sum_alike f g rows [] l same = refl
sum_alike f g rows (p ∷ order) l same = omega (arith, same p l.0, sum_alike f g rows order l.1 same, sum_by-cons f p order, sum_by-cons g p order)

sum_plus : (f g : ℕ → ℕ) (order : List ℕ) → sum_by (λ p. f p + g p) order ≡ sum_by f order + sum_by g order
sum_plus f g [] = refl
sum_plus f g (p ∷ order) = omega (arith, sum_plus f g order, sum_by-cons f p order, sum_by-cons g p order, sum_by-cons (λ q. f q + g q) p order)

sum_zero : (order : List ℕ) → sum_by (λ p. 0) order ≡ 0
sum_zero [] = refl
sum_zero (p ∷ order) = omega (arith, sum_zero order, sum_by-cons (λ q. 0) p order)

-- a place that isn't among others is none of them, and one that is among different ones is one of them
none_there : (order : List ℕ) (q : ℕ) → is_among q order ≡ false → sum_by (λ p. cond (q == p) 1 0) order ≡ 0
none_there [] q h = refl
none_there (p ∷ order) q h = elim (cases_eq p q) as (λ _. sum_by (λ i. cond (q == i) 1 0) (p ∷ order) ≡ 0) [
  | inl e ↦ absurd (cc (h, ap (λ b. b || is_among q order) (eq-eqb p q e)))
  | inr ne ↦
      let away : is_among q order ≡ false = sym (ap (λ b. b || is_among q order) (ne_eqb p q ne)) ∙ h in
      omega (arith, none_there order q away, ap {B = ℕ} (λ b. cond b 1 0) (ne_eqb q p (λ e. ne (sym e))), sum_by-cons (λ i. cond (q == i) 1 0) p order)
]

one_there : (order : List ℕ) (q : ℕ) → AreDifferent order → is_among q order ≡ true → sum_by (λ p. cond (q == p) 1 0) order ≡ 1
one_there [] q d h = absurd (cc)
one_there (p ∷ order) q d h = elim (cases_eq p q) as (λ _. sum_by (λ i. cond (q == i) 1 0) (p ∷ order) ≡ 1) [
  | inl e ↦
      let away : is_among q order ≡ false = ap (λ i. is_among i order) (sym e) ∙ different_head p order d in
      omega (arith, none_there order q away, ap {B = ℕ} (λ b. cond b 1 0) (eq-eqb q p (sym e)), sum_by-cons (λ i. cond (q == i) 1 0) p order)
  | inr ne ↦
      let there : is_among q order ≡ true = sym (ap (λ b. b || is_among q order) (ne_eqb p q ne)) ∙ h in
      omega (arith, one_there order q (different_tail p order d) there, ap {B = ℕ} (λ b. cond b 1 0) (ne_eqb q p (λ e. ne (sym e))), sum_by-cons (λ i. cond (q == i) 1 0) p order)
]

module _ {A : Type 0} (place_of : A → ℕ) where
  one_more : (e : A) (items : List A) (order : List ℕ)
      → sum_by (λ p. length (own place_of p (e ∷ items))) order ≡ sum_by (λ p. cond (place_of e == p) 1 0) order + sum_by (λ p. length (own place_of p items)) order
  one_more e items [] = refl
  one_more e items (p ∷ order) =
      omega (
        arith,
        one_more e items order,
        here (place_of e == p),
        sum_by-cons (λ q. length (own place_of q (e ∷ items))) p order,
        sum_by-cons (λ q. cond (place_of e == q) 1 0) p order,
        sum_by-cons (λ q. length (own place_of q items)) p order,
      ) where
        here : (b : Bool) → length (cond b (e ∷ own place_of p items) (own place_of p items)) ≡ cond b 1 0 + length (own place_of p items)
        here true = omega arith
        here false = omega arith

  -- those of each place together are all
  pub parts_summed : (rows : List (Option Row)) (order : List ℕ) → AreDifferent order → ((p : ℕ) → row_at rows p ≢ None → is_among p order ≡ true)
      → (items : List A) → AllLive rows (map place_of items) → sum_by (λ p. length (own place_of p items)) order ≡ length items
  parts_summed rows order d all [] l = sum_zero order
  parts_summed rows order d all (e ∷ items) l =
      omega (arith, one_more e items order, one_there order (place_of e) d (all (place_of e) l.0), parts_summed rows order d all items l.1)

-- the samples that are listed, by what each row has of them
pub listed_reported : (rows : List (Option Row)) (since : ℕ → Summary) (order : List ℕ) → AreRows rows order → AreSince rows since
    → samples_listed (reported_live rows since order) ≡ sum_by (λ p. length (since p).values) order + sum_by (λ p. length (since p).members) order
listed_reported rows since order w reported =
    samples_reported (λ id. is_listed id.kind) rows since order w
    ∙ sum_alike (λ p. cond (is_listed (id_in rows p).kind) (since p).samples 0) (λ p. length (since p).values + length (since p).members) rows order w.live (λ p l.
    let row = some_of (row_at rows p) l in
    ap (λ (id : RowId). cond (is_listed id.kind) (since p).samples 0) (id_here rows p row.0 row.1) ∙ sym (reported p row.0 row.1).counted)
    ∙ sum_plus (λ p. length (since p).values) (λ p. length (since p).members) order

sum_same : (f g : ℕ → ℕ) (order : List ℕ) → ((p : ℕ) → f p ≡ g p) → sum_by f order ≡ sum_by g order
sum_same f g [] same = refl
sum_same f g (p ∷ order) same = omega (arith, same p, sum_same f g order same, sum_by-cons f p order, sum_by-cons g p order)

-- as many samples are listed as there are values and members
pub entries_are : (rows : List (Option Row)) (tallies : List Tally) (values : List TimerValue) (members : List SetMember) (order : List ℕ) → AreRows rows order → AreDifferent order
    → AreSince rows (since_at tallies values members) → AllLive rows (value_places values) → AllLive rows (member_places members)
    → samples_listed (reported_live rows (since_at tallies values members) order) ≡ length values + length members
entries_are rows tallies values members order w d reported mine named =
    let since = since_at tallies values members in
    let of_values = sum_same (λ p. length (since p).values) (λ p. length (values_at p values)) order (λ p. length-map (values_at p values) (λ (v : TimerValue). v.value.0)) in
    let of_members = sum_same (λ p. length (since p).members) (λ p. length (members_at p members)) order (λ p. length-map (members_at p members) (λ (m : SetMember). m.member.items)) in
    omega (
      arith,
      listed_reported rows since order w reported,
      of_values,
      of_members,
      parts_summed (λ (v : TimerValue). v.place) rows order d w.all values mine,
      parts_summed (λ (m : SetMember). m.place) rows order d w.all members named,
    )

-- a part of a sum, and one more
pub sum_taken : (f : ℕ → ℕ) (xs : List ℕ) (i : ℕ) → i < length xs → sum_by f (take (i + 1) xs) ≡ sum_by f (take i xs) + f (get_or xs i 0)
sum_taken f [] i lt = absurd (omega arith)
sum_taken f (x ∷ xs) zero lt = omega (arith, sum_by-cons f x [])
sum_taken f (x ∷ xs) (suc i) lt =
    let same : suc i + 1 ≡ suc (i + 1) = omega arith in
    let next : sum_by f (take (suc i + 1) (x ∷ xs)) ≡ f x + sum_by f (take (i + 1) xs) = ap (λ n. sum_by f (take n (x ∷ xs))) same ∙ sum_by-cons f x (take (i + 1) xs) in
    omega (arith, next, sum_taken f xs i (omega arith), sum_by-cons f x (take i xs))

pub sum_few : (f : ℕ → ℕ) (xs : List ℕ) (i : ℕ) → sum_by f (take i xs) ≤ sum_by f xs
sum_few f [] zero = omega arith
sum_few f [] (suc i) = omega arith
sum_few f (x ∷ xs) zero = omega arith
sum_few f (x ∷ xs) (suc i) = omega (arith, sum_few f xs i, sum_by-cons f x (take i xs), sum_by-cons f x xs)

-- no rows have no samples
pub samples_of_none : samples_in (from_entries {R = row_cmp} []) ≡ 0
samples_of_none = sum_listed (λ row. cond true row.1.since.samples 0) [] tt

-- rows of which each has no samples have none together, and none of them is listed
pub none_reported : (test : RowId → Bool) (rows : List (Option Row)) (since : ℕ → Summary) (order : List ℕ) → AreRows rows order → ((p : ℕ) → row_at rows p ≢ None → (since p).samples ≡ 0)
    → samples_where test (reported_live rows since order) ≡ 0
none_reported test rows since order w none =
    samples_reported test rows since order w
    ∙ sum_alike (λ p. cond (test (id_in rows p)) (since p).samples 0) (λ p. 0) rows order w.live (λ p l. by_test (test (id_in rows p)) (since p).samples (none p l))
    ∙ sum_zero order where
      by_test : (b : Bool) (n : ℕ) → n ≡ 0 → cond b n 0 ≡ 0
      by_test true n h = h
      by_test false n h = refl

-- one row more, without samples
pub added_reported : (rows later : List (Option Row)) (since since' : ℕ → Summary) (order : List ℕ) (at : ℕ) → AreRows rows order → AreRows later (order ++ at ∷ [])
    → ((p : ℕ) → row_at rows p ≢ None → since' p ≡ since p) → (since' at).samples ≡ 0 → samples_in (reported_live later since' (order ++ at ∷ [])) ≡ samples_in (reported_live rows since order)
added_reported rows later since since' order at w w' same none =
    omega (
      arith,
      samples_reported (λ id. true) later since' (order ++ at ∷ []) w',
      samples_reported (λ id. true) rows since order w,
      sum_by-append (λ p. (since' p).samples) order (at ∷ []),
      sum_by-cons (λ p. (since' p).samples) at [],
      sum_alike (λ p. (since' p).samples) (λ p. (since p).samples) rows order w.live (λ p l. ap (λ (x : Summary). x.samples) (same p l)),
      none,
    )

-- what is found in a map of which a row was taken, where it is put back or wasn't there
back : (m : model.Rows) (id : RowId) (o : Option Kept) (q : RowId) → get m id ≡ o → cond (is_same_row q id) o (cond (is_same_row q id) None (get m q)) ≡ get m q
back m id o q is = by_tie (is_same_row q id) refl where
  by_tie : (b : Bool) → is_same_row q id ≡ b → cond b o (cond b None (get m q)) ≡ get m q
  by_tie true tie = sym is ∙ ap (get m) (sym (same_row q id tie))
  by_tie false tie = refl

absent_back : (m : model.Rows) (id q : RowId) → get m id ≡ None → cond (is_same_row q id) None (get m q) ≡ get m q
absent_back m id q is = by_tie (is_same_row q id) refl where
  by_tie : (b : Bool) → is_same_row q id ≡ b → cond b None (get m q) ≡ get m q
  by_tie true tie = sym is ∙ ap (get m) (sym (same_row q id tie))
  by_tie false tie = refl

-- the samples of a row and those of the others are all samples
pub samples_removed : (m : model.Rows) (id : RowId) → samples_in m ≡ samples_in (remove m id) + (row_in m id).since.samples
samples_removed m id = by_found (get m id) refl where
  gone : find row_cmp id (entries (remove m id)) ≡ None
  gone = sym (get-entries (remove m id) id) ∙ get-remove rows_total m id id ∙ ap (λ b. cond b None (get m id)) (same_itself id)

  by_found : (o : Option Kept) → get m id ≡ o → samples_in m ≡ samples_in (remove m id) + (unwrap_or o (without_samples (pos 0) 0)).since.samples
  by_found None is =
      let same : remove m id ≡ m = same_map rows_total rows_exact (remove m id) m (λ q. get-remove rows_total m id q ∙ absent_back m id q is) in
      omega (arith, ap samples_in same)
  by_found (Some kept) is =
      let rest = remove m id in
      let same : insert rest id kept ≡ m =
      same_map rows_total rows_exact (insert rest id kept) m (λ q.
      get-insert rows_total rest id kept q ∙ ap (cond (is_same_row q id) (Some kept)) (get-remove rows_total m id q) ∙ back m id (Some kept) q is) in
      let put = put_sum (λ row. cond true row.1.since.samples 0) id kept (entries rest) gone in
      omega (arith, sym (ap samples_in same), ap (sum_by (λ (row : RowId × Kept). cond true row.1.since.samples 0)) (entries-insert rows_total rest id kept), put)
