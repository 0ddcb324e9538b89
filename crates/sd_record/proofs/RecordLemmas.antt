-- The rows of a record are those of its tables in order.
use Rattle.std.proofs.Common.{◌≡◌, ◌+◌, ◌<◌, Bool, true, false, cond, ◌||◌, List, [], ◌∷◌, ◌++◌, length, get_or, map, refl, sym, ap, subst, ◌∙◌, rules, Option, Some, option_map, unwrap_or, IsPermutation, IsSortedByKey, arith}
use Rattle.std.specs.Prelude.{All, IsSome, flat_map}
use Rattle.std.specs.List.{list_any}
use Rattle.std.specs.Option.{option_or}
use Rattle.std.specs.Ordering.{is_lt}
use Rattle.std.specs.FinMap.{find, contains_key, entries, from_entries, get-entries, get-from_entries, same_map}
use Rattle.std.proofs.lemmas.List.{map-append, length-map, get_or-map}
use Rattle.std.proofs.lemmas.List.Folds.{list_any-append}
use Rattle.std.proofs.lemmas.List.Elements.{All-nil, All-cons, All-head, All-tail}
use Rattle.std.proofs.lemmas.List.Sorted.{IsPermutation-map, All-permutation}
use Rattle.std.proofs.Math.Bool.{or-true}
use Rattle.std.proofs.lemmas.Simd.{map-map}
use Rattle.sd_model_settings.specs.Settings.{Plan}
use Rattle.sd_model_shard.specs.Rows.{RowId, row_cmp, Kept, is_same_row}
use Rattle.sd_model_shard.proofs.RowLemmas.{rows_total, rows_exact}
use Rattle.sd_model_shard.proofs.EntryLemmas.{StandApart, entries-sorted}
use Rattle.sd_model_record.specs.Record.{Row, record_rows}
use Rattle.sd_epoch.specs.Table.{Listing, AreApart, live_of, table_of, listed_with}
use Rattle.sd_epoch.proofs.ListingLemmas.{contains-listed, same_itself, same_row}
use Rattle.sd_record.specs.Rows.{TableRow, AreDisjoint, rows_in, all_rows, value_of}
use Rattle.sd_record.specs.Placed.{row_at, id_at, no_row, value_at, IsPlaced}
use Rattle.sd_record.specs.declared.placed.Place.{Place}
use Rattle.sd_model_record.proofs.Short.{table_rows, row_value}

-- the rows of all tables, as they are listed
listed_in : List Listing → List (RowId × Kept)
listed_in tables = flat_map (λ t. t.listed) tables

-- rows of two lists that share none stand apart
apart_both : (es fs : List (RowId × Kept)) → AreApart es → StandApart row_cmp fs → ((id : RowId) → listed_with id es ≡ true → listed_with id fs ≡ false) → StandApart row_cmp (es ++ fs)
apart_both [] fs a b none = b
apart_both (e ∷ es) fs a b none =
    let here = none e.0 (ap (λ s. s || listed_with e.0 es) (same_itself e.0)) in (
      list_any-append (λ other. is_same_row e.0 other.0) es fs ∙ ap (λ s. s || listed_with e.0 fs) a.0 ∙ here,
      apart_both es fs a.1 b (λ id there. none id (ap (λ s. is_same_row id e.0 || s) there ∙ or-true (is_same_row id e.0))),
    )

-- a row that stands in no table
listed_nowhere : (id : RowId) (tables : List Listing) → All (λ t. contains_key (live_of t) id ≡ false) tables → listed_with id (listed_in tables) ≡ false
unfolding listed_in
listed_nowhere id [] none = refl
listed_nowhere id (t ∷ tables) none =
    list_any-append (λ other. is_same_row id other.0) t.listed (listed_in tables)
    ∙ ap (λ s. s || listed_with id (listed_in tables)) (sym (contains-listed id t.listed) ∙ All-head (λ s. contains_key (live_of s) id ≡ false) t tables none)
    ∙ listed_nowhere id tables (All-tail (λ s. contains_key (live_of s) id ≡ false) t tables none)

all_apart : (tables : List Listing) → AreDisjoint tables → All (λ t. AreApart t.listed) tables → StandApart row_cmp (listed_in tables)
unfolding listed_in
all_apart [] none apart = tt
all_apart (t ∷ tables) none apart =
    apart_both t.listed (listed_in tables) (All-head (λ s. AreApart s.listed) t tables apart) (all_apart tables none.1 (All-tail (λ s. AreApart s.listed) t tables apart))
    (λ id there. listed_nowhere id tables (λ k d below. none.0 k d below id (contains-listed id t.listed ∙ there)))

-- entries of the same keys stand apart as well
same_any : {X Y : Type 0} (p : RowId → Bool) (es : List (RowId × X)) (fs : List (RowId × Y)) → map (λ e. e.0) es ≡ map (λ e. e.0) fs → list_any (λ e. p e.0) es ≡ list_any (λ e. p e.0) fs
same_any p [] [] h = refl
same_any p [] (f ∷ fs) h = absurd (cc)
same_any p (e ∷ es) [] h = absurd (cc)
same_any p (e ∷ es) (f ∷ fs) h =
    let first : e.0 ≡ f.0 = cc in
    let rest : map (λ d. d.0) es ≡ map (λ d. d.0) fs = cc in
    ap (λ k. p k || list_any (λ d. p d.0) es) first ∙ ap (λ s. p f.0 || s) (same_any p es fs rest)

apart_by_keys : {X Y : Type 0} (es : List (RowId × X)) (fs : List (RowId × Y)) → map (λ e. e.0) es ≡ map (λ e. e.0) fs → StandApart row_cmp es → StandApart row_cmp fs
apart_by_keys [] [] h a = tt
apart_by_keys [] (f ∷ fs) h a = absurd (cc)
apart_by_keys (e ∷ es) [] h a = absurd (cc)
apart_by_keys (e ∷ es) (f ∷ fs) h a =
    let first : e.0 ≡ f.0 = cc in
    let rest : map (λ d. d.0) es ≡ map (λ d. d.0) fs = cc in (
      sym (same_any (is_same_row f.0) es fs rest) ∙ ap (λ k. list_any (λ d. is_same_row k d.0) es) (sym first) ∙ a.0,
      apart_by_keys es fs rest a.1,
    )

-- a row with its id before it, as a record has it
valued : Plan → TableRow → RowId × Row
valued plan row = (row.id, value_of plan row)

keys_as_listed : (plan : Plan) (tables : List Listing) → map (λ e. e.0) (listed_in tables) ≡ map (λ e. e.0) (map (valued plan) (all_rows tables))
unfolding listed_in valued
keys_as_listed plan [] = refl
keys_as_listed plan (t ∷ tables) =
    let made : RowId × Kept → TableRow = λ e. record { id = e.0; kept = e.1 } in
    map-append (λ e. e.0) t.listed (listed_in tables)
    ∙ ap (λ ids. map (λ e. e.0) t.listed ++ ids) (keys_as_listed plan tables)
    ∙ ap (λ ids. ids ++ map (λ e. e.0) (map (valued plan) (all_rows tables))) (sym (map-map (λ e. e.0) (valued plan) (rows_in t) ∙ map-map (λ r. r.id) made t.listed))
    ∙ sym (map-append (λ e. e.0) (map (valued plan) (rows_in t)) (map (valued plan) (all_rows tables)))
    ∙ ap (map (λ e. e.0)) (sym (map-append (valued plan) (rows_in t) (all_rows tables)))

-- what is found of values by their keys
find-valued : {X Y : Type 0} (f : RowId → X → Y) (q : RowId) (es : List (RowId × X)) → find row_cmp q (map (λ e. (e.0, f e.0 e.1)) es) ≡ option_map (f q) (find row_cmp q es)
find-valued f q [] = refl
find-valued f q (e ∷ es) =
    elim (is_same_row q e.0) as (λ b. is_same_row q e.0 ≡ b → cond b (Some (f e.0 e.1)) (find row_cmp q (map (λ e. (e.0, f e.0 e.1)) es)) ≡ option_map (f q) (cond b (Some e.1) (find row_cmp q es))) [
      | true ↦ λ t. ap (λ k. Some (f k e.1)) (sym (same_row q e.0 t))
      | false ↦ λ t. find-valued f q es
    ] refl

find-both : {X : Type 0} (q : RowId) (es fs : List (RowId × X)) → find row_cmp q (es ++ fs) ≡ option_or (find row_cmp q es) (find row_cmp q fs)
find-both q [] fs = refl
find-both q (e ∷ es) fs =
    elim (is_same_row q e.0) as (λ b. cond b (Some e.1) (find row_cmp q (es ++ fs)) ≡ option_or (cond b (Some e.1) (find row_cmp q es)) (find row_cmp q fs)) [
      | true ↦ refl
      | false ↦ find-both q es fs
    ]

-- the rows of a table are found as its listed rows are
find-table : (plan : Plan) (q : RowId) (t : Listing) → find row_cmp q (table_rows plan (table_of t)) ≡ find row_cmp q (map (valued plan) (rows_in t))
unfolding valued
find-table plan q t =
    let f : RowId → Kept → Row = λ id kept. row_value plan id kept in
    let made : RowId × Kept → TableRow = λ e. record { id = e.0; kept = e.1 } in
    find-valued f q (entries (live_of t))
    ∙ ap (option_map (f q)) (sym (get-entries (live_of t) q) ∙ get-from_entries rows_total t.listed q)
    ∙ sym (find-valued f q t.listed)
    ∙ ap (find row_cmp q) (sym (map-map (valued plan) made t.listed))

find-tables : (plan : Plan) (q : RowId) (tables : List Listing) → find row_cmp q (flat_map (table_rows plan) (map table_of tables)) ≡ find row_cmp q (map (valued plan) (all_rows tables))
find-tables plan q [] = refl
find-tables plan q (t ∷ tables) =
    let rest = flat_map (table_rows plan) (map table_of tables) in
    find-both q (table_rows plan (table_of t)) rest
    ∙ ap (λ o. option_or o (find row_cmp q rest)) (find-table plan q t)
    ∙ ap (option_or (find row_cmp q (map (valued plan) (rows_in t)))) (find-tables plan q tables)
    ∙ sym (find-both q (map (valued plan) (rows_in t)) (map (valued plan) (all_rows tables)))
    ∙ ap (find row_cmp q) (sym (map-append (valued plan) (rows_in t) (all_rows tables)))

-- rows that are sorted by their ids, as entries
sorted_entries : {A X : Type 0} (g : A → RowId × X) (rows : List A) → IsSortedByKey (λ r. (g r).0) row_cmp rows → IsSortedByKey (λ e. e.0) row_cmp (map g rows)
sorted_entries g [] up = λ k d low high. absurd (omega arith)
sorted_entries {X = X} g (row ∷ rows) up = λ k d low high.
    let few : k + 1 < length (row ∷ rows) = omega (arith, length-map (row ∷ rows) g) in
    let es = map g (row ∷ rows) in
    ap (λ (e : RowId × X). is_lt (row_cmp e.0 (get_or es k d).0)) (get_or-map g (row ∷ rows) (k + 1) row d few)
    ∙ ap (λ (e : RowId × X). is_lt (row_cmp (g (get_or (row ∷ rows) (k + 1) row)).0 e.0)) (get_or-map g (row ∷ rows) k row d (omega arith))
    ∙ up k row low few

-- rows in order, by their places, are the rows of the record
pub rows-placed :
    (plan : Plan) (tables : List Listing) (placed : List Place) → AreDisjoint tables → All (λ t. AreApart t.listed) tables → IsPermutation (map Some (all_rows tables)) (map (row_at tables) placed)
    → IsSortedByKey (id_at tables) row_cmp placed → map (value_at plan tables) placed ≡ record_rows plan (map table_of tables)
unfolding valued
rows-placed plan tables placed none apart moved up =
    let rows = all_rows tables in
    let es : List (RowId × Row) = map (valued plan) rows in
    let read : Option TableRow → RowId × Row = λ o. valued plan (unwrap_or o no_row) in
    let entry : Place → RowId × Row = λ p. (id_at tables p, value_at plan tables p) in
    let fs : List (RowId × Row) = map entry placed in
    let all : IsPermutation es fs =
    subst (λ ds. IsPermutation ds fs) (map-map read Some rows)
    (subst (IsPermutation (map read (map Some rows))) (map-map read (row_at tables) placed) (IsPermutation-map read (map Some rows) (map (row_at tables) placed) moved)) in
    let stand : StandApart row_cmp es = apart_by_keys (listed_in tables) es (keys_as_listed plan tables) (all_apart tables none apart) in
    sym (map-map (λ (e : RowId × Row). e.1) entry placed)
    ∙ ap (map (λ e. e.1)) (sym (entries-sorted rows_total rows_exact es fs stand all (sorted_entries entry placed up)))
    ∙ ap (λ m. map (λ e. e.1) (entries m)) (sym (same_map rows_total rows_exact (from_entries {R = row_cmp} (flat_map (table_rows plan) (map table_of tables))) (from_entries {R = row_cmp} es) (λ q.
    get-from_entries rows_total (flat_map (table_rows plan) (map table_of tables)) q ∙ find-tables plan q tables ∙ sym (get-from_entries rows_total es q))))

have_rows : (rows : List TableRow) → All IsSome (map Some rows)
have_rows [] = All-nil IsSome
have_rows (row ∷ rows) = All-cons IsSome (Some row) (map Some rows) (search rules) (have_rows rows)

-- at each place stands a row
pub all-placed : (tables : List Listing) (placed : List Place) → IsPermutation (map Some (all_rows tables)) (map (row_at tables) placed) → All (IsPlaced tables) placed
all-placed tables placed moved = λ k d below.
    let at = row_at tables in
    let all = All-permutation IsSome (map Some (all_rows tables)) (map at placed) moved (have_rows (all_rows tables)) in
    subst IsSome (get_or-map at placed k d (at d) below) (all k (at d) (omega (arith, length-map placed at)))
