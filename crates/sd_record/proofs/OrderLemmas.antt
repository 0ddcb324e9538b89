-- Places of rows that rise, as many as there are rows, are those of all rows.
use Rattle.std.proofs.Common.{◌≡◌, ◌≢◌, ℕ, zero, suc, ◌+◌, ◌-◌, ◌<◌, true, List, [], ◌∷◌, inl, inr, length, get_or, map, refl, sym, ap, subst, ◌∙◌, Option, Some, None, slice_get, sum_by, IsPermutation, IsSortedByKey, arith}
use Rattle.std.specs.Prelude.{All, IsSome, Contains, option_and_then, unwrap_or}
use Rattle.std.specs.List.{AllPairs, remove}
use Rattle.std.specs.declared.cmp.Ordering.TheVariants.{Less}
use Rattle.std.specs.Ordering.{is_eq, is_lt, ordering_reverse}
use Rattle.std.proofs.lemmas.Bool.{false≢true, cases_eq}
use Rattle.std.proofs.lemmas.List.{length-map, get_or-map}
use Rattle.std.proofs.lemmas.List.Concat.{length-flat_map}
use Rattle.std.proofs.lemmas.List.Elements.{All-head, All-tail, Contains-append_left, Contains-append_right}
use Rattle.std.proofs.lemmas.List.Sorted.{IsPermutation-refl, IsPermutation-cons, IsPermutation-trans, IsPermutation-remove, length_permutation, Contains-permutation}
use Rattle.std.proofs.lemmas.Option.{slice_get_within, get_or_from_slice_get}
use Rattle.sd_model_shard.specs.Rows.{RowId, row_cmp, is_same_row}
use Rattle.sd_model_shard.proofs.RowLemmas.{rows_total}
use Rattle.sd_epoch.specs.Table.{Listing}
use Rattle.sd_epoch.proofs.ListingLemmas.{same_itself}
use Rattle.sd_record.specs.Rows.{TableRow, rows_in, all_rows}
use Rattle.sd_record.specs.Placed.{row_at, no_row, id_at, IsPlaced, GoesBefore}
use Rattle.sd_record.specs.declared.placed.Place.{Place}
use Rattle.sd_record.proofs.FillLemmas.{rows_as_listed}

-- an element that isn't the first is one of the others
one_of_others : {X : Type 0} (x z : X) (xs : List X) → Contains (x ∷ xs) z → x ≢ z → Contains xs z
one_of_others x z xs (zero, below, is) differ = absurd (differ is)
one_of_others x z xs (suc k, below, is) differ = (k, omega arith, is)

-- elements of a list that all differ, as many as it has, are the list in another order
all_of : {X : Type 0} (xs ys : List X) → AllPairs (λ a b. a ≢ b) xs → All (Contains ys) xs → length xs ≡ length ys → IsPermutation ys xs
all_of [] [] differ among same = IsPermutation-refl []
all_of [] (y ∷ ys) differ among same = absurd (cc)
all_of (x ∷ xs) ys differ among same =
    let (i, below, is) = All-head (Contains ys) x xs among in
    let rest = remove ys i in
    let moved = IsPermutation-remove ys i x below (sym is) in
    let others : All (Contains rest) xs = λ k d inside.
    one_of_others x (get_or xs k d) rest
    (Contains-permutation ys (x ∷ rest) (get_or xs k d) moved (All-tail (Contains ys) x xs among k d inside))
    (differ 0 (suc k) d (omega arith) (omega arith)) in
    let fewer : length xs ≡ length rest = omega (arith, length_permutation ys (x ∷ rest) moved) in
    IsPermutation-trans ys (x ∷ rest) (x ∷ xs) moved
    (IsPermutation-cons x rest xs (all_of xs rest (λ j k d low high. differ (suc j) (suc k) d (omega arith) (omega arith)) others fewer))

-- the row at a place is one of all rows
row_among : (tables : List Listing) (i r : ℕ) (row : TableRow) → option_and_then (λ t. slice_get (rows_in t) r) (slice_get tables i) ≡ Some row → Contains (all_rows tables) row
row_among [] i r row there = absurd (cc)
row_among (t ∷ tables) zero r row there =
    Contains-append_left (rows_in t) (all_rows tables) row (r, slice_get_within (rows_in t) r row there, get_or_from_slice_get (rows_in t) r row row there)
row_among (t ∷ tables) (suc i) r row there = Contains-append_right (rows_in t) (all_rows tables) row (row_among tables i r row there)

some_among : (rows : List TableRow) (o : Option TableRow) → ((row : TableRow) → o ≡ Some row → Contains rows row) → IsSome o → Contains (map Some rows) o
some_among rows None among some = absurd (cc)
some_among rows (Some row) among some =
    let (k, below, is) = among row refl in
    (k, omega (arith, length-map rows (λ (r : TableRow). Some r)), get_or-map Some rows k row (Some row) below ∙ ap Some is)

-- what goes before another isn't that
before_other : (a b : RowId) → row_cmp a b ≡ Less → a ≢ b
before_other a b less same = false≢true (sym (ap is_eq less) ∙ subst (λ c. is_same_row a c ≡ true) same (same_itself a))

pub rising-all :
    (tables : List Listing) (placed : List Place) → length placed ≡ sum_by (λ t. length t.listed) tables → All (IsPlaced tables) placed → AllPairs (GoesBefore tables) placed
    → IsPermutation (map Some (all_rows tables)) (map (row_at tables) placed)
rising-all tables placed many there rising =
    let at = row_at tables in
    let none : Place = record { table = 0; row = 0 } in
    let id : Option TableRow → RowId = λ o. (unwrap_or o no_row).id in
    let differ : AllPairs (λ a b. a ≢ b) (map at placed) = λ j k d low high same.
    let inside : k < length placed = omega (arith, length-map placed at) in
    before_other _ _ (rising j k none low inside)
    (ap id (sym (get_or-map at placed j none d (omega arith)) ∙ same ∙ get_or-map at placed k none d inside)) in
    let among : All (Contains (map Some (all_rows tables))) (map at placed) = λ k d high.
    let inside : k < length placed = omega (arith, length-map placed at) in
    let place = get_or placed k none in
    subst (Contains (map Some (all_rows tables))) (sym (get_or-map at placed k none d inside))
    (some_among (all_rows tables) (at place) (λ row is. row_among tables place.table place.row row is) (there k none inside)) in
    let all : length (all_rows tables) ≡ sum_by (λ t. length t.listed) tables =
    length-flat_map rows_in tables ∙ ap (λ f. sum_by f tables) (λ i t. rows_as_listed t i) in
    all_of (map at placed) (map Some (all_rows tables)) differ among
    (length-map placed at ∙ many ∙ sym all ∙ sym (length-map (all_rows tables) (λ (r : TableRow). Some r)))

pub rising-sorted : (tables : List Listing) (placed : List Place) → AllPairs (GoesBefore tables) placed → IsSortedByKey (id_at tables) row_cmp placed
rising-sorted tables placed rising = λ k d low high.
    ap is_lt (rows_total.antisymm (id_at tables (get_or placed (k + 1) d)) (id_at tables (get_or placed k d)))
    ∙ ap (λ o. is_lt (ordering_reverse o)) (rising k (k + 1) d (omega arith) high)

-- what the row before goes behind of, the next one goes behind of too
pub one_more :
    (tables : List Listing) (places : List Place) (i j : ℕ) (d : Place) → j < i → ((j k : ℕ) (d : Place) → j < k → k < i → GoesBefore tables (get_or places j d) (get_or places k d))
    → GoesBefore tables (get_or places (i - 1) d) (get_or places i d) → GoesBefore tables (get_or places j d) (get_or places i d)
one_more tables places i j d low rising next =
    elim (cases_eq j (i - 1)) [
      | inl same ↦ subst (λ m. GoesBefore tables (get_or places m d) (get_or places i d)) (sym same) next
      | inr other ↦ rows_total.trans (id_at tables (get_or places j d)) (id_at tables (get_or places (i - 1) d)) (id_at tables (get_or places i d)) (rising j (i - 1) d (omega arith) (omega arith)) next
    ]
