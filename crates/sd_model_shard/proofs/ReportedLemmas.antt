-- What is told of rows of a kind, put into the order of its keys.
use Rattle.std.proofs.Common.{◌≡◌, ℕ, ◌+◌, ◌<◌, Bool, true, false, cond, T, ◌&&◌, List, [], ◌∷◌, length, get_or, map, filter, refl, sym, ap, subst, ◌∙◌, IsPermutation, IsSortedByKey, arith}
use Rattle.std.specs.declared.cmp.Ordering.{Ordering}
use Rattle.std.specs.declared.cmp.Ordering.TheVariants.{Less, Equal, Greater}
use Rattle.std.specs.List.{AllByRecursion}
use Rattle.std.specs.Ordering.{is_lt, is_eq, nat_cmp, ordering_then}
use Rattle.std.specs.Cmp.{eq_by_cmp_equiv, nat_cmp_total}
use Rattle.std.specs.Cmp.Lexicographic.{slice_cmp, nat_list_cmp_total}
use Rattle.std.specs.FinMap.{is_sorted, entries, entries_sorted, from_entries, retain_keys, get-entries, get-from_entries, same_map, slice_cmp-IsAntisymmetric, nat_cmp-IsAntisymmetric}
use Rattle.std.specs.FinMap.Entries.{below_all}
use Rattle.std.proofs.lemmas.List.{length-map, get_or-map}
use Rattle.std.proofs.lemmas.List.Sorted.{IsPermutation-map, IsPermutation-sym}
use Rattle.sd_model_text.specs.Names.{rank}
use Rattle.sd_model_shard.specs.Rows.{RowId, row_cmp, Kept, Rows, in_key_order}
use Rattle.sd_model_shard.proofs.RowLemmas.{rows_exact, rows_total}
use Rattle.sd_model_shard.proofs.EntryLemmas.{StandApart-sorted, entries-from_entries, entries-sorted, find-IsPermutation}
use Rattle.sd_model_shard.proofs.ListedLemmas.{retained}

both : (a b : Bool) → T a → T b → T (a && b)
both true b p q = q
both false b p q = absurd p

first : (a b : Bool) → T (a && b) → T a
first true b p = tt
first false b p = absurd p

second : (a b : Bool) → T (a && b) → T b
second true b p = p
second false b p = absurd p

-- each with its key
abbrev pub by_key : {X : Type 0} → (X → List ℕ) → List X → List (List ℕ × X)
by_key key xs = map (λ x. (key x, x)) xs

module _ {X : Type 0} (key : X → List ℕ) where
  pub keyed_back : (xs : List X) → map (λ (e : List ℕ × X). e.1) (by_key key xs) ≡ xs
  keyed_back [] = refl
  keyed_back (x ∷ xs) = ap (λ ys. x ∷ ys) (keyed_back xs)

  pub keyed_sorted : (xs : List X) → IsSortedByKey key (slice_cmp nat_cmp) xs → IsSortedByKey (λ (e : List ℕ × X). e.0) (slice_cmp nat_cmp) (by_key key xs)
  keyed_sorted [] up = λ k d low high. absurd (omega arith)
  keyed_sorted (x ∷ xs) up = λ k d low high.
      let es = by_key key (x ∷ xs) in
      let few : k + 1 < length (x ∷ xs) = omega (arith, length-map {B = List ℕ × X} (x ∷ xs) (λ (y : X). (key y, y))) in
      ap (λ (e : List ℕ × X). is_lt (slice_cmp nat_cmp e.0 (get_or es k d).0)) (get_or-map (λ (y : X). (key y, y)) (x ∷ xs) (k + 1) x d few)
      ∙ ap (λ (e : List ℕ × X). is_lt (slice_cmp nat_cmp (key (get_or (x ∷ xs) (k + 1) x)) e.0)) (get_or-map (λ (y : X). (key y, y)) (x ∷ xs) k x d (omega arith))
      ∙ up k x low few

  -- what is told in strict order is the one list of it in order
  pub in_order : (reported xs : List X) → T (is_sorted (slice_cmp nat_cmp) (by_key key reported)) → IsPermutation xs reported → IsSortedByKey key (slice_cmp nat_cmp) xs → xs ≡ reported
  in_order reported xs strict moved up =
      let exact = slice_cmp-IsAntisymmetric nat_cmp-IsAntisymmetric in
      let es = by_key key reported in
      let fs = by_key key xs in
      let same : fs ≡ es =
      sym (entries-sorted nat_list_cmp_total exact es fs (StandApart-sorted (slice_cmp nat_cmp) es strict) (IsPermutation-map (λ (x : X). (key x, x)) reported xs (IsPermutation-sym xs reported moved)) (keyed_sorted xs up))
      ∙ entries-from_entries nat_list_cmp_total exact es strict in
      sym (keyed_back xs) ∙ ap (map (λ (e : List ℕ × X). e.1)) same ∙ keyed_back reported

  -- what is told in strict order is what any order of it comes to
  reordered : (reported xs : List X) → T (is_sorted (slice_cmp nat_cmp) (by_key key reported)) → IsPermutation reported xs → in_key_order key xs ≡ reported
  reordered reported xs strict moved =
      let exact = slice_cmp-IsAntisymmetric nat_cmp-IsAntisymmetric in
      let es = by_key key reported in
      let fs = by_key key xs in
      let same : entries (from_entries {R = slice_cmp nat_cmp} fs) ≡ es =
      ap entries (same_map nat_list_cmp_total exact (from_entries fs) (from_entries es) (λ q.
      get-from_entries nat_list_cmp_total fs q
      ∙ sym (find-IsPermutation nat_list_cmp_total exact es fs (StandApart-sorted (slice_cmp nat_cmp) es strict) (IsPermutation-map (λ (x : X). (key x, x)) reported xs moved) q)
      ∙ sym (get-from_entries nat_list_cmp_total es q)))
      ∙ entries-from_entries nat_list_cmp_total exact es strict in
      ap (map (λ (e : List ℕ × X). e.1)) same ∙ keyed_back reported

below-filter : (p : RowId → Bool) (id : RowId) (es : List (RowId × Kept)) → T (below_all row_cmp id es) → T (below_all row_cmp id (filter (λ (e : RowId × Kept). p e.0) es))
below-filter p id [] h = tt
below-filter p id (e ∷ es) h = by_test (p e.0) (below-filter p id es (second _ _ h)) where
  by_test : (b : Bool) → T (below_all row_cmp id (filter (λ (x : RowId × Kept). p x.0) es)) → T (below_all row_cmp id (cond b (e ∷ filter (λ (x : RowId × Kept). p x.0) es) (filter (λ (x : RowId × Kept). p x.0) es)))
  by_test true rest = both (is_lt (row_cmp id e.0)) (below_all row_cmp id (filter (λ (x : RowId × Kept). p x.0) es)) (first _ _ h) rest
  by_test false rest = rest

is_sorted-filter : (p : RowId → Bool) (es : List (RowId × Kept)) → T (is_sorted row_cmp es) → T (is_sorted row_cmp (filter (λ (e : RowId × Kept). p e.0) es))
is_sorted-filter p [] h = tt
is_sorted-filter p (e ∷ es) h = by_test (p e.0) (is_sorted-filter p es (second _ _ h)) where
  by_test : (b : Bool) → T (is_sorted row_cmp (filter (λ (x : RowId × Kept). p x.0) es)) → T (is_sorted row_cmp (cond b (e ∷ filter (λ (x : RowId × Kept). p x.0) es) (filter (λ (x : RowId × Kept). p x.0) es)))
  by_test true rest = both (below_all row_cmp e.0 (filter (λ (x : RowId × Kept). p x.0) es)) (is_sorted row_cmp (filter (λ (x : RowId × Kept). p x.0) es)) (below-filter p e.0 es (first _ _ h)) rest
  by_test false rest = rest

-- the rows whose ids pass a test, in order
pub entries-retain_keys : (live : Rows) (p : RowId → Bool) → entries (retain_keys live p) ≡ filter (λ (e : RowId × Kept). p e.0) (entries live)
entries-retain_keys live p =
    let es = entries live in
    let few = filter (λ (e : RowId × Kept). p e.0) es in
    let whole : live ≡ from_entries es = same_map rows_total rows_exact live (from_entries es) (λ q. get-entries live q ∙ sym (get-from_entries rows_total es q)) in
    ap (λ (m : Rows). entries (retain_keys m p)) whole ∙ ap entries (retained p es)
    ∙ entries-from_entries rows_total rows_exact few (is_sorted-filter p es (entries_sorted live))

-- rows of one kind
abbrev AreOfRank : ℕ → List (RowId × Kept) → Type 0
AreOfRank n es = AllByRecursion (λ (e : RowId × Kept). rank e.0.kind ≡ n) es

of_rank : (n : ℕ) (p : RowId → Bool) (tells : (id : RowId) → p id ≡ true → rank id.kind ≡ n) (es : List (RowId × Kept)) → AreOfRank n (filter (λ (e : RowId × Kept). p e.0) es)
of_rank n p tells [] = tt
of_rank n p tells (e ∷ es) = by_test (p e.0) refl (of_rank n p tells es) where
  by_test : (b : Bool) → p e.0 ≡ b → AreOfRank n (filter (λ (x : RowId × Kept). p x.0) es) → AreOfRank n (cond b (e ∷ filter (λ (x : RowId × Kept). p x.0) es) (filter (λ (x : RowId × Kept). p x.0) es))
  by_test true is rest = (tells e.0 is, rest)
  by_test false is rest = rest

is_equal : (o : Ordering) → is_eq o ≡ true → o ≡ Equal
is_equal Less h = absurd (cc)
is_equal Equal h = refl
is_equal Greater h = absurd (cc)

by_keys : (n : ℕ) (a b : RowId) → rank a.kind ≡ n → rank b.kind ≡ n → row_cmp a b ≡ slice_cmp nat_cmp a.key b.key
by_keys n a b p q =
    ap (λ (m : ℕ). ordering_then (nat_cmp m (rank b.kind)) (slice_cmp nat_cmp a.key b.key)) p
    ∙ ap (λ (m : ℕ). ordering_then (nat_cmp n m) (slice_cmp nat_cmp a.key b.key)) q
    ∙ ap (λ o. ordering_then o (slice_cmp nat_cmp a.key b.key)) (is_equal (nat_cmp n n) ((eq_by_cmp_equiv nat_cmp_total).refl n))

module _ {X : Type 0} (key : X → List ℕ) (f : RowId × Kept → X) (same : (e : RowId × Kept) → key (f e) ≡ e.0.key) (n : ℕ) where
  below_keys : (e : RowId × Kept) (es : List (RowId × Kept)) → rank e.0.kind ≡ n → AreOfRank n es → T (below_all row_cmp e.0 es) → T (below_all (slice_cmp nat_cmp) (key (f e)) (by_key key (map f es)))
  below_keys e [] p all h = tt
  below_keys e (d ∷ es) p all h =
      both (is_lt (slice_cmp nat_cmp (key (f e)) (key (f d)))) (below_all (slice_cmp nat_cmp) (key (f e)) (by_key key (map f es)))
      (subst (λ o. T (is_lt o)) (by_keys n e.0 d.0 p all.0 ∙ ap (λ (k : List ℕ). slice_cmp nat_cmp k d.0.key) (sym (same e)) ∙ ap (slice_cmp nat_cmp (key (f e))) (sym (same d))) (first _ _ h))
      (below_keys e es p all.1 (second _ _ h))

  strict_keys : (es : List (RowId × Kept)) → AreOfRank n es → T (is_sorted row_cmp es) → T (is_sorted (slice_cmp nat_cmp) (by_key key (map f es)))
  strict_keys [] all h = tt
  strict_keys (e ∷ es) all h =
      both (below_all (slice_cmp nat_cmp) (key (f e)) (by_key key (map f es))) (is_sorted (slice_cmp nat_cmp) (by_key key (map f es)))
      (below_keys e es all.0 all.1 (first _ _ h)) (strict_keys es all.1 (second _ _ h))

  strict_reported : (live : Rows) (p : RowId → Bool) → ((id : RowId) → p id ≡ true → rank id.kind ≡ n) → T (is_sorted (slice_cmp nat_cmp) (by_key key (map f (entries (retain_keys live p)))))
  strict_reported live p tells =
      strict_keys (entries (retain_keys live p)) (subst (AreOfRank n) (sym (entries-retain_keys live p)) (of_rank n p tells (entries live))) (entries_sorted (retain_keys live p))

  -- what is told of the rows of a kind that pass a test, sorted by the keys
  pub reported_in_order : (live : Rows) (p : RowId → Bool) → ((id : RowId) → p id ≡ true → rank id.kind ≡ n) → (xs : List X)
      → IsPermutation xs (map f (entries (retain_keys live p))) → IsSortedByKey key (slice_cmp nat_cmp) xs → xs ≡ map f (entries (retain_keys live p))
  reported_in_order live p tells xs moved up = in_order key (map f (entries (retain_keys live p))) xs (strict_reported live p tells) moved up

  -- the same, in any order
  pub reported_in_any_order : (live : Rows) (p : RowId → Bool) → ((id : RowId) → p id ≡ true → rank id.kind ≡ n) → (xs : List X)
      → IsPermutation xs (map f (entries (retain_keys live p))) → in_key_order key xs ≡ map f (entries (retain_keys live p))
  reported_in_any_order live p tells xs moved =
      reordered key (map f (entries (retain_keys live p))) xs (strict_reported live p tells) (IsPermutation-sym xs (map f (entries (retain_keys live p))) moved)
