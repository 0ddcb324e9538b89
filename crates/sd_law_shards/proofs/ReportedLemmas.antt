-- What records, deletions and dumps tell of a row: what is seen of it.
use Rattle.std.proofs.Common.{◌≡◌, ℕ, ◌<◌, ◌≤◌, Bool, true, false, cond, eqb, List, [], ◌∷◌, map, refl, sym, ap, ◌∙◌}
use Rattle.std.specs.Prelude.{Option, Some, None, option_map, flat_map}
use Rattle.std.specs.List.{range_with_len}
use Rattle.std.specs.Ordering.{nat_cmp, eq_by_cmp}
use Rattle.std.specs.Cmp.Lexicographic.{slice_cmp, nat_list_cmp_total}
use Rattle.std.specs.FinMap.{FinMap, get, entries, find, from_entries, retain_keys, get-entries, get-retain_keys, nat_cmp-IsAntisymmetric, slice_cmp-IsAntisymmetric}
use Rattle.std.proofs.lemmas.Bool.{eq-eqb}
use Rattle.sd_model_text.specs.Names.{Kind, rank, shard}
use Rattle.sd_model_settings.specs.Settings.{Plan}
use Rattle.sd_model_shard.specs.Rows.{RowId, row_cmp, Kept, Rows, DumpRow, dump_of, in_key_order, is_hit, is_of_kind, keys_of, rows_taken_out}
use Rattle.sd_model_shard.specs.Shard.{State, table_of}
use Rattle.sd_model_shard.proofs.RowLemmas.{rows_exact, rows_total}
use Rattle.sd_model_shard.proofs.DeletionLemmas.{same_row}
use Rattle.sd_model_record.specs.Record.{Row}
use Rattle.sd_model_shard.proofs.ReportedLemmas.{by_key}
use Rattle.sd_model_record.proofs.OrderLemmas.{by_key-flat_map, AreOfKind, retained_of_kind, hit_of_kind, tie_by_key}
use Rattle.sd_model_replay.proofs.AccountingLemmas.{in_range}
use Rattle.sd_law_shards.proofs.ViewLemmas.{View, nothing, view}
use Rattle.sd_law_shards.proofs.EventsLemmas.{Reflects}
use Rattle.sd_law_shards.proofs.MergedLemmas.{merged_alike}
use Rattle.sd_model_record.proofs.Short.{table_rows, row_value}
use Rattle.sd_model_shard.proofs.Short.{dump_row}

-- what is told of a row that isn't there is nothing
masked : {X : Type 0} (f : View → Option X) (b : Bool) (v : View) → f nothing ≡ None → f (cond b v nothing) ≡ cond b (f v) None
masked f true v h = refl
masked f false v h = h

-- rows of one kind, found by their keys
module _ {X : Type 0} (key : X → List ℕ) (kind : Kind) where
  find_reported : (f : RowId × Kept → X) → ((e : RowId × Kept) → key (f e) ≡ e.0.key) → (q : List ℕ) (es : List (RowId × Kept)) → AreOfKind kind es
      → find (slice_cmp nat_cmp) q (by_key key (map f es)) ≡ option_map (λ kept. f (record { kind = kind; key = q }, kept)) (find row_cmp (record { kind = kind; key = q }) es)
  find_reported f same q [] all = refl
  find_reported f same q (e ∷ es) all =
      ap (λ b. cond b (Some (f e)) (find (slice_cmp nat_cmp) q (by_key key (map f es))))
      (ap (eq_by_cmp (slice_cmp nat_cmp) q) (same e) ∙ sym (tie_by_key kind (record { kind = kind; key = q }) e.0 (eq-eqb (rank kind) (rank kind) refl) all.0))
      ∙ by_tie (eq_by_cmp row_cmp (record { kind = kind; key = q }) e.0) refl (find_reported f same q es all.1) where
        by_tie : (b : Bool) → eq_by_cmp row_cmp (record { kind = kind; key = q }) e.0 ≡ b
            → find (slice_cmp nat_cmp) q (by_key key (map f es)) ≡ option_map (λ kept. f (record { kind = kind; key = q }, kept)) (find row_cmp (record { kind = kind; key = q }) es)
            → cond b (Some (f e)) (find (slice_cmp nat_cmp) q (by_key key (map f es))) ≡ option_map (λ kept. f (record { kind = kind; key = q }, kept)) (cond b (Some e.1) (find row_cmp (record { kind = kind; key = q }) es))
        by_tie true is rest = ap (λ (id : RowId). Some (f (id, e.1))) (sym (same_row (record { kind = kind; key = q }) e.0 is))
        by_tie false is rest = rest

  module _ (p : RowId → Bool) (tells : (id : RowId) → p id ≡ true → is_of_kind kind id ≡ true) where
    pub find_retained : (f : RowId × Kept → X) → ((e : RowId × Kept) → key (f e) ≡ e.0.key) → (live : Rows) (q : List ℕ)
        → find (slice_cmp nat_cmp) q (by_key key (map f (entries (retain_keys live p)))) ≡ option_map (λ kept. f (record { kind = kind; key = q }, kept)) (cond (p (record { kind = kind; key = q })) (get live (record { kind = kind; key = q })) None)
    find_retained f same live q =
        let id : RowId = record { kind = kind; key = q } in
        find_reported f same q (entries (retain_keys live p)) (retained_of_kind kind live p tells)
        ∙ ap (option_map (λ kept. f (id, kept))) (sym (get-entries (retain_keys live p) id) ∙ get-retain_keys live p id (λ x tie. ap p (sym (rows_exact id x tie))))

    -- what is told of a row, by what is seen of it
    module _ (f : RowId × Kept → X) (same : (e : RowId × Kept) → key (f e) ≡ e.0.key) where
      abbrev seen_reported : List ℕ → View → Option X
      seen_reported q v = option_map (λ kept. f (record { kind = kind; key = q }, kept)) (cond (p (record { kind = kind; key = q })) v None)

      reported_reflected : (shards : ℕ) (states : ℕ → State) (seen : RowId → View) → Reflects shards states seen → (q : List ℕ) (i : ℕ) → i < shards
          → find (slice_cmp nat_cmp) q (by_key key (map f (entries (retain_keys (states i).live p)))) ≡ cond (eqb i (shard q shards)) (seen_reported q (seen (record { kind = kind; key = q }))) None
      reported_reflected shards states seen h q i below =
          let id : RowId = record { kind = kind; key = q } in
          find_retained f same (states i).live q ∙ ap (seen_reported q) (h i below id) ∙ masked (seen_reported q) (eqb i (shard q shards)) (seen id) (none_reported (p id)) where
            none_reported : (b : Bool) → option_map (λ (kept : Kept). f (record { kind = kind; key = q }, kept)) (cond b None None) ≡ None
            none_reported true = refl
            none_reported false = refl

      pub reported_alike : (n m : ℕ) → 1 ≤ n → 1 ≤ m → (states others : ℕ → State) (seen : RowId → View) → Reflects n states seen → Reflects m others seen
          → in_key_order key (flat_map (λ i. map f (entries (retain_keys (states i).live p))) (range_with_len 0 n))
          ≡ in_key_order key (flat_map (λ i. map f (entries (retain_keys (others i).live p))) (range_with_len 0 m))
      reported_alike n m some_n some_m states others seen h g' =
          let exact = slice_cmp-IsAntisymmetric nat_cmp-IsAntisymmetric in
          let Reported : ℕ → List X = λ i. map f (entries (retain_keys (states i).live p)) in
          let Other : ℕ → List X = λ i. map f (entries (retain_keys (others i).live p)) in
          ap (λ es. map (λ (e : List ℕ × X). e.1) (entries (from_entries {R = slice_cmp nat_cmp} es))) (by_key-flat_map key Reported (range_with_len 0 n))
          ∙ ap (λ (m : FinMap (slice_cmp nat_cmp) X). map (λ e. e.1) (entries m))
          (merged_alike (slice_cmp nat_cmp) nat_list_cmp_total exact (λ i. by_key key (Reported i)) (λ i. by_key key (Other i)) n m (λ q. shard q n) (λ q. shard q m)
          (λ q. seen_reported q (seen (record { kind = kind; key = q }))) (in_range n some_n) (in_range m some_m) (reported_reflected n states seen h) (reported_reflected m others seen g'))
          ∙ sym (ap (λ es. map (λ (e : List ℕ × X). e.1) (entries (from_entries {R = slice_cmp nat_cmp} es))) (by_key-flat_map key Other (range_with_len 0 m)))

-- the keys of a deletion, and the rows of a dump, of all shards
module _ (n m : ℕ) (some_n : 1 ≤ n) (some_m : 1 ≤ m) (states others : ℕ → State) (seen : RowId → View) (h : Reflects n states seen) (g : Reflects m others seen) where
  pub keys_alike : (kind : Kind) (name : List ℕ)
      → in_key_order (λ key. key) (flat_map (λ i. keys_of (rows_taken_out kind name (states i).live)) (range_with_len 0 n)) ≡ in_key_order (λ key. key) (flat_map (λ i. keys_of (rows_taken_out kind name (others i).live)) (range_with_len 0 m))
  keys_alike kind name =
      reported_alike (λ (key : List ℕ). key) kind (is_hit kind name) (hit_of_kind kind name) (λ row. row.0.key) (λ e. refl) n m some_n some_m states others seen h g

  pub rows_alike : (kind : Kind)
      → in_key_order (λ row. row.key) (flat_map (λ i. dump_of kind (states i).live) (range_with_len 0 n)) ≡ in_key_order (λ row. row.key) (flat_map (λ i. dump_of kind (others i).live) (range_with_len 0 m))
  rows_alike kind =
      reported_alike (λ (row : DumpRow). row.key) kind (is_of_kind kind) (λ id is. is) dump_row (λ e. refl) n m some_n some_m states others seen h g

-- the rows of the tables of all shards
module _ (plan : Plan) where
  abbrev value_reported : RowId → View → Option Row
  value_reported q v = option_map (row_value plan q) v

  find_value : (q : RowId) (es : List (RowId × Kept)) → find row_cmp q (map {B = RowId × Row} (λ e. (e.0, row_value plan e.0 e.1)) es) ≡ option_map (row_value plan q) (find row_cmp q es)
  find_value q [] = refl
  find_value q (e ∷ es) = by_tie (eq_by_cmp row_cmp q e.0) refl (find_value q es) where
    by_tie : (b : Bool) → eq_by_cmp row_cmp q e.0 ≡ b
        → find row_cmp q (map {B = RowId × Row} (λ e. (e.0, row_value plan e.0 e.1)) es) ≡ option_map (row_value plan q) (find row_cmp q es)
        → cond b (Some (row_value plan e.0 e.1)) (find row_cmp q (map {B = RowId × Row} (λ e. (e.0, row_value plan e.0 e.1)) es)) ≡ option_map (row_value plan q) (cond b (Some e.1) (find row_cmp q es))
    by_tie true is rest = ap (λ (id : RowId). Some (row_value plan id e.1)) (sym (same_row q e.0 is))
    by_tie false is rest = rest

  value_seen : (state : State) (q : RowId) → find row_cmp q (table_rows plan (table_of state)) ≡ value_reported q (view state q)
  value_seen state q = find_value q (entries state.live) ∙ ap (option_map (row_value plan q)) (sym (get-entries state.live q))

  value_reflected : (shards : ℕ) (states : ℕ → State) (seen : RowId → View) → Reflects shards states seen → (q : RowId) (i : ℕ) → i < shards
      → find row_cmp q (table_rows plan (table_of (states i))) ≡ cond (eqb i (shard q.key shards)) (value_reported q (seen q)) None
  value_reflected shards states seen h q i below = value_seen (states i) q ∙ ap (value_reported q) (h i below q) ∙ masked (value_reported q) (eqb i (shard q.key shards)) (seen q) refl

  pub values_alike : (n m : ℕ) → 1 ≤ n → 1 ≤ m → (states others : ℕ → State) (seen : RowId → View) → Reflects n states seen → Reflects m others seen
      → from_entries {R = row_cmp} (flat_map (λ i. table_rows plan (table_of (states i))) (range_with_len 0 n)) ≡ from_entries {R = row_cmp} (flat_map (λ i. table_rows plan (table_of (others i))) (range_with_len 0 m))
  values_alike n m some_n some_m states others seen h g =
      merged_alike row_cmp rows_total rows_exact (λ i. table_rows plan (table_of (states i))) (λ i. table_rows plan (table_of (others i))) n m (λ q. shard q.key n) (λ q. shard q.key m) (λ q. value_reported q (seen q))
      (λ q. in_range n some_n q.key) (λ q. in_range m some_m q.key) (value_reflected n states seen h) (value_reflected m others seen g)
