-- A deletion that hits no row.
use Rattle.std.proofs.Common.{◌≡◌, ℕ, ◌+◌, ◌-◌, Bool, true, false, cond, not, List, [], length, filter, map, refl, sym, ap, ◌∙◌, Option, Some, None, is_some, sum_by, arith}
use Rattle.std.proofs.lemmas.List.{nil_from_length}
use Rattle.std.specs.FinMap.{contains_key, empty, entries, from_entries, get, get-empty, get-retain_keys, len-empty, len-entries, same_map}
use Rattle.sd_model_text.specs.Names.{Kind}
use Rattle.sd_model_shard.specs.Rows.{RowId, Kept, Rows, row_cmp, is_hit, keys_of, rows_taken_out, rows_left, samples_in, is_listed}
use Rattle.sd_model_shard.specs.Shard.{State, after_delete}
use Rattle.sd_model_shard.proofs.ListedLemmas.{retained}
use Rattle.sd_model_shard.proofs.RowLemmas.{rows_exact, rows_total}
use Rattle.sd_model_shard.proofs.Short.{listed_in}

absent : (o : Option Kept) → is_some o ≡ false → o ≡ None
absent None h = refl
absent (Some kept) h = absurd (cc)

-- where none of the rows that are listed is hit, none is there that would be
pub none_hit : (kind : Kind) (pattern : List ℕ) (es : List (RowId × Kept)) → length (filter (λ (e : RowId × Kept). is_hit kind pattern e.0) es) ≡ 0 → (id : RowId) → is_hit kind pattern id ≡ true → contains_key (from_entries {R = row_cmp} es) id ≡ false
none_hit kind pattern es none id hit =
    let live = from_entries {R = row_cmp} es in
    let hits = filter (λ (e : RowId × Kept). is_hit kind pattern e.0) es in
    ap is_some (
    ap (λ b. cond b (get live id) None) (sym hit)
    ∙ sym (get-retain_keys live (is_hit kind pattern) id (λ x tie. ap (is_hit kind pattern) (sym (rows_exact id x tie))))
    ∙ ap (λ (rows : Rows). get rows id) (retained (is_hit kind pattern) es ∙ ap (from_entries {R = row_cmp}) (nil_from_length hits none))
    ∙ get-empty row_cmp id
    )

nothing : entries (empty {X = Kept} {R = row_cmp}) ≡ []
nothing = nil_from_length (entries (empty {X = Kept} {R = row_cmp})) (sym (len-entries (empty {X = Kept} {R = row_cmp})) ∙ len-empty row_cmp Kept)

module _ (kind : Kind) (pattern : List ℕ) (state : State) (none : (id : RowId) → is_hit kind pattern id ≡ true → contains_key state.live id ≡ false) where
  none_out : rows_taken_out kind pattern state.live ≡ empty
  none_out = same_map rows_total rows_exact (rows_taken_out kind pattern state.live) empty (λ q.
      get-retain_keys state.live (is_hit kind pattern) q (λ x tie. ap (is_hit kind pattern) (sym (rows_exact q x tie)))
      ∙ by_test q (is_hit kind pattern q) refl ∙ sym (get-empty row_cmp q)) where
        by_test : (q : RowId) (b : Bool) → is_hit kind pattern q ≡ b → cond b (get state.live q) None ≡ None
        by_test q true h = absent (get state.live q) (none q h)
        by_test q false h = refl

  all_left : rows_left kind pattern state.live ≡ state.live
  all_left = same_map rows_total rows_exact (rows_left kind pattern state.live) state.live (λ q.
      get-retain_keys state.live (λ id. not (is_hit kind pattern id)) q (λ x tie. ap (λ id. not (is_hit kind pattern id)) (sym (rows_exact q x tie)))
      ∙ by_test q (is_hit kind pattern q) refl) where
        by_test : (q : RowId) (b : Bool) → is_hit kind pattern q ≡ b → cond (not b) (get state.live q) None ≡ get state.live q
        by_test q true h = sym (absent (get state.live q) (none q h))
        by_test q false h = refl

  none_reported : entries (rows_taken_out kind pattern state.live) ≡ []
  none_reported = ap entries none_out ∙ nothing

  pub no_keys : keys_of (rows_taken_out kind pattern state.live) ≡ []
  no_keys = ap (map (λ row. row.0.key)) none_reported

  pub no_samples : samples_in (rows_taken_out kind pattern state.live) ≡ 0
  no_samples = ap (sum_by (λ row. cond true row.1.since.samples 0)) none_reported

  no_listed : listed_in (rows_taken_out kind pattern state.live) ≡ 0
  no_listed = ap (sum_by (λ row. cond (is_listed row.0.kind) row.1.since.samples 0)) none_reported

  -- the state stays
  pub state_stays : after_delete kind pattern state ≡ state
  state_stays =
      let held : state.held - samples_in (rows_taken_out kind pattern state.live) ≡ state.held = omega (arith, no_samples) in
      let listed : state.listed - listed_in (rows_taken_out kind pattern state.live) ≡ state.listed = omega (arith, no_listed) in
      let deleted : state.deleted + samples_in (rows_taken_out kind pattern state.live) ≡ state.deleted = omega (arith, no_samples) in
      λ i. record state { live = all_left i; held = held i; listed = listed i; deleted = deleted i }
