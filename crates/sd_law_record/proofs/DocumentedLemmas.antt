-- Tables that tell their journals, and the rows of their records.
use Rattle.std.proofs.Common.{◌≡◌, ℕ, ℤ, T, cond, List, [], ◌∷◌, ◌++◌, map, refl, sym, ap, ◌∙◌}
use Rattle.std.specs.Prelude.{Some, flat_map}
use Rattle.std.specs.Cmp.{tied_itself}
use Rattle.std.specs.FinMap.{find, is_sorted, entries, entries_sorted, from_entries, get-entries}
use Rattle.std.specs.FinMap.Entries.{below_all}
use Rattle.std.specs.Ordering.{eq_by_cmp, is_eq}
use Rattle.sd_model_settings.specs.Settings.{Plan}
use Rattle.sd_model_shard.specs.Rows.{RowId, row_cmp, Summary, Kept, Entry, Tell}
use Rattle.sd_model_shard.specs.History.{Flushed}
use Rattle.sd_model_shard.proofs.RowLemmas.{rows_total}
use Rattle.sd_model_shard.proofs.EntryLemmas.{and_second, found_behind}
use Rattle.sd_model_record.specs.Record.{Row, row_of_kind, record_rows, documented_rows}
use Rattle.sd_law_record.specs.Tell.{AllTell}
use Rattle.sd_model_record.proofs.Short.{table_rows, row_value, documented_in}
use Rattle.sd_model_shard.proofs.Short.{statistics_of}

module _ (plan : Plan) where
  one_row : (journal : List Entry) (id : RowId) (kept : Kept) → kept.since ≡ statistics_of id kept.base journal → row_value plan id kept ≡ row_of_kind id.kind plan id.key (statistics_of id kept.base journal)
  one_row journal id kept reported = ap (row_of_kind id.kind plan id.key) reported

  each_row : (journal : List Entry) (es : List (RowId × Kept)) → T (is_sorted row_cmp es) → ((q : RowId) (kept : Kept) → find row_cmp q es ≡ Some kept → kept.since ≡ statistics_of q kept.base journal)
      → map {B = RowId × Row} (λ (e : RowId × Kept). (e.0, row_value plan e.0 e.1)) es ≡ map {B = RowId × Row} (λ (e : RowId × Kept). (e.0, row_of_kind e.0.kind plan e.0.key (statistics_of e.0 e.1.base journal))) es
  each_row journal [] h reported = refl
  each_row journal (e ∷ es) h reported =
      let here = one_row journal e.0 e.1 (reported e.0 e.1 (ap (λ o. cond (is_eq o) (Some e.1) (find row_cmp e.0 es)) (tied_itself rows_total e.0))) in
      let rest = each_row journal es (and_second (below_all row_cmp e.0 es) (is_sorted row_cmp es) h) (λ q kept is. reported q kept (found_behind rows_total q e es h kept is)) in
      λ i. (e.0, here i) ∷ rest i

  one_table : (f : Flushed) → Tell f.table.live f.journal → table_rows plan f.table ≡ documented_in plan f
  one_table f h = each_row f.journal (entries f.table.live) (entries_sorted f.table.live) (λ q kept is. h.rows q kept (get-entries f.table.live q ∙ is))

  all_tables : (fs : List Flushed) → AllTell fs → flat_map (table_rows plan) (map (λ f. f.table) fs) ≡ flat_map (documented_in plan) fs
  all_tables [] h = refl
  all_tables (f ∷ fs) h =
      let here = one_table f h.0 in
      let rest = all_tables fs h.1 in
      λ i. here i ++ rest i

  pub documented : (fs : List Flushed) → AllTell fs → record_rows plan (map (λ f. f.table) fs) ≡ documented_rows plan fs
  documented fs h = ap (λ (es : List (RowId × Row)). map (λ e. e.1) (entries (from_entries {R = row_cmp} es))) (all_tables fs h)
