-- What a deletion and a dump append, and what they reply.
use Rattle.std.proofs.Common.{◌≡◌, ℕ, ◌+◌, ◌≤◌, Bool, true, false, ◌&&◌, List, length, refl, sym, ap, subst, ◌∙◌}
use Rattle.std.proofs.Math.Seq.{drop-append_seam}
use Rattle.std.proofs.lemmas.Bool.{eqb-true}
use Rattle.sd_model_text.specs.Names.{Kind, rank, matches}
use Rattle.sd_model_shard.specs.Rows.{RowId, Kept, DumpRow, dump_of, is_hit, is_of_kind, in_key_order, keys_of, rows_taken_out}
use Rattle.sd_model_shard.specs.Shard as model
use Rattle.sd_model_shard.specs.Shard.{deletion_of}
use Rattle.sd_model_shard.proofs.ReportedLemmas.{reported_in_any_order}
use Rattle.sd_epoch.specs.Table.{live_of}
use Rattle.sd_shard.specs.declared.shard.Deleted.{Deleted}
use Rattle.sd_shard.specs.Keys.{KeyList}
use Rattle.sd_shard.specs.Dump.{DumpList, rows_of}
use Rattle.sd_shard.specs.Shard.{state_of, Appends, IsDeletion}
use Rattle.sd_pool.specs.Behind.{Behind, setup_of}
use Rattle.sd_pool.specs.Asks.{beyond, gone_of, shown_of, KeysGoOn, RowsGoOn}
use Rattle.sd_model_shard.proofs.Short.{dump_row}

-- what was appended
module _ {A : Type 0} where
  beyond-appended : (promised old new : List A) (a : Appends promised old new) → beyond old new ≡ a.0
  beyond-appended promised old new a = ap (beyond old) a.1 ∙ drop-append_seam old a.0

hit_of_rank : (kind : Kind) (pattern : List ℕ) (id : RowId) → is_hit kind pattern id ≡ true → rank id.kind ≡ rank kind
hit_of_rank kind pattern id hit = eqb-true (rank id.kind) (rank kind) (first (is_of_kind kind id) (matches pattern id.key) hit) where
  first : (a b : Bool) → (a && b) ≡ true → a ≡ true
  first true b h = refl
  first false b h = absurd (cc)

module _ (b : Behind) (kind : Kind) where
  module _ (pattern : List ℕ) (old new : KeyList) (gone : Deleted) (is : IsDeletion (deletion_of kind pattern (state_of b.shard)) old.items new.items gone) where
    abbrev keys : List (List ℕ)
    keys = keys_of (rows_taken_out kind pattern (live_of b.shard.table))

    reported_keys : in_key_order (λ key. key) (beyond old.items new.items) ≡ keys
    reported_keys =
        ap (in_key_order (λ (key : List ℕ). key)) (beyond-appended keys old.items new.items is.0)
        ∙ reported_in_any_order (λ (key : List ℕ). key) (λ (row : RowId × Kept). row.0.key) (λ e. refl) (rank kind) (live_of b.shard.table) (is_hit kind pattern) (hit_of_rank kind pattern) is.0.0 is.0.2

    pub gone_reported : gone_of old.items new.items gone ≡ deletion_of kind pattern (state_of b.shard)
    gone_reported = λ i. model.Deleted (reported_keys i) (is.1 i) (is.2 i)

    pub keys_go_on : length new.items ≤ length old.items + b.shard.table.limits.rows → new.room ≡ old.room → KeysGoOn (setup_of b) old new gone
    keys_go_on few same = record {
      promised = (subst (λ ks. Appends ks old.items new.items) (sym reported_keys) is.0, refl, refl);
      few = few;
      room = same;
    }

  module _ (old new : DumpList) (is : Appends (dump_of kind (live_of b.shard.table)) (rows_of old) (rows_of new)) where
    reported_rows : in_key_order (λ row. row.key) (beyond (rows_of old) (rows_of new)) ≡ dump_of kind (live_of b.shard.table)
    reported_rows =
        let t = b.shard.table in
        ap (in_key_order (λ (row : DumpRow). row.key)) (beyond-appended (dump_of kind (live_of t)) (rows_of old) (rows_of new) is)
        ∙ reported_in_any_order (λ (row : DumpRow). row.key) dump_row (λ e. refl) (rank kind) (live_of t) (is_of_kind kind) (λ id hit. eqb-true (rank id.kind) (rank kind) hit) is.0 is.2

    pub shown_reported : shown_of (rows_of old) (rows_of new) ≡ model.Dumped (dump_of kind (live_of b.shard.table))
    shown_reported = ap model.Dumped reported_rows

    pub rows_go_on : length new.items ≤ length old.items + b.shard.table.limits.rows → new.room ≡ old.room → RowsGoOn (setup_of b) old new
    rows_go_on few same = record {
      promised = subst (λ rows. Appends rows (rows_of old) (rows_of new)) (sym reported_rows) is;
      few = few;
      room = same;
    }
