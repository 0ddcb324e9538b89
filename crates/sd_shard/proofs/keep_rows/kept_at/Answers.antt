use Rattle.std.proofs.Common.{◌≡◌, ◌+◌, Option, Some, option_map, min, inl, inr, sym, subst, ◌∙◌, arith}
use Rattle.std.specs.Prelude.{IfSome}
use Rattle.std.specs.FinMap.{get}
use Rattle.sd_model_shard.specs.Shard.{kept_by}
use Rattle.sd_model_shard.specs.Rows.{without_samples}
use Rattle.sd_key.specs.Kind.{kind_of}
use Rattle.sd_key.specs.declared.kind.Kind.{Kind}
use Rattle.sd_rows.specs.RowMap.{kept_of}
use Rattle.sd_rows.specs.Rows.{row_seen}
use Rattle.sd_rows.specs.declared.row.Row.{Row}
use Rattle.sd_rows.proofs.MapLemmas.{map-found}
use Rattle.sd_epoch.specs.Table.{live_of, id_of, row_view}
use Rattle.sd_shard.proofs.SwapLemmas.{gauge_goes_on}
use Rattle.sd_shard.proofs.keep_rows.kept_at.Goals as goal

pub returns-in-Gauge : goal.returns-in-Gauge
returns-in-Gauge c =
    let t = c.args.table.now in
    let row = row_seen c.args.row.now in
    let kept = c.requires.listing.rows (id_of row.kind row.key) ∙ map-found t.places c.args.at row c.requires.listing.apart c.requires.row in
    let value = subst (λ (o : Option Row). IfSome o (λ r. IfSome (get (live_of t) (row_view r).0) (λ k. c.gauge_at.result.0 ≡ k.since.gauge))) c.requires.row c.gauge_at.ensures in
    let swaps : c.min.result ≡ min (row.swaps + 1) 1000000000 = omega (arith, c.min.ensures, c.saturating_add.ensures) in
    subst (λ (k : Kind). option_map (kept_by (kind_of k)) (get (live_of t) (id_of row.kind row.key)) ≡ Some (without_samples c.gauge_at.result.0 c.min.result)) (sym c.in-Gauge.is)
    (gauge_goes_on (get (live_of t) (id_of row.kind row.key)) row c.gauge_at.result.0 c.min.result kept value swaps)

pub returns-in-Counter : goal.returns-in-Counter
returns-in-Counter c =
    let t = c.args.table.now in
    let row = row_seen c.args.row.now in
    let goes_on : Kind → Type 0 = λ k. option_map (kept_by (kind_of k)) (get (live_of t) (id_of row.kind row.key)) ≡ Some (kept_of row) in
    let kept = c.requires.listing.rows (id_of row.kind row.key) ∙ map-found t.places c.args.at row c.requires.listing.apart c.requires.row in
    elim c.in-Counter.is [
      | inl e ↦ subst goes_on (sym e) kept
      | inr others ↦ elim others [
        | inl e ↦ subst goes_on (sym e) kept
        | inr e ↦ subst goes_on (sym e) kept
      ]
    ]
