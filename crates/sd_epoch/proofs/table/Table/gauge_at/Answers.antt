use Rattle.std.proofs.Common.{◌≡◌, Option, Some, None, refl, sym, ap, subst}
use Rattle.std.specs.Prelude.{IfSome}
use Rattle.std.specs.FinMap.{get}
use Rattle.sd_model_shard.specs.Rows.{Kept}
use Rattle.sd_rows.specs.Rows.{row_at}
use Rattle.sd_rows.specs.declared.row.Row.{Row}
use Rattle.sd_epoch.specs.Table.{Listing, live_of, row_view}
use Rattle.sd_rows.specs.declared.tally.Tally.{Tally}
use Rattle.sd_epoch.specs.TableInside.{listing_of}
use Rattle.sd_epoch.proofs.TableLemmas.{found_here}
use Rattle.sd_epoch.proofs.table.Table.gauge_at.Goals as goal

pub returns : goal.returns
returns c =
    subst (λ (s : Listing). IfSome (row_at s.places c.args.at) (λ row. IfSome (get (live_of s) (row_view row).0) (λ kept. c.tally.result.gauge.0 ≡ kept.since.gauge))) c.self.view_is
    (by_row (row_at c.self.inside.rows.rows c.args.at) refl) where
      by_row : (o : Option Row) → row_at c.self.inside.rows.rows c.args.at ≡ o
          → IfSome o (λ row. IfSome (get (live_of (listing_of c.self.inside)) (row_view row).0) (λ kept. c.tally.result.gauge.0 ≡ kept.since.gauge))
      by_row None is = tt
      by_row (Some row) is =
          subst (λ (o : Option Kept). IfSome o (λ kept. c.tally.result.gauge.0 ≡ kept.since.gauge)) (sym (found_here c.self.inside c.self.invariant c.args.at row is))
          (ap (λ (t : Tally). t.gauge.0) c.tally.ensures)
