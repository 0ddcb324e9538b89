use Rattle.std.proofs.Common.{◌≡◌, Option, refl, sym, subst}
use Rattle.std.specs.Prelude.{IfSome}
use Rattle.std.specs.List.{slice_get}
use Rattle.sd_model_shard.specs.Rows.{RowId, Kept}
use Rattle.sd_rows.specs.Rows.{row_seen}
use Rattle.sd_epoch.specs.Table.{Listing, fresh, row_view}
use Rattle.sd_epoch.proofs.TableLemmas.{place_live, at_place}
use Rattle.sd_epoch.proofs.table.Table.get.Goals as goal

pub live_row-requires : goal.live_row-requires
live_row-requires c = place_live c.self.inside c.self.invariant c.args.self.now c.self.view_is c.args.i c.index.result.now c.requires c.index.ensures

pub returns : goal.returns
returns c =
    let at = at_place c.self.inside c.self.invariant c.args.self.now c.self.view_is c.args.i c.index.result.now c.requires c.index.ensures (row_seen c.live_row.result) c.live_row.ensures in
    subst (λ (s : Listing). IfSome (slice_get s.listed c.args.i) (λ row. (row.0, fresh row.1) ≡ row_view (row_seen c.live_row.result))) c.self.view_is
    (subst (λ (o : Option (RowId × Kept)). IfSome o (λ row. (row.0, fresh row.1) ≡ row_view (row_seen c.live_row.result))) (sym at.listed) refl)
