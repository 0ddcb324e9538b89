use Rattle.std.proofs.Common.{◌≡◌, Option, ap, sym, subst, arith}
use Rattle.std.specs.Prelude.{IfSome}
use Rattle.std.specs.List.{slice_get}
use Rattle.sd_model_shard.specs.Rows.{RowId, Kept}
use Rattle.sd_rows.specs.Rows.{row_at}
use Rattle.sd_rows.proofs.IndexLemmas.{some_of}
use Rattle.sd_epoch.specs.Table.{Listing}
use Rattle.sd_rows.specs.declared.tally.Tally.{Tally}
use Rattle.sd_epoch.proofs.TableLemmas.{place_live, place_within, at_place}
use Rattle.sd_epoch.proofs.table.Table.gauge_of.Goals as goal

pub tally-requires : goal.tally-requires
tally-requires c =
    let t = c.self.inside in
    let w = c.self.invariant in
    omega (arith, place_within t w c.args.self.now c.self.view_is c.args.i c.index.result.now c.requires c.index.ensures, w.places)

pub returns : goal.returns
returns c =
    let t = c.self.inside in
    let w = c.self.invariant in
    let there = some_of (row_at t.rows.rows c.index.result.now) (place_live c.self.inside c.self.invariant c.args.self.now c.self.view_is c.args.i c.index.result.now c.requires c.index.ensures) in
    let at = at_place c.self.inside c.self.invariant c.args.self.now c.self.view_is c.args.i c.index.result.now c.requires c.index.ensures there.0 there.1 in
    let tally = c.tally.ensures in
    subst (λ (s : Listing). IfSome (slice_get s.listed c.args.i) (λ row. c.tally.result.gauge.0 ≡ row.1.since.gauge)) c.self.view_is
    (subst (λ (o : Option (RowId × Kept)). IfSome o (λ row. c.tally.result.gauge.0 ≡ row.1.since.gauge)) (sym at.listed) (ap (λ (x : Tally). x.gauge.0) tally))
