use Rattle.std.proofs.Common.{ap, sym, subst, arith, Option}
use Rattle.std.specs.Prelude.{unsigned_abs, IfSome}
use Rattle.std.specs.List.{slice_get}
use Rattle.sd_decimal.specs.declared.number.Sum.{Sum}
use Rattle.sd_model_shard.specs.Rows.{RowId, Kept}
use Rattle.sd_rows.specs.Rows.{row_seen}
use Rattle.sd_epoch.specs.Table.{Listing, Tells}
use Rattle.sd_rows.specs.declared.tally.Tally.{Tally}
use Rattle.sd_epoch.proofs.TableLemmas.{place_live, place_within, at_place, facts_tell}
use Rattle.sd_epoch.proofs.table.Table.row.Goals as goal

pub live_row-row-requires : goal.live_row-row-requires
live_row-row-requires c = place_live c.self.inside c.self.invariant c.args.self.now c.self.view_is c.args.i c.index-place.result.now c.requires c.index-place.ensures

pub tally-requires : goal.tally-requires
tally-requires c =
    let t = c.self.inside in
    let w = c.self.invariant in
    omega (arith, place_within t w c.args.self.now c.self.view_is c.args.i c.index-place.result.now c.requires c.index-place.ensures, w.places)

pub returns-clause-listed : goal.returns-clause-listed
returns-clause-listed c =
    let t = c.self.inside in
    let at = at_place c.self.inside c.self.invariant c.args.self.now c.self.view_is c.args.i c.index-place.result.now c.requires c.index-place.ensures (row_seen c.live_row-row.result) c.live_row-row.ensures in
    let tally = c.tally.ensures in
    subst (λ (s : Listing). IfSome (slice_get s.listed c.args.i) (Tells c.facts_of.result)) c.self.view_is
    (subst (λ (o : Option (RowId × Kept)). IfSome o (Tells c.facts_of.result)) (sym at.listed)
    (facts_tell t (row_seen c.live_row-row.result) c.index-place.result.now c.tally.result c.facts_of.result tally c.facts_of.ensures.row c.facts_of.ensures.samples c.facts_of.ensures.weight))

pub returns-clause-bound : goal.returns-clause-bound
returns-clause-bound c =
    let t = c.self.inside in
    let w = c.self.invariant in
    let at = at_place c.self.inside c.self.invariant c.args.self.now c.self.view_is c.args.i c.index-place.result.now c.requires c.index-place.ensures (row_seen c.live_row-row.result) c.live_row-row.ensures in
    let tally = c.tally.ensures in
    omega (
      arith,
      ap (λ (s : Sum). unsigned_abs s.0) c.facts_of.ensures.weight,
      ap (λ (x : Tally). unsigned_abs x.weight.0) tally,
      at.since.bound,
      at.few,
      w.few_held,
    )
