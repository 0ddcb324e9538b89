use Rattle.std.proofs.Common.{◌≢◌, Option, None, refl, sym, ap, subst, ◌∙◌, arith}
use Rattle.std.specs.Prelude.{unsigned_abs, IfSome}
use Rattle.std.specs.FinMap.{get}
use Rattle.sd_decimal.specs.declared.number.Sum.{Sum}
use Rattle.sd_model_shard.specs.Rows.{Kept}
use Rattle.sd_rows.specs.Rows.{row_at, row_seen}
use Rattle.sd_rows.specs.declared.row.Row.{Row}
use Rattle.sd_epoch.specs.Table.{Listing, Tells, live_of, row_view, id_of}
use Rattle.sd_epoch.specs.TableInside.{listing_of}
use Rattle.sd_rows.specs.declared.tally.Tally.{Tally}
use Rattle.sd_epoch.proofs.TableLemmas.{facts_tell, few_samples, found_here}
use Rattle.sd_epoch.proofs.table.Table.row_at.Goals as goal

pub returns-in-Some-clause-reported : goal.returns-in-Some-clause-reported
returns-in-Some-clause-reported c =
    let t = c.self.inside in
    let w = c.self.invariant in
    let row = row_seen c.in-Some.row in
    let facts = c.facts_of.result in
    let tally = c.tally.ensures in
    let tells = facts_tell t row c.args.at c.tally.result facts tally c.facts_of.ensures.row c.facts_of.ensures.samples c.facts_of.ensures.weight in
    subst (λ (s : Listing). IfSome (get (live_of s) (id_of facts.kind facts.key)) (λ kept. Tells facts (id_of facts.kind facts.key, kept))) c.self.view_is
    (subst (λ (o : Option Kept). IfSome o (λ kept. Tells facts (id_of facts.kind facts.key, kept)))
    (sym (ap (get (live_of (listing_of t))) (sym (ap (λ (r : Row). (row_view r).0) c.facts_of.ensures.row)) ∙ found_here t w c.args.at row c.in-Some.ensures))
    (record { id = refl; base = tells.base; swaps = tells.swaps; samples = tells.samples; weight = tells.weight }))

pub returns-in-Some-clause-bound : goal.returns-in-Some-clause-bound
returns-in-Some-clause-bound c =
    let t = c.self.inside in
    let w = c.self.invariant in
    let row = row_seen c.in-Some.row in
    let tally = c.tally.ensures in
    let live : row_at t.rows.rows c.args.at ≢ None = λ none. absurd (cc (c.in-Some.ensures, none)) in
    omega (
      arith,
      ap (λ (s : Sum). unsigned_abs s.0) c.facts_of.ensures.weight,
      ap (λ (x : Tally). unsigned_abs x.weight.0) tally,
      (w.since c.args.at row c.in-Some.ensures).bound,
      few_samples t w c.args.at live,
      w.few_held,
    )
