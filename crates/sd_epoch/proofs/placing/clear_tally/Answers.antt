use Rattle.std.proofs.Common.{◌≡◌, List, get_or, Some, sym, ap, subst, ◌∙◌, arith}
use Rattle.std.proofs.lemmas.List.{get_or-set_same}
use Rattle.sd_rows.specs.Rows.{row_seen}
use Rattle.sd_rows.specs.declared.row.Row.{Row}
use Rattle.sd_rows.specs.declared.tally.Tally.{Tally}
use Rattle.sd_epoch.specs.Since.{no_tally, IsFresh}
use Rattle.sd_epoch.proofs.placing.clear_tally.Goals as goal

pub returns-in-Some-clause-tally : goal.returns-in-Some-clause-tally
returns-in-Some-clause-tally c row is =
    let at = c.args.at in
    let e : Some row ≡ Some (row_seen c.in-Some.row) = sym is ∙ c.in-Some.ensures in
    let r : row ≡ row_seen c.in-Some.row = cc (e) in
    let t : get_or c.set_tally.new.self.tallies at no_tally ≡ c.empty_tally.result =
    ap (λ (ts : List Tally). get_or ts at no_tally) c.set_tally.ensures.tallies
    ∙ get_or-set_same c.args.rows.now.tallies at c.empty_tally.result no_tally (omega (arith, c.requires.within, c.requires.tally_room)) in
    subst (IsFresh row.base.0) (sym t)
    (subst (λ (x : Row). IsFresh x.base.0 c.empty_tally.result) (sym r) (record { samples = c.empty_tally.ensures.samples; gauge = c.empty_tally.ensures.gauge; weight = c.empty_tally.ensures.weight }))
