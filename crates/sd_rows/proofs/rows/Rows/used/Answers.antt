use Rattle.std.proofs.Common.{◌≤◌, length, None, ap, arith, ◌∙◌}
use Rattle.sd_rows.specs.Heads.{no_head}
use Rattle.sd_rows.specs.declared.head.Head.{Head}
use Rattle.sd_rows.specs.RowsInside.{rows_in}
use Rattle.sd_rows.proofs.HeadLemmas.{seen_len, seen_used, seen_row, seen_tally, length-rows_with}
use Rattle.sd_rows.proofs.IndexLemmas.{get_or_past}
use Rattle.sd_rows.proofs.rows.Rows.used.Goals as goal

pub returns-clause-few : goal.returns-clause-few
returns-clause-few c =
    omega (arith, seen_len c.self.inside c.args.self.now c.self.view_is c.self.invariant.within, c.self.invariant.small)

pub returns-clause-within : goal.returns-clause-within
returns-clause-within c =
    let x = c.self.inside in
    omega (arith, seen_len x c.args.self.now c.self.view_is c.self.invariant.within, seen_used x c.args.self.now c.self.view_is, c.self.invariant.within)

pub returns-clause-empty : goal.returns-clause-empty
returns-clause-empty c p le =
    let x = c.self.inside in
    let behind : length (rows_in x) ≤ p = omega (arith, le, seen_used x c.args.self.now c.self.view_is, length-rows_with x.heads.items x.keys.items) in
    seen_row x c.args.self.now c.self.view_is p ∙ get_or_past (rows_in x) p None behind

pub returns-clause-unknown : goal.returns-clause-unknown
returns-clause-unknown c p le =
    let x = c.self.inside in
    seen_tally x c.args.self.now c.self.view_is p
    ∙ ap (λ (h : Head). h.tally) (get_or_past x.heads.items p no_head (omega (arith, le, seen_used x c.args.self.now c.self.view_is)))
