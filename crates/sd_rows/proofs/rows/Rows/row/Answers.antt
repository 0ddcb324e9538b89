use Rattle.std.proofs.Common.{◌≡◌, ◌<◌, length, Some, None, MatchOption, subst, arith}
use Rattle.sd_rows.specs.Rows.{row_seen}
use Rattle.sd_rows.proofs.HeadLemmas.{seen_used, read_with}
use Rattle.sd_rows.proofs.rows.Rows.row.Goals as goal

pub returns-then-at-used : goal.returns-then-at-used
returns-then-at-used c = c.used.ensures.empty c.args.at (omega (arith, c.used.ensures.used, c.if-at-used.true))

pub returns : goal.returns
returns c =
    let x = c.self.inside in
    let lt : c.args.at < length x.heads.items = omega (arith, c.used.ensures.used, c.if-at-used.false, seen_used x c.args.self.now c.self.view_is) in
    subst (λ o. MatchOption c.view_of.result (o ≡ None) (λ row. o ≡ Some (row_seen row)))
    (read_with x c.args.self.now c.self.view_is c.args.at c.index.result.now c.index-2.result.now lt c.self.invariant.keys_len c.index.ensures c.index-2.ensures) c.view_of.ensures
