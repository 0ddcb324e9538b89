use Rattle.std.proofs.Common.{◌-◌, ◌<◌, length, get_or, None, sym, ap, ◌∙◌, arith}
use Rattle.std.proofs.lemmas.List.{get_or_read_under}
use Rattle.sd_rows.specs.Index.{taken_count}
use Rattle.sd_rows.specs.RowsInside.{rows_in}
use Rattle.sd_rows.proofs.HeadLemmas.{seen_row, seen_count}
use Rattle.sd_rows.proofs.IndexLemmas.{taken_count-le}
use Rattle.sd_rows.proofs.rows.Rows.last_place.Goals as goal

pub overflow_sub-self-inside : goal.overflow_sub-self-inside
overflow_sub-self-inside c =
    omega (arith, c.requires, c.self.invariant.live, seen_count c.self.inside c.args.self.now c.self.view_is)

pub index-requires : goal.index-requires
index-requires c =
    let v = c.self.invariant in
    let x = c.self.inside in
    omega (arith, c.requires, seen_count x c.args.self.now c.self.view_is, v.live, taken_count-le (rows_in x), v.divided.len, v.ranking.len, x.ranking.order.ok.0)

pub returns : goal.returns
returns c =
    let v = c.self.invariant in
    let x = c.self.inside in
    let some : 0 < taken_count (rows_in x) = omega (arith, c.requires, seen_count x c.args.self.now c.self.view_is) in
    let i = x.live - 1 in
    let below : i < length x.ranking.order.items = omega (arith, some, v.live, taken_count-le (rows_in x), v.divided.len, v.ranking.len) in
    let is = get_or_read_under x.ranking.order.items i x.ranking.order.len c.index.result.now 0 c.index.ensures (omega (arith, below, x.ranking.order.ok.0)) x.ranking.order.ok.0 in
    let first : get_or x.ranking.rank.items (get_or x.ranking.order.items i 0) 0 < x.live = omega (arith, v.ranking.forth i below, v.live, some) in
    let used = v.divided.used (get_or x.ranking.order.items i 0) (omega (arith, v.ranking.order_in i below, v.ranking.len)) first in
    λ none. used (ap (λ p. get_or (rows_in x) p None) (sym is) ∙ sym (seen_row x c.args.self.now c.self.view_is c.index.result.now) ∙ none)
