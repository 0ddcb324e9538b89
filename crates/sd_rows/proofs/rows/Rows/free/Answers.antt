use Rattle.std.proofs.Common.{arith}
use Rattle.sd_rows.specs.RowsInside.{rows_in}
use Rattle.sd_rows.proofs.HeadLemmas.{seen_count, seen_len, length-rows_with}
use Rattle.sd_rows.proofs.IndexLemmas.{taken_count-le}
use Rattle.sd_rows.proofs.rows.Rows.free.Goals as goal

pub overflow_sub-result : goal.overflow_sub-result
overflow_sub-result c =
    let x = c.self.inside in
    omega (arith, taken_count-le (rows_in x), length-rows_with x.heads.items x.keys.items, c.self.invariant.live, c.self.invariant.within)

pub returns : goal.returns
returns c =
    let x = c.self.inside in
    omega (
      arith,
      taken_count-le (rows_in x),
      length-rows_with x.heads.items x.keys.items,
      c.self.invariant.live,
      c.self.invariant.within,
      seen_count x c.args.self.now c.self.view_is,
      seen_len x c.args.self.now c.self.view_is c.self.invariant.within,
    )
