use Rattle.std.proofs.Common.{◌+◌, ◌∙◌, arith}
use Rattle.sd_rows.proofs.RowsLemmas.{max_by, le_max_right}
use Rattle.sd_rows.proofs.rows.Rows.grow.Goals as goal

pub loop-place-preserved : goal.loop-place-preserved
loop-place-preserved c =
    let inv = c.loop-place.invariant in record {
      rows = c.push.ensures.rows ∙ inv.rows;
      tallies = c.push.ensures.tallies ∙ inv.tallies;
      used = omega (arith, inv.used, c.push.ensures.used);
      from = omega (arith, inv.from);
      within = le_max_right (c.loop-place._place + 1) c.args.self.now.used (c.args.at + 1) (omega (arith, c.loop-place-test.true, inv.end));
      end = inv.end;
    }

pub returns-clause-used : goal.returns-clause-used
returns-clause-used c =
    let inv = c.loop-place.invariant in
    inv.used ∙ max_by c.loop-place._place c.args.self.now.used (c.args.at + 1) inv.from (omega (arith, inv.end, c.loop-place-test.false)) inv.within
