use Rattle.std.proofs.Common.{◌∙◌, ap, map, Some, arith}
use Rattle.sd_record.specs.Rows.{rows_in}
use Rattle.sd_record.specs.Placed.{row_at}
use Rattle.sd_record.proofs.FillLemmas.{more_mapped, row_placed}
use Rattle.sd_record.proofs.placed.place_rows.Goals as goal

pub loop-row-preserved : goal.loop-row-preserved
loop-row-preserved c = record {
  rows = λ tables here.
      ap (map (row_at tables)) c.push_reserved.ensures.items
      ∙ more_mapped (row_at tables) _ (map Some (rows_in c.args.table.now)) _ _ _ (c.loop-row.invariant.rows tables here) (row_placed tables c.args.table.now _ here (omega arith));
  all = c.loop-row.invariant.all;
  len = omega arith;
  capacity = omega arith;
}
