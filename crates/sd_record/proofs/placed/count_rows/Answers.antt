use Rattle.std.proofs.Common.{length, ap, arith}
use Rattle.std.proofs.lemmas.List.Sums.{sum_by_more}
use Rattle.sd_epoch.specs.Table.{Listing}
use Rattle.sd_record.proofs.FillLemmas.{next_apart}
use Rattle.sd_record.proofs.placed.count_rows.Goals as goal

pub loop-table-preserved : goal.loop-table-preserved
loop-table-preserved c =
    let tables = c.args.tables.now in
    let i = c.loop-table.table-index in
    let many : Listing → _ = λ t. length t.listed in
    record {
      count = omega (arith, sum_by_more many tables i c.table-item.result (omega arith), ap many c.table-item.is, c.rows.ensures.listed);
      apart = next_apart tables i c.table-item.result (omega arith) c.table-item.is c.loop-table.invariant.apart c.rows.ensures.apart;
    }
