use Rattle.std.proofs.Common.{arith}
use Rattle.sd_record.proofs.OrderLemmas.{rising-all, rising-sorted}
use Rattle.sd_record.proofs.placed.are_in_order.Goals as goal

pub returns-then-places-count_rows-clause-rows : goal.returns-then-places-count_rows-clause-rows
returns-then-places-count_rows-clause-rows c = λ right.
    rising-all c.args.tables.now c.args.places.now (omega arith) (c.are_rising.ensures.placed right) (c.are_rising.ensures.rising right)

pub returns-then-places-count_rows-clause-order : goal.returns-then-places-count_rows-clause-order
returns-then-places-count_rows-clause-order c = λ right. rising-sorted c.args.tables.now c.args.places.now (c.are_rising.ensures.rising right)
