use Rattle.std.proofs.Common.{◌<◌, get_or, arith}
use borrow.Author.Count.{below_more}
use Rattle.sd_record.specs.Placed.{IsPlaced, GoesBefore}
use Rattle.sd_record.proofs.OrderLemmas.{one_more}
use Rattle.sd_record.proofs.placed.are_rising.Goals as goal

pub loop-i-preserved : goal.loop-i-preserved
loop-i-preserved c =
    let tables = c.args.tables.now in
    let places = c.args.places.now in
    let i = c.loop-i.i in
    let before = c.loop-i.invariant.rising in
    record {
      placed = λ k d low. below_more (λ k. IsPlaced tables (get_or places k d)) i (λ k low. c.loop-i.invariant.placed k d low) (c.goes_behind.ensures.placed d c.if-not-goes_behind.false) k low;
      rising = λ j k d high low.
          below_more (λ k. j < k → GoesBefore tables (get_or places j d) (get_or places k d)) i (λ k low high. before j k d high low)
          (λ high. one_more tables places i j d high before (c.goes_behind.ensures.behind d c.if-not-goes_behind.false (omega arith))) k low high;
    }
