-- A timer and its statistics, as the definitions have them.
use Rattle.std.specs.Prelude.{ℕ, ◌*◌, ◌^◌, ◌<◌, ◌≤◌, ℤ, pos, ◌≤ℤ◌, unsigned_abs, List, length, map, All}
use Rattle.std.specs.Ordering.{int_cmp}
use Rattle.std.specs.List.Sorted.{IsSortedByKey}
use Rattle.sd_model_text.specs.Numbers as text
use Rattle.sd_model_shard.specs.Values as model
use Rattle.sd_decimal.specs.declared.number.Limit.{Limit}
use Rattle.sd_decimal.specs.declared.number.Limit.TheVariants.{Below, Infinite}
use Rattle.sd_decimal.specs.declared.number.Micro.{Micro}
use Rattle.sd_decimal.specs.declared.number.Sum.{Sum}
use Rattle.sd_stats.specs.declared.figures.Whole.{Whole}
use Rattle.sd_stats.specs.declared.figures.PctStats.{PctStats}

-- the numbers of a list
abbrev pub numbers : List Micro → List ℤ
numbers values = map (λ v. v.0) values

-- a value that a timer may have: from 0 to 10 ^ 10
pub record IsTimerValue (v : Micro) : Type 0 where
  pub low : pos 0 ≤ℤ v.0
  pub high : v.0 ≤ℤ pos (10 ^ 16)

-- values that a timer may have: at most 2 ^ 20
pub record AreTimerValues (values : List Micro) : Type 0 where
  pub range : All IsTimerValue values
  pub many : length values ≤ 2 ^ 20

-- There are values of a timer in rising order, a weight that has a rate, and an interval.
pub record IsTimer (values : List Micro) (weight : Sum) (interval_ms : ℕ) : Type 0 where
  pub rises : IsSortedByKey (λ v. v.0) int_cmp values
  pub within : AreTimerValues values
  pub some : 0 < length values
  pub small : unsigned_abs weight.0 ≤ 17 * 10 ^ 34
  pub lasts : 0 < interval_ms

-- the statistics of all values
abbrev pub whole_of : Whole → model.WholeStatistics
whole_of w =
    record {
      std = w.std.0;
      upper = w.upper.0;
      lower = w.lower.0;
      count = w.count.0;
      count_ps = w.count_ps.0;
      sum = w.sum.0;
      sum_squares = w.sum_squares.0;
      mean = w.mean.0;
      median = w.median.0;
    }

-- the statistics of a part
abbrev pub part_of : PctStats → model.PartStatistics
part_of p =
    record {
      threshold = p.threshold.0;
      count = p.count;
      mean = p.mean.0;
      edge = p.edge.0;
      sum = p.sum.0;
      sum_squares = p.sum_squares.0;
    }

-- the upper limit of a bin
abbrev pub limit_of : Limit → text.Limit
limit_of (Below limit) = text.Below limit.0
limit_of Infinite = text.Infinite
