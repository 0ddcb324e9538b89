-- What a list of values comes to: a timer's statistics, its thresholds and bins, and how many members of a set differ. The
-- quantities are those of StatsD (https://github.com/statsd/statsd/blob/master/docs/metric_types.md), in whole millionths.
use Rattle.std.specs.{Prelude.{ℕ, ◌-◌, ◌*◌, ◌/◌, ◌==◌, ◌&&◌, Bool, true, not, nat_le, if◌then◌else◌, ℤ, pos, ◌+ℤ◌, ◌-ℤ◌, unsigned_abs, int_lt, List, [], ◌∷◌, length, take, drop, map, filter, flat_map, fold, sum_by, count_by, slice_index_or, Option, Some, None}, List.{range_with_len}, Ordering.{nat_cmp, int_cmp, int_eq}, FinMap.{from_entries, keys}, FinSet.{from_list, len}, Cmp.Lexicographic.{slice_cmp}}
use Rattle.sd_model_text.specs.Numbers.{rounded, round, per_second, Limit, Below, Infinite}

-- A list from the least value to the greatest: each value that is in it, as often as it is there.
unfoldable pub sorted : List ℤ → List ℤ
sorted values = flat_map (λ v. filter (int_eq v) values) (keys (from_entries {R = int_cmp} (map (λ v. (v, tt {0})) values)))

-- What a timer's statistics are taken of: its values in order, what its samples weigh together, and the interval in milliseconds.
pub record Timer : Type 0 where
  pub values : List ℤ
  pub weight : ℤ
  pub interval_ms : ℕ

-- the timer of values in any order
abbrev pub timer_of : List ℤ → ℤ → ℕ → Timer
timer_of values weight interval_ms = record { values = sorted values; weight = weight; interval_ms = interval_ms }

-- the value at a place
abbrev pub value_at : List ℤ → ℕ → ℤ
value_at values place = slice_index_or values place (pos 0)

-- the first value: of values in order the least
abbrev pub first : List ℤ → ℤ
first values = value_at values 0

-- the last value: of values in order the greatest
abbrev pub last : List ℤ → ℤ
last values = value_at values (length values - 1)

-- a sum of whole numbers
abbrev pub total : List ℤ → ℤ
total values = fold ◌+ℤ◌ (pos 0) values

-- the mean
abbrev pub mean : List ℤ → ℤ
mean values = round (total values) (length values)

-- half the sum of the two middle values, which are one where the number of values is odd
abbrev pub median : List ℤ → ℤ
median values = round (value_at values ((length values - 1) / 2) +ℤ value_at values (length values / 2)) 2

-- a number times itself
abbrev pub square : ℤ → ℕ
square x = unsigned_abs x * unsigned_abs x

-- the sum of the squares, exact and rounded once
abbrev pub sum_squares : List ℤ → ℤ
sum_squares values = pos (rounded (sum_by square values) 1000000)

-- the sum of the squares of the distances from the rounded mean
abbrev pub spread : List ℤ → ℕ
spread values = sum_by (λ v. square (v -ℤ mean values)) values

-- The standard deviation over the population: the largest s with `n * s * s` at most the spread, the number of those from 1 on.
unfoldable pub deviation : List ℤ → ℕ
deviation values = count_by (λ s. nat_le (length values * (s * s)) (spread values)) (range_with_len 1 (spread values))

-- The statistics of all values of a timer.
pub record WholeStatistics : Type 0 where
  pub std : ℤ
  pub upper : ℤ
  pub lower : ℤ
  pub count : ℤ
  pub count_ps : ℤ
  pub sum : ℤ
  pub sum_squares : ℤ
  pub mean : ℤ
  pub median : ℤ

-- the statistics of a timer that has a value
abbrev pub whole_statistics : Timer → WholeStatistics
whole_statistics timer =
    record {
      std = pos (deviation timer.values);
      upper = last timer.values;
      lower = first timer.values;
      count = timer.weight;
      count_ps = per_second timer.weight timer.interval_ms;
      sum = total timer.values;
      sum_squares = sum_squares timer.values;
      mean = mean timer.values;
      median = median timer.values;
    }

-- whether a threshold takes the least values; otherwise it takes the greatest
abbrev pub is_upper : ℤ → Bool
is_upper threshold = int_lt (pos 0) threshold

-- The statistics of the part of a timer's values that a threshold takes. The edge is the end of the part that is inside the list:
-- the last of the least values, or the first of the greatest.
pub record PartStatistics : Type 0 where
  pub threshold : ℤ
  pub count : ℕ
  pub mean : ℤ
  pub edge : ℤ
  pub sum : ℤ
  pub sum_squares : ℤ

-- the statistics of a part
abbrev pub part : ℤ → List ℤ → PartStatistics
part threshold values =
    record {
      threshold = threshold;
      count = length values;
      mean = mean values;
      edge = if is_upper threshold then last values else first values;
      sum = total values;
      sum_squares = sum_squares values;
    }

-- the statistics at a threshold, which is left out where its part has no value
abbrev pub pct : ℤ → List ℤ → Option PartStatistics
pct threshold values =
    let count = if length values == 1 then 1 else rounded (unsigned_abs threshold * length values) 100000000 in
    if count == 0 then None else Some (part threshold (if is_upper threshold then take count values else drop (length values - count) values))

-- whether a value is below a limit
abbrev pub is_below : ℤ → Limit → Bool
is_below v (Below limit) = int_lt v limit
is_below v Infinite = true

-- a bin: its upper limit, and how many values it counts
pub record Bin : Type 0 where
  pub below : Limit
  pub count : ℕ

-- the bins of these limits, after another limit
abbrev pub bins_from : Limit → List Limit → List ℤ → List Bin
bins_from from [] values = []
bins_from from (below ∷ limits) values = record { below = below; count = count_by (λ v. not (is_below v from) && is_below v below) values } ∷ bins_from below limits values

-- the bins of these limits: each begins where the one before it ends, and the first at 0
abbrev pub bins : List Limit → List ℤ → List Bin
bins limits values = bins_from (Below (pos 0)) limits values

-- how many members differ
abbrev pub distinct : List (List ℕ) → ℕ
distinct members = len (from_list {R = slice_cmp nat_cmp} members)
