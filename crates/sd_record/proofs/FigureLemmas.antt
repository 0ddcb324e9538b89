-- How many figures a timer has, and which one stands at a place.
use Rattle.std.proofs.Common.{◌≡◌, ℕ, zero, suc, ◌+◌, ◌-◌, ◌*◌, ◌/◌, ◌%◌, ◌<◌, ◌≤◌, List, [], ◌∷◌, ◌++◌, length, map, flat_map, refl, sym, ap, ◌∙◌, Some, None, slice_get, get_or, set, take, drop, option_map, length-append, arith}
use Rattle.std.proofs.lemmas.List.{length-map}
use Rattle.std.proofs.lemmas.Option.{slice_get-map, slice_get-get_or}
use Rattle.sd_model_shard.specs.Values.{PartStatistics, WholeStatistics}
use Rattle.sd_model_record.specs.Record.{TimerFigures, part_figures, whole_figures, figures_of}
use Rattle.sd_model_text.proofs.Places.{get_prefix, get_behind}
use Rattle.sd_model_record.proofs.Short.{figures_with, idle_figures, bin_figure}

-- the figures of a timer without samples
pub figures-idle : (t : TimerFigures) → t.whole ≡ None → figures_of t ≡ idle_figures t
figures-idle t none = ap (figures_with t) none

-- what stands at a place of a list that is seen by f
pub got_at : {A B : Type 0} (f : A → B) (xs ys : List A) (i : ℕ) (d : A) → xs ≡ ys → i < length xs → slice_get (map f ys) i ≡ Some (f (get_or xs i d))
got_at f xs ys i d same inside =
    ap (λ zs. slice_get (map f zs) i) (sym same) ∙ slice_get-map f xs i ∙ ap (option_map f) (slice_get-get_or xs i d inside)

-- a list whose first things are mapped, with one more that is
pub mapped_more : {A : Type 0} (f : A → A) (xs : List A) (i : ℕ) (d : A) → i < length xs → set (map f (take i xs) ++ drop i xs) i (f (get_or (map f (take i xs) ++ drop i xs) i d)) ≡ map f (take (i + 1) xs) ++ drop (i + 1) xs
mapped_more f [] i d inside = absurd (omega arith)
mapped_more f (x ∷ xs) zero d inside = refl
mapped_more f (x ∷ xs) (suc i) d inside =
    let more : suc i + 1 ≡ suc (i + 1) = omega arith in
    rw more (ap (λ ys. f x ∷ ys) (mapped_more f xs i d (omega arith)))

-- each part has five figures
length-parts : (ps : List PartStatistics) → length (flat_map part_figures ps) ≡ 5 * length ps
length-parts [] = refl
length-parts (p ∷ ps) = omega (arith, length-parts ps)

-- the figure of a part, by the place of the part and the place in it
get_part : (ps : List PartStatistics) (i q r : ℕ) (p : PartStatistics) → i ≡ q * 5 + r → r < 5 → slice_get ps q ≡ Some p → slice_get (flat_map part_figures ps) i ≡ slice_get (part_figures p) r
get_part [] i q r p place few there = absurd (cc)
get_part (x ∷ ps) i zero r p place few there =
    let same : x ≡ p = cc in
    let start : i ≡ r = omega arith in
    get_prefix (part_figures x) (flat_map part_figures ps) i (omega arith)
    ∙ ap (slice_get (part_figures x)) start ∙ ap (λ y. slice_get (part_figures y) r) same
get_part (x ∷ ps) i (suc q) r p place few there =
    get_behind (part_figures x) (flat_map part_figures ps) i (omega arith)
    ∙ get_part ps (i - 5) q r p (omega arith) few there

module _ (t : TimerFigures) (w : WholeStatistics) (some : t.whole ≡ Some w) where
  figures-sampled : figures_of t ≡ (flat_map part_figures t.parts ++ whole_figures w) ++ map bin_figure t.bins
  figures-sampled = ap (figures_with t) some

  length-prefix : length (flat_map part_figures t.parts ++ whole_figures w) ≡ 5 * length t.parts + 9
  length-prefix = omega (arith, length-parts t.parts, length-append (flat_map part_figures t.parts) (whole_figures w))

  pub length-sampled : length (figures_of t) ≡ 5 * length t.parts + 9 + length t.bins
  length-sampled =
      omega (arith, ap length figures-sampled, length-prefix, length-append (flat_map part_figures t.parts ++ whole_figures w) (map bin_figure t.bins), length-map t.bins bin_figure)

  -- a figure before those of the bins
  before_bins : (i : ℕ) → i < 5 * length t.parts + 9 → slice_get (figures_of t) i ≡ slice_get (flat_map part_figures t.parts ++ whole_figures w) i
  before_bins i inside =
      ap (λ xs. slice_get xs i) figures-sampled
      ∙ get_prefix (flat_map part_figures t.parts ++ whole_figures w) (map bin_figure t.bins) i (omega (arith, length-prefix))

  -- a figure of a part
  pub at_part : (i : ℕ) (p : PartStatistics) → i < 5 * length t.parts → slice_get t.parts (i / 5) ≡ Some p → slice_get (figures_of t) i ≡ slice_get (part_figures p) (i % 5)
  at_part i p inside there =
      before_bins i (omega arith) ∙ get_prefix (flat_map part_figures t.parts) (whole_figures w) i (omega (arith, length-parts t.parts))
      ∙ get_part t.parts i (i / 5) (i % 5) p (omega arith) (omega arith) there

  -- a figure of all values
  pub at_whole : (i n : ℕ) → n ≡ 5 * length t.parts → n ≤ i → i - n < 9 → slice_get (figures_of t) i ≡ slice_get (whole_figures w) (i - n)
  at_whole i n parts behind inside =
      before_bins i (omega arith) ∙ get_behind (flat_map part_figures t.parts) (whole_figures w) i (omega (arith, length-parts t.parts))
      ∙ ap (λ m. slice_get (whole_figures w) (i - m)) (length-parts t.parts ∙ sym parts)

  -- the figure of a bin
  pub at_bin : (i n : ℕ) → n ≡ 5 * length t.parts → n ≤ i → 9 ≤ i - n → slice_get (figures_of t) i ≡ slice_get (map bin_figure t.bins) (i - n - 9)
  at_bin i n parts behind past =
      let place : i - length (flat_map part_figures t.parts ++ whole_figures w) ≡ i - n - 9 = omega (arith, length-prefix) in
      ap (λ xs. slice_get xs i) figures-sampled
      ∙ get_behind (flat_map part_figures t.parts ++ whole_figures w) (map bin_figure t.bins) i (omega (arith, length-prefix))
      ∙ ap (slice_get (map bin_figure t.bins)) place
