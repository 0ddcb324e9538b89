-- A list in order, and that no other list with its values is.
use Rattle.std.proofs.Common.{◌≡◌, ℕ, zero, suc, ◌+◌, ◌<◌, Bool, true, false, cond, ◌&&◌, ◌||◌, is_some, ℤ, ◌≤ℤ◌, List, [], ◌∷◌, ◌++◌, map, get_or, T, refl, sym, ap, subst, ◌∙◌, arith}
use Rattle.std.specs.Prelude.{count_by, filter, flat_map}
use Rattle.std.specs.Ordering.{int_cmp, int_eq, is_lt, eq_by_cmp}
use Rattle.std.specs.Cmp.{int_cmp_total, signed_Decides}
use Rattle.std.specs.List.{AllByRecursion, list_any}
use Rattle.std.specs.List.Sorted.{IsPermutation, IsSorted, IsSortedByKey}
use Rattle.std.specs.FinMap.{from_entries, entries, entries_sorted, contains_key-keys, get-from_entries}
use Rattle.std.specs.FinMap.Entries.{is_sorted, below_all, is_some-find}
use Rattle.std.proofs.lemmas.Int.{ints}
use Rattle.std.proofs.lemmas.List.Sums.{sum_by-append, sum_by-cons}
use Rattle.std.proofs.lemmas.List.Sorted.{sum_by-IsPermutation, IsPermutation-refl, IsPermutation-cons, IsPermutation-sym, IsPermutation-trans, IsPermutation-middle}
use Rattle.sd_model_shard.specs.Values.{sorted}
use Rattle.sd_model_shard.proofs.Short.{values_in}

-- how often a value is in a list
abbrev count : ℤ → List ℤ → ℕ
count v xs = count_by (int_eq v) xs

-- no value is less than one before it
abbrev pub Rises : List ℤ → Type 0
Rises [] = Unit {0}
Rises (x ∷ xs) = AllByRecursion (λ y. x ≤ℤ y) xs × Rises xs

le_itself : (x y : ℤ) → x ≡ y → x ≤ℤ y
le_itself x y e = omega (arith, ints)

le_trans : (x y z : ℤ) → x ≤ℤ y → y ≤ℤ z → x ≤ℤ z
le_trans x y z p q = omega (arith, ints)

le_antisymm : (x y : ℤ) → x ≤ℤ y → y ≤ℤ x → x ≡ y
le_antisymm x y p q = omega (arith, ints)

-- 1 for a test that holds
abbrev pub one_if : Bool → ℕ
one_if b = cond b 1 0

count-cons : (v x : ℤ) (xs : List ℤ) → count v (x ∷ xs) ≡ one_if (int_eq v x) + count v xs
count-cons v x xs = sum_by-cons (λ (y : ℤ). cond (int_eq v y) 1 0) x xs

same_value : (x y : ℤ) → int_eq x y ≡ true → x ≡ y
same_value x y e = (signed_Decides x y).0 e

equal_itself : (x : ℤ) → int_eq x x ≡ true
equal_itself x = (signed_Decides x x).1 refl

counts_itself : (x : ℤ) (xs : List ℤ) → 0 < count x (x ∷ xs)
counts_itself x xs = omega (arith, count-cons x x xs, ap one_if (equal_itself x))

-- a value that is in a list whose values are at least low is so too
counted_above : (low v : ℤ) (xs : List ℤ) → AllByRecursion (λ y. low ≤ℤ y) xs → 0 < count v xs → low ≤ℤ v
counted_above low v [] h some = absurd (omega arith)
counted_above low v (x ∷ xs) h some = by_head (int_eq v x) refl (λ later. counted_above low v xs h.1 later) where
  by_head : (b : Bool) → int_eq v x ≡ b → (0 < count v xs → low ≤ℤ v) → low ≤ℤ v
  by_head true e later = subst (λ w. low ≤ℤ w) (sym (same_value v x e)) h.0
  by_head false e later = later (omega (arith, some, count-cons v x xs, ap one_if e))

head_below : (x v : ℤ) (xs : List ℤ) → Rises (x ∷ xs) → 0 < count v (x ∷ xs) → x ≤ℤ v
head_below x v xs h some = counted_above x v (x ∷ xs) (le_itself x x refl, h.0) some

-- lists that rise and have the same values are one
same_rises : (xs ys : List ℤ) → Rises xs → Rises ys → ((v : ℤ) → count v xs ≡ count v ys) → xs ≡ ys
same_rises [] [] p q e = refl
same_rises [] (y ∷ ys) p q e = absurd (omega (arith, e y, counts_itself y ys))
same_rises (x ∷ xs) [] p q e = absurd (omega (arith, e x, counts_itself x xs))
same_rises (x ∷ xs) (y ∷ ys) p q e =
    let up : x ≤ℤ y = head_below x y xs p (omega (arith, e y, counts_itself y ys)) in
    let down : y ≤ℤ x = head_below y x ys q (omega (arith, e x, counts_itself x xs)) in
    let heads : x ≡ y = le_antisymm x y up down in
    let tails : xs ≡ ys = same_rises xs ys p.1 q.1 (λ v. omega (arith, e v, count-cons v x xs, count-cons v y ys, ap (λ w. one_if (int_eq v w)) heads)) in
    λ i. heads i ∷ tails i

-- the values of a list that are one
abbrev group : List ℤ → ℤ → List ℤ
group values w = filter (int_eq w) values

count-group_itself : (w : ℤ) (values : List ℤ) → count w (group values w) ≡ count w values
count-group_itself w [] = refl
count-group_itself w (x ∷ values) = by_eq (int_eq w x) refl (count-group_itself w values) where
  by_eq : (b : Bool) → int_eq w x ≡ b → count w (group values w) ≡ count w values → count w (cond b (x ∷ group values w) (group values w)) ≡ count w (x ∷ values)
  by_eq true e rest = omega (arith, rest, count-cons w x (group values w), count-cons w x values)
  by_eq false e rest = omega (arith, rest, count-cons w x values, ap one_if e)

count-group_other : (v w : ℤ) (values : List ℤ) → int_eq v w ≡ false → count v (group values w) ≡ 0
count-group_other v w [] differ = refl
count-group_other v w (x ∷ values) differ = by_eq (int_eq w x) refl (count-group_other v w values differ) where
  by_eq : (b : Bool) → int_eq w x ≡ b → count v (group values w) ≡ 0 → count v (cond b (x ∷ group values w) (group values w)) ≡ 0
  by_eq true e rest =
      let other : int_eq v x ≡ false = subst (λ y. int_eq v y ≡ false) (same_value w x e) differ in
      omega (arith, rest, count-cons v x (group values w), ap one_if other)
  by_eq false e rest = rest

less_le : (x y : ℤ) → is_lt (int_cmp x y) ≡ true → x ≤ℤ y
less_le x y h = grind (arith, ints)

group_above : (low w : ℤ) (values rest : List ℤ) → low ≤ℤ w → AllByRecursion (λ y. low ≤ℤ y) rest → AllByRecursion (λ y. low ≤ℤ y) (group values w ++ rest)
group_above low w [] rest le above = above
group_above low w (x ∷ values) rest le above = by_eq (int_eq w x) refl (group_above low w values rest le above) where
  by_eq : (b : Bool) → int_eq w x ≡ b → AllByRecursion (λ y. low ≤ℤ y) (group values w ++ rest) → AllByRecursion (λ y. low ≤ℤ y) (cond b (x ∷ group values w) (group values w) ++ rest)
  by_eq true e later = (subst (λ y. low ≤ℤ y) (same_value w x e) le, later)
  by_eq false e later = later

-- what follows a group whose value is at most each later one
group_rises : (w : ℤ) (values rest : List ℤ) → AllByRecursion (λ y. w ≤ℤ y) rest → Rises rest → Rises (group values w ++ rest)
group_rises w [] rest above h = h
group_rises w (x ∷ values) rest above h = by_eq (int_eq w x) refl (group_rises w values rest above h) where
  by_eq : (b : Bool) → int_eq w x ≡ b → Rises (group values w ++ rest) → Rises (cond b (x ∷ group values w) (group values w) ++ rest)
  by_eq true e later =
      let same : w ≡ x = same_value w x e in
      (subst (λ z. AllByRecursion (λ y. z ≤ℤ y) (group values w ++ rest)) same (group_above w w values rest (le_itself w w refl) above), later)
  by_eq false e later = later

-- the first part and the second of a test that holds in both
prefix : (a b : Bool) → T (a && b) → a ≡ true
prefix true b h = refl
prefix false b h = absurd h

back : (a b : Bool) → T (a && b) → T b
back true b h = h
back false b h = absurd h

-- entries of nothing, whose keys are numbers
abbrev Marks : Type 0
Marks = List (ℤ × Unit {0})

abbrev marked : Marks → List ℤ
marked es = map (λ e. e.0) es

groups_above : (low : ℤ) (values : List ℤ) (es : Marks) → T (below_all int_cmp low es) → AllByRecursion (λ y. low ≤ℤ y) (flat_map (group values) (marked es))
groups_above low values [] h = tt
groups_above low values (e ∷ es) h =
    let first : is_lt (int_cmp low e.0) ≡ true = prefix (is_lt (int_cmp low e.0)) (below_all int_cmp low es) h in
    group_above low e.0 values (flat_map (group values) (marked es)) (less_le low e.0 first) (groups_above low values es (back _ _ h))

groups_rise : (values : List ℤ) (es : Marks) → T (is_sorted int_cmp es) → Rises (flat_map (group values) (marked es))
groups_rise values [] h = tt
groups_rise values (e ∷ es) h =
    let later : T (below_all int_cmp e.0 es) = subst T (sym (prefix (below_all int_cmp e.0 es) (is_sorted int_cmp es) h)) tt in
    group_rises e.0 values (flat_map (group values) (marked es)) (groups_above e.0 values es later) (groups_rise values es (back _ _ h))

-- a value of one group is in no later one
not_later : (v low : ℤ) (es : Marks) → int_eq v low ≡ true → T (below_all int_cmp low es) → list_any (eq_by_cmp int_cmp v) (marked es) ≡ false
not_later v low [] e h = refl
not_later v low (x ∷ es) e h =
    let first : is_lt (int_cmp low x.0) ≡ true = prefix (is_lt (int_cmp low x.0)) (below_all int_cmp low es) h in
    ap (λ b. b || list_any (eq_by_cmp int_cmp v) (marked es)) (apart v low x.0 (same_value v low e) first) ∙ not_later v low es e (back _ _ h) where
      apart : (v low w : ℤ) → v ≡ low → is_lt (int_cmp low w) ≡ true → int_eq v w ≡ false
      apart v low w same less = grind (arith, ints)

-- how often a value is in the groups of a list
count-groups : (values : List ℤ) (v : ℤ) (es : Marks) → T (is_sorted int_cmp es) → count v (flat_map (group values) (marked es)) ≡ cond (list_any (eq_by_cmp int_cmp v) (marked es)) (count v values) 0
count-groups values v [] h = refl
count-groups values v (e ∷ es) h =
    let later : T (below_all int_cmp e.0 es) = subst T (sym (prefix (below_all int_cmp e.0 es) (is_sorted int_cmp es) h)) tt in
    sum_by-append (λ (y : ℤ). one_if (int_eq v y)) (group values e.0) (flat_map (group values) (marked es))
    ∙ by_eq (int_eq v e.0) refl later (count-groups values v es (back _ _ h)) where
      by_eq : (b : Bool) → int_eq v e.0 ≡ b → T (below_all int_cmp e.0 es) → count v (flat_map (group values) (marked es)) ≡ cond (list_any (eq_by_cmp int_cmp v) (marked es)) (count v values) 0
          → count v (group values e.0) + count v (flat_map (group values) (marked es)) ≡ cond (b || list_any (eq_by_cmp int_cmp v) (marked es)) (count v values) 0
      by_eq true is later rest =
          let none : cond (list_any (eq_by_cmp int_cmp v) (marked es)) (count v values) 0 ≡ 0 = ap (λ b. cond b (count v values) 0) (not_later v e.0 es is later) in
          let own : count v (group values e.0) ≡ count v values = subst (λ w. count v (group values w) ≡ count v values) (same_value v e.0 is) (count-group_itself v values) in
          omega (arith, rest, none, own)
      by_eq false is later rest = omega (arith, rest, count-group_other v e.0 values is)

-- a value that isn't in a list counts for nothing there
count_any : (v : ℤ) (xs : List ℤ) → count v xs ≡ cond (list_any (eq_by_cmp int_cmp v) xs) (count v xs) 0
count_any v [] = refl
count_any v (x ∷ xs) = by_eq (int_eq v x) refl (count_any v xs) where
  by_eq : (b : Bool) → int_eq v x ≡ b → count v xs ≡ cond (list_any (eq_by_cmp int_cmp v) xs) (count v xs) 0 → count v (x ∷ xs) ≡ cond (b || list_any (eq_by_cmp int_cmp v) xs) (count v (x ∷ xs)) 0
  by_eq true is rest = refl
  by_eq false is rest = by_any (list_any (eq_by_cmp int_cmp v) xs) rest where
    by_any : (c : Bool) → count v xs ≡ cond c (count v xs) 0 → count v (x ∷ xs) ≡ cond c (count v (x ∷ xs)) 0
    by_any true rest = refl
    by_any false rest = omega (arith, rest, count-cons v x xs, ap one_if is)

abbrev marks_of : List ℤ → Marks
marks_of values = map (λ v. (v, tt {0})) values

marked-marks_of : (values : List ℤ) → marked (marks_of values) ≡ values
marked-marks_of [] = refl
marked-marks_of (v ∷ values) = λ i. v ∷ marked-marks_of values i

any-values_in : (v : ℤ) (values : List ℤ) → list_any (eq_by_cmp int_cmp v) (values_in values) ≡ list_any (eq_by_cmp int_cmp v) values
any-values_in v values =
    sym (contains_key-keys (from_entries {R = int_cmp} (marks_of values)) v)
    ∙ ap is_some (get-from_entries int_cmp_total (marks_of values) v)
    ∙ is_some-find int_cmp v (marks_of values)
    ∙ ap (list_any (eq_by_cmp int_cmp v)) (marked-marks_of values)

count-sorted : (v : ℤ) (values : List ℤ) → count v (sorted values) ≡ count v values
unfolding sorted
count-sorted v values =
    let m = from_entries {R = int_cmp} (marks_of values) in
    count-groups values v (entries m) (entries_sorted m)
    ∙ ap (λ b. cond b (count v values) 0) (any-values_in v values)
    ∙ sym (count_any v values)

pub sorted_rises : (values : List ℤ) → Rises (sorted values)
unfolding sorted
sorted_rises values = let m = from_entries {R = int_cmp} (marks_of values) in groups_rise values (entries m) (entries_sorted m)

-- a list that rises and has the values of another is that list in order
pub sorted_is : (values ys : List ℤ) → IsPermutation values ys → Rises ys → ys ≡ sorted values
sorted_is values ys moved rises =
    same_rises ys (sorted values) rises (sorted_rises values)
    (λ v. sum_by-IsPermutation (λ (y : ℤ). one_if (int_eq v y)) values ys moved ∙ sym (count-sorted v values))

-- each value is at most the next
abbrev Steps : List ℤ → Type 0
Steps [] = Unit {0}
Steps (x ∷ []) = Unit {0}
Steps (x ∷ y ∷ ys) = (x ≤ℤ y) × Steps (y ∷ ys)

not_less : (x y : ℤ) → is_lt (int_cmp y x) ≡ false → x ≤ℤ y
not_less x y h = grind (arith, ints)

le_not_less : (x y : ℤ) → x ≤ℤ y → is_lt (int_cmp y x) ≡ false
le_not_less x y h = grind (arith, ints)

all_above : (x y : ℤ) (ys : List ℤ) → x ≤ℤ y → AllByRecursion (λ z. y ≤ℤ z) ys → AllByRecursion (λ z. x ≤ℤ z) ys
all_above x y [] le h = tt
all_above x y (z ∷ ys) le h = (le_trans x y z le h.0, all_above x y ys le h.1)

rises_by_steps : (xs : List ℤ) → Steps xs → Rises xs
rises_by_steps [] h = tt
rises_by_steps (x ∷ []) h = (tt, tt)
rises_by_steps (x ∷ y ∷ ys) h =
    let later : Rises (y ∷ ys) = rises_by_steps (y ∷ ys) h.1 in
    ((h.0, all_above x y ys h.0 later.0), later)

tail_sorted : {X : Type 0} (n : X → ℤ) (x : X) (xs : List X) → IsSortedByKey n int_cmp (x ∷ xs) → IsSortedByKey n int_cmp xs
tail_sorted n x xs h k d low below =
    let next : suc k + 1 ≡ suc (k + 1) = omega arith in
    subst (λ j. is_lt (int_cmp (n (get_or (x ∷ xs) j d)) (n (get_or (x ∷ xs) (suc k) d))) ≡ false) next (h (suc k) d (omega arith) (omega arith))

steps_sorted : {X : Type 0} (n : X → ℤ) (xs : List X) → IsSortedByKey n int_cmp xs → Steps (map n xs)
steps_sorted n [] h = tt
steps_sorted n (x ∷ []) h = tt
steps_sorted n (x ∷ y ∷ ys) h =
    (not_less (n x) (n y) (h 0 x (omega arith) (omega arith)), steps_sorted n (y ∷ ys) (tail_sorted n x (y ∷ ys) h))

-- a list that a sort by numbers left rises
pub rises_when_sorted : {X : Type 0} (n : X → ℤ) (xs : List X) → IsSortedByKey n int_cmp xs → Rises (map n xs)
rises_when_sorted n xs h = rises_by_steps (map n xs) (steps_sorted n xs h)

sorted_when_rises : (xs : List ℤ) → Rises xs → IsSorted int_cmp xs
sorted_when_rises [] h k d low below = absurd (omega arith)
sorted_when_rises (x ∷ []) h k d low below = absurd (omega arith)
sorted_when_rises (x ∷ y ∷ ys) h zero d low below = le_not_less x y h.0.0
sorted_when_rises (x ∷ y ∷ ys) h (suc k) d low below =
    let next : suc (k + 1) ≡ suc k + 1 = omega arith in
    subst (λ j. is_lt (int_cmp (get_or (x ∷ y ∷ ys) j d) (get_or (y ∷ ys) k d)) ≡ false) next (sorted_when_rises (y ∷ ys) h.1 k d (omega arith) (omega arith))

-- where a value is in a list
record Found (v : ℤ) (xs : List ℤ) : Type 0 where
  before : List ℤ
  behind : List ℤ
  is : xs ≡ before ++ v ∷ behind

find_value : (v : ℤ) (xs : List ℤ) → 0 < count v xs → Found v xs
find_value v [] some = absurd (omega arith)
find_value v (x ∷ xs) some = by_eq (int_eq v x) refl (λ later. find_value v xs later) where
  by_eq : (b : Bool) → int_eq v x ≡ b → (0 < count v xs → Found v xs) → Found v (x ∷ xs)
  by_eq true e later = record { before = []; behind = xs; is = ap (λ w. w ∷ xs) (sym (same_value v x e)) }
  by_eq false e later =
      let found = later (omega (arith, some, count-cons v x xs, ap one_if e)) in
      record { before = x ∷ found.before; behind = found.behind; is = λ i. x ∷ found.is i }

-- lists in which each value stands equally often have the same values
same_counts : (xs ys : List ℤ) → ((v : ℤ) → count v xs ≡ count v ys) → IsPermutation xs ys
same_counts [] [] e = IsPermutation-refl []
same_counts [] (y ∷ ys) e = absurd (omega (arith, e y, counts_itself y ys))
same_counts (x ∷ xs) ys e =
    let found = find_value x ys (omega (arith, e x, counts_itself x xs)) in
    let rest = found.before ++ found.behind in
    let each : (v : ℤ) → count v xs ≡ count v rest = λ v. omega (
      arith,
      e v,
      ap (count v) found.is,
      count-cons v x xs,
      count-cons v x found.behind,
      sum_by-append (λ (y : ℤ). one_if (int_eq v y)) found.before (x ∷ found.behind),
      sum_by-append (λ (y : ℤ). one_if (int_eq v y)) found.before found.behind,
    ) in
    subst (IsPermutation (x ∷ xs)) (sym found.is)
    (IsPermutation-trans (x ∷ xs) (x ∷ rest) (found.before ++ x ∷ found.behind) (IsPermutation-cons x xs rest (same_counts xs rest each))
    (IsPermutation-sym (found.before ++ x ∷ found.behind) (x ∷ rest) (IsPermutation-middle found.before x found.behind)))

pub IsPermutation-sorted : (values : List ℤ) → IsPermutation values (sorted values)
IsPermutation-sorted values = same_counts values (sorted values) (λ v. sym (count-sorted v values))

pub IsSorted-sorted : (values : List ℤ) → IsSorted int_cmp (sorted values)
IsSorted-sorted values = sorted_when_rises (sorted values) (sorted_rises values)

map_same : (xs : List ℤ) → map (λ x. x) xs ≡ xs
map_same [] = refl
map_same (x ∷ xs) = λ i. x ∷ map_same xs i

pub rises_of_sorted : (xs : List ℤ) → IsSorted int_cmp xs → Rises xs
rises_of_sorted xs h = subst Rises (map_same xs) (rises_when_sorted (λ x. x) xs h)

pub sorted_only : (values ys : List ℤ) → IsPermutation values ys → IsSorted int_cmp ys → ys ≡ sorted values
sorted_only values ys moved h = sorted_is values ys moved (rises_of_sorted ys h)
