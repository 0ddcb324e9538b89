-- Maps that are made from lists of entries, and their entries in order.
use Rattle.std.proofs.Common.{◌≡◌, ℕ, zero, suc, ◌+◌, ◌<◌, ◌≤◌, Bool, true, false, cond, ◌&&◌, ◌||◌, T, List, [], ◌∷◌, length, get_or, map, refl, sym, ap, subst, ◌∙◌, Option, Some, None, is_some, option_map, Contains, IsPermutation, IsSortedByKey, sum_by, arith}
use Rattle.std.specs.Prelude.{⊤, filter_map, option_and_then}
use Rattle.std.specs.List.{list_any, cons_option}
use Rattle.std.specs.declared.cmp.Ordering.{Ordering}
use Rattle.std.specs.declared.cmp.Ordering.TheVariants.{Less, Equal, Greater}
use Rattle.std.specs.Ordering.{is_lt, is_eq, eq_by_cmp, ordering_reverse}
use Rattle.std.specs.Cmp.{IsTotalOrder, eq_by_cmp_equiv}
use Rattle.std.specs.FinMap.{FinMap, IsAntisymmetric, find, get, is_sorted, entries, entries_sorted, from_entries, from_sorted, get-entries, get-from_entries, get-from_sorted, entries-from_sorted, same_map}
use Rattle.std.specs.FinMap.Entries.{below_all, is_some-find}
use Rattle.std.proofs.lemmas.List.Sorted.{Contains-permutation, IsPermutation-sym, IsPermutation-map, list_any-IsPermutation, sum_by-IsPermutation}
use Rattle.std.proofs.lemmas.List.Sums.{sum_by-cons}

-- no two entries have keys that tie
abbrev pub StandApart : {K X : Type 0} → (K → K → Ordering) → List (K × X) → Type 0
StandApart R [] = ⊤
StandApart R (e ∷ es) = (list_any (λ other. eq_by_cmp R e.0 other.0) es ≡ false) × StandApart R es

-- how many entries have a key that ties with q
abbrev times : {K X : Type 0} → (K → K → Ordering) → K → List (K × X) → ℕ
times R q [] = 0
times R q (e ∷ es) = cond (eq_by_cmp R q e.0) 1 0 + times R q es

and_both : (a b : Bool) → T a → T b → T (a && b)
and_both true b p q = q
and_both false b p q = absurd p

pub and_first : (a b : Bool) → T (a && b) → T a
and_first true b p = tt
and_first false b p = absurd p

pub and_second : (a b : Bool) → T (a && b) → T b
and_second true b p = p
and_second false b p = absurd p

or_none : (a b : Bool) → (a || b) ≡ false → (a ≡ false) × (b ≡ false)
or_none true b h = absurd (cc)
or_none false b h = (refl, h)

is_less : (o : Ordering) → T (is_lt o) → o ≡ Less
is_less Less p = refl
is_less Equal p = absurd p
is_less Greater p = absurd p

is_tie : (o : Ordering) → is_eq o ≡ true → o ≡ Equal
is_tie Less h = absurd (cc)
is_tie Equal h = refl
is_tie Greater h = absurd (cc)

-- what isn't above ties or is below
not_above : (o : Ordering) → is_lt o ≡ false → (is_eq (ordering_reverse o) ≡ true → ⊥) → ordering_reverse o ≡ Less
not_above Less h apart = absurd (cc)
not_above Equal h apart = absurd (apart refl)
not_above Greater h apart = refl

two_at_once : (a b : Bool) (n : ℕ) → a ≡ true → b ≡ true → cond a 1 0 + (cond b 1 0 + n) ≤ 1 → ⊥
two_at_once true true n p q h = absurd (omega arith)
two_at_once true false n p q h = absurd (cc)
two_at_once false b n p q h = absurd (cc)

none_of : {X : Type 0} (o : Option X) → is_some o ≡ false → o ≡ None
none_of None h = refl
none_of (Some x) h = absurd (cc)

same_Some : {X : Type 0} (x y : X) → Some x ≡ Some y → x ≡ y
same_Some x y h = cc

pair : {A B : Type 0} {a b : A} {x y : B} → a ≡ b → x ≡ y → ◌≡◌ {A = A × B} (a, x) (b, y)
pair p q = λ i. (p i, q i)

none_passes : {A : Type 0} (p : A → Bool) (xs : List A) (i : ℕ) (d : A) → list_any p xs ≡ false → i < length xs → p (get_or xs i d) ≡ false
none_passes p [] i d h below = absurd (omega arith)
none_passes p (x ∷ xs) zero d h below = (or_none (p x) (list_any p xs) h).0
none_passes p (x ∷ xs) (suc i) d h below = none_passes p xs i d (or_none (p x) (list_any p xs) h).1 (omega arith)

module _ {K X : Type 0} (R : K → K → Ordering) where
  times-sum : (q : K) (es : List (K × X)) → times R q es ≡ sum_by (λ e. cond (eq_by_cmp R q e.0) 1 0) es
  times-sum q [] = refl
  times-sum q (e ∷ es) = ap (λ n. cond (eq_by_cmp R q e.0) 1 0 + n) (times-sum q es) ∙ sym (sum_by-cons (λ d. cond (eq_by_cmp R q d.0) 1 0) e es)

  times-IsPermutation : (q : K) (es fs : List (K × X)) → IsPermutation es fs → times R q fs ≡ times R q es
  times-IsPermutation q es fs h = times-sum q fs ∙ sum_by-IsPermutation (λ e. cond (eq_by_cmp R q e.0) 1 0) es fs h ∙ sym (times-sum q es)

  times_none : (q : K) (es : List (K × X)) → list_any (λ other. eq_by_cmp R q other.0) es ≡ false → times R q es ≡ 0
  times_none q [] h = refl
  times_none q (e ∷ es) h =
      let parts = or_none (eq_by_cmp R q e.0) (list_any (λ other. eq_by_cmp R q other.0) es) h in
      ap (λ b. cond b 1 0 + times R q es) parts.0 ∙ ap (λ n. 0 + n) (times_none q es parts.1)

module _ {K X : Type 0} {R : K → K → Ordering} (o : IsTotalOrder R) where
  pub below_less : (x y : K) (es : List (K × X)) → R x y ≡ Less → T (below_all R y es) → T (below_all R x es)
  below_less x y [] p h = tt
  below_less x y (e ∷ es) p h =
      and_both _ _ (subst (λ r. T (is_lt r)) (sym (o.trans x y e.0 p (is_less _ (and_first _ _ h)))) tt) (below_less x y es p (and_second _ _ h))

  any_alike : (q k : K) (es : List (K × X)) → eq_by_cmp R q k ≡ true → list_any (λ other. eq_by_cmp R q other.0) es ≡ list_any (λ other. eq_by_cmp R k other.0) es
  any_alike q k [] t = refl
  any_alike q k (e ∷ es) t =
      ap (λ b. b || list_any (λ other. eq_by_cmp R q other.0) es) ((eq_by_cmp_equiv o).congr q k e.0 t)
      ∙ ap (λ b. eq_by_cmp R k e.0 || b) (any_alike q k es t)

  times_apart : (q : K) (es : List (K × X)) → StandApart R es → times R q es ≤ 1
  times_apart q [] a = omega arith
  times_apart q (e ∷ es) a =
      elim (eq_by_cmp R q e.0) as (λ b. eq_by_cmp R q e.0 ≡ b → cond b 1 0 + times R q es ≤ 1) [
        | true ↦ λ t. let none = times_none R q es (any_alike q e.0 es t ∙ a.0) in omega arith
        | false ↦ λ t. let few = times_apart q es a.1 in omega arith
      ] refl

  next_less : (x y : K × X) (es : List (K × X)) → is_lt (R y.0 x.0) ≡ false → times R x.0 (x ∷ y ∷ es) ≤ 1 → R x.0 y.0 ≡ Less
  next_less x y es up few =
      let same = eq_by_cmp_equiv o in
      o.antisymm x.0 y.0 ∙ not_above (R y.0 x.0) up (λ tie. two_at_once (eq_by_cmp R x.0 x.0) (eq_by_cmp R x.0 y.0) (times R x.0 es) (same.refl x.0) (ap is_eq (o.antisymm x.0 y.0) ∙ tie) few)

  -- entries that rise or tie rise strictly where none tie
  rise_strictly : (es : List (K × X)) → IsSortedByKey (λ e. e.0) R es → ((q : K) → times R q es ≤ 1) → T (is_sorted R es)
  rise_strictly [] up few = tt
  rise_strictly (x ∷ []) up few = tt
  rise_strictly (x ∷ y ∷ es) up few =
      let less = next_less x y es (up 0 x (omega arith) (omega arith)) (few x.0) in
      let later : (k : ℕ) → suc k + 1 ≡ suc (k + 1) = λ k. omega arith in
      let rest = rise_strictly (y ∷ es)
      (λ k d low high. subst (λ n. is_lt (R (get_or (x ∷ y ∷ es) n d).0 (get_or (y ∷ es) k d).0) ≡ false) (later k) (up (suc k) d (omega arith) (omega arith)))
      (λ q. let fewer = few q in omega arith) in
      and_both (below_all R x.0 (y ∷ es)) (is_sorted R (y ∷ es))
      (and_both (is_lt (R x.0 y.0)) (below_all R x.0 es) (subst (λ r. T (is_lt r)) (sym less) tt) (below_less x.0 y.0 es less (and_first _ _ rest)))
      rest

  contains_find : (q : K) (v : X) (es : List (K × X)) → StandApart R es → Contains es (q, v) → find R q es ≡ Some v
  contains_find q v [] a h = absurd (omega (arith, h.1))
  contains_find q v (e ∷ es) a (zero, below, is) =
      ap (λ (d : K × X). cond (eq_by_cmp R q d.0) (Some d.1) (find R q es)) is
      ∙ ap (λ b. cond b (Some v) (find R q es)) ((eq_by_cmp_equiv o).refl q)
  contains_find q v (e ∷ es) a (suc i, below, is) =
      let other = none_passes (λ d. eq_by_cmp R e.0 d.0) es i (q, v) a.0 (omega arith) in
      let apart = (eq_by_cmp_equiv o).symm q e.0 ∙ ap (λ (d : K × X). eq_by_cmp R e.0 d.0) (sym is) ∙ other in
      ap (λ b. cond b (Some e.1) (find R q es)) apart ∙ contains_find q v es a.1 (i, omega arith, is)

  module _ (exact : IsAntisymmetric R) where
    find_contains : (q : K) (v : X) (es : List (K × X)) → find R q es ≡ Some v → Contains es (q, v)
    find_contains q v [] h = absurd (cc)
    find_contains q v (e ∷ es) h =
        elim (eq_by_cmp R q e.0) as (λ b. eq_by_cmp R q e.0 ≡ b → cond b (Some e.1) (find R q es) ≡ Some v → Contains (e ∷ es) (q, v)) [
          | true ↦ λ t found. (0, omega arith, pair (sym (exact q e.0 (is_tie (R q e.0) t))) (same_Some e.1 v found))
          | false ↦ λ t found. let there = find_contains q v es found in (suc there.0, omega arith, there.2)
        ] refl h

    -- two lists of the same entries, which stand apart in the first, have the same values at all keys
    pub find-IsPermutation : (es fs : List (K × X)) → StandApart R es → IsPermutation es fs → (q : K) → find R q es ≡ find R q fs
    find-IsPermutation es fs a moved q =
        elim (find R q fs) as (λ r. find R q fs ≡ r → find R q es ≡ r) [
          | None ↦ λ none. none_of (find R q es)
              (is_some-find R q es ∙ list_any-IsPermutation (eq_by_cmp R q) (map (λ e. e.0) es) (map (λ e. e.0) fs) (IsPermutation-map (λ e. e.0) es fs moved) ∙ sym (is_some-find R q fs) ∙ ap is_some none)
          | Some v ↦ λ found. contains_find q v es a (Contains-permutation fs es (q, v) (IsPermutation-sym es fs moved) (find_contains q v fs found))
        ] refl

    -- the entries of a map that is made from entries in order
    pub entries-from_entries : (es : List (K × X)) → T (is_sorted R es) → entries (from_entries {R = R} es) ≡ es
    entries-from_entries es rise =
        ap entries (same_map o exact (from_entries {R = R} es) (from_sorted {R = R} es) (λ q. get-from_entries o es q ∙ sym (get-from_sorted R es q rise)))
        ∙ entries-from_sorted R es rise

    -- a list in order of entries that stood apart has the entries of the map that they make
    pub entries-sorted : (es fs : List (K × X)) → StandApart R es → IsPermutation es fs → IsSortedByKey (λ e. e.0) R fs → entries (from_entries {R = R} es) ≡ fs
    entries-sorted es fs a moved up =
        ap entries (same_map o exact (from_entries {R = R} es) (from_entries {R = R} fs) (λ q.
        get-from_entries o es q ∙ find-IsPermutation es fs a moved q ∙ sym (get-from_entries o fs q)))
        ∙ entries-from_entries fs (rise_strictly fs up (λ q. let few = times_apart q es a in let same = times-IsPermutation R q es fs moved in omega arith))

-- entries with a value for each key
abbrev pub keyed : {K X Y : Type 0} → (K → Y) → List (K × X) → List (K × Y)
keyed f es = map (λ e. (e.0, f e.0)) es

module _ {K X Y : Type 0} (R : K → K → Ordering) (f : K → Y) where
  pub StandApart-keyed : (es : List (K × X)) → StandApart R es → StandApart R (keyed f es)
  StandApart-keyed [] a = tt
  StandApart-keyed (e ∷ es) a = (any_keyed (eq_by_cmp R e.0) es ∙ a.0, StandApart-keyed es a.1) where
    any_keyed : (p : K → Bool) (ds : List (K × X)) → list_any (λ other. p other.0) (keyed f ds) ≡ list_any (λ other. p other.0) ds
    any_keyed p [] = refl
    any_keyed p (d ∷ ds) = ap (λ b. p d.0 || b) (any_keyed p ds)

  below_keyed : (x : K) (es : List (K × X)) → T (below_all R x es) → T (below_all R x (keyed f es))
  below_keyed x [] h = tt
  below_keyed x (e ∷ es) h = and_both _ _ (and_first _ _ h) (below_keyed x es (and_second _ _ h))

  pub is_sorted-keyed : (es : List (K × X)) → T (is_sorted R es) → T (is_sorted R (keyed f es))
  is_sorted-keyed [] h = tt
  is_sorted-keyed (e ∷ es) h = and_both _ _ (below_keyed e.0 es (and_first _ _ h)) (is_sorted-keyed es (and_second _ _ h))

  module _ (o : IsTotalOrder R) (exact : IsAntisymmetric R) where
    find-keyed : (q : K) (es : List (K × X)) → find R q (keyed f es) ≡ option_map (λ _. f q) (find R q es)
    find-keyed q [] = refl
    find-keyed q (e ∷ es) =
        elim (eq_by_cmp R q e.0) as (λ b. eq_by_cmp R q e.0 ≡ b → cond b (Some (f e.0)) (find R q (keyed f es)) ≡ option_map (λ _. f q) (cond b (Some e.1) (find R q es))) [
          | true ↦ λ t. ap (λ k. Some (f k)) (sym (exact q e.0 (is_tie (R q e.0) t)))
          | false ↦ λ t. find-keyed q es
        ] refl

    -- the entries of a map, each with another value
    pub keyed-entries : (es : List (K × X)) → keyed f (entries (from_entries {R = R} es)) ≡ entries (from_entries {R = R} (keyed f es))
    keyed-entries es =
        let m = from_entries {R = R} es in
        sym (entries-from_entries o exact (keyed f (entries m)) (is_sorted-keyed (entries m) (entries_sorted m)))
        ∙ ap entries (same_map o exact (from_entries {R = R} (keyed f (entries m))) (from_entries {R = R} (keyed f es)) (λ q.
        get-from_entries o (keyed f (entries m)) q ∙ find-keyed q (entries m) ∙ ap (option_map (λ _. f q)) (sym (get-entries m q) ∙ get-from_entries o es q)
        ∙ sym (find-keyed q es) ∙ sym (get-from_entries o (keyed f es) q)))

-- entries that rise stand apart
pub StandApart-sorted : {K X : Type 0} (R : K → K → Ordering) (es : List (K × X)) → T (is_sorted R es) → StandApart R es
StandApart-sorted R [] h = tt
StandApart-sorted {K = K} {X = X} R (e ∷ es) h = (apart e.0 es (and_first _ _ h), StandApart-sorted R es (and_second _ _ h)) where
  apart : (x : K) (ds : List (K × X)) → T (below_all R x ds) → list_any (λ other. eq_by_cmp R x other.0) ds ≡ false
  apart x [] h = refl
  apart x (d ∷ ds) h = ap (λ o. is_eq o || list_any (λ other. eq_by_cmp R x other.0) ds) (is_less (R x d.0) (and_first _ _ h)) ∙ apart x ds (and_second _ _ h)

-- what is below all keys is not found
pub below_none : {K X : Type 0} (R : K → K → Ordering) (q : K) (es : List (K × X)) → T (below_all R q es) → find R q es ≡ None
below_none R q [] h = refl
below_none R q (e ∷ es) h = ap (λ o. cond (is_eq o) (Some e.1) (find R q es)) (is_less (R q e.0) (and_first _ _ h)) ∙ below_none R q es (and_second _ _ h)

-- what is found after an entry in order is found with it
pub found_behind : {K X : Type 0} {R : K → K → Ordering} (o : IsTotalOrder R) (q : K) (e : K × X) (es : List (K × X)) → T (is_sorted R (e ∷ es)) → (v : X) → find R q es ≡ Some v → find R q (e ∷ es) ≡ Some v
found_behind {K = K} {X = X} {R = R} o q e es h v is = by_tie (eq_by_cmp R q e.0) refl where
  none_tied : eq_by_cmp R q e.0 ≡ true → find R q es ≡ None
  none_tied t = none_of (find R q es) (is_some-find R q es ∙ any_map (eq_by_cmp R q) es ∙ any_alike o q e.0 es t ∙ (StandApart-sorted R (e ∷ es) h).0) where
    any_map : (p : K → Bool) (ds : List (K × X)) → list_any p (map (λ d. d.0) ds) ≡ list_any (λ d. p d.0) ds
    any_map p [] = refl
    any_map p (d ∷ ds) = ap (λ b. p d.0 || b) (any_map p ds)

  by_tie : (b : Bool) → eq_by_cmp R q e.0 ≡ b → cond b (Some e.1) (find R q es) ≡ Some v
  by_tie true t = absurd (let none = none_tied t in cc)
  by_tie false t = is

-- entries with what is left of each value, where something is
abbrev pub left : {K X Y : Type 0} → (K → X → Option Y) → List (K × X) → List (K × Y)
left f es = filter_map (λ e. option_map (λ y. (e.0, y)) (f e.0 e.1)) es

alike_any : {K X : Type 0} (p : K → Bool) (es : List (K × X)) → list_any p (map (λ e. e.0) es) ≡ list_any (λ e. p e.0) es
alike_any p [] = refl
alike_any p (e ∷ es) = ap (λ b. p e.0 || b) (alike_any p es)

module _ {K X Y : Type 0} {R : K → K → Ordering} (o : IsTotalOrder R) (exact : IsAntisymmetric R) (f : K → X → Option Y) where
  -- what is found after an entry of the same key
  none_behind : (q : K) (e : K × X) (es : List (K × X)) → StandApart R (e ∷ es) → eq_by_cmp R q e.0 ≡ true → find R q es ≡ None
  none_behind q e es a t = none_of (find R q es) (is_some-find R q es ∙ alike_any (eq_by_cmp R q) es ∙ any_alike o q e.0 es t ∙ a.0)

  left_here : (q : K) (e : K × X) → eq_by_cmp R q e.0 ≡ true → f e.0 e.1 ≡ f q e.1
  left_here q e t = ap (λ k. f k e.1) (sym (exact q e.0 (is_tie (R q e.0) t)))

  -- what is found of what is left is what is left of what is found
  pub find-left : (q : K) (es : List (K × X)) → StandApart R es → find R q (left f es) ≡ option_and_then (f q) (find R q es)
  find-left q [] a = refl
  find-left q (e ∷ es) a = by_left (f e.0 e.1) refl (eq_by_cmp R q e.0) refl (find-left q es a.1) where
    by_left : (r : Option Y) → f e.0 e.1 ≡ r → (b : Bool) → eq_by_cmp R q e.0 ≡ b → find R q (left f es) ≡ option_and_then (f q) (find R q es)
        → find R q (cons_option (option_map (λ y. (e.0, y)) r) (left f es)) ≡ option_and_then (f q) (cond b (Some e.1) (find R q es))
    by_left None is true t rest = rest ∙ ap (option_and_then (f q)) (none_behind q e es a t) ∙ sym is ∙ left_here q e t
    by_left None is false t rest = rest
    by_left (Some y) is true t rest = ap (λ b. cond b (Some y) (find R q (left f es))) t ∙ sym is ∙ left_here q e t
    by_left (Some y) is false t rest = ap (λ b. cond b (Some y) (find R q (left f es))) t ∙ rest

  -- the map of what is left of a map
  pub get-left : (m : FinMap R X) (q : K) → get (from_entries {R = R} (left f (entries m))) q ≡ option_and_then (f q) (get m q)
  get-left m q = get-from_entries o (left f (entries m)) q ∙ find-left q (entries m) (StandApart-sorted R (entries m) (entries_sorted m)) ∙ ap (option_and_then (f q)) (sym (get-entries m q))
