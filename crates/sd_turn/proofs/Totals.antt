-- Totals over lists that change at one place, and numbers that stand once.
use Rattle.std.proofs.Common.{◌≡◌, ℕ, zero, suc, ◌+◌, ◌<◌, ◌≤◌, ◌≢◌, Bool, true, false, eqb, eq-eqb, ne_eqb, List, [], ◌∷◌, ◌++◌, set, sym, refl, ap, subst, ⊎_elim, add-zero, add-one, zero-add, map, length, ◌∙◌, arith, All, Any}
use Rattle.std.specs.Prelude.{sum_by}
use Rattle.std.proofs.lemmas.List.Elements.{All-nil, All-cons}
use Rattle.std.proofs.lemmas.List.Sums.{sum_by-cons}
use mathlib.Core.Logic.{dite}
use native.Mathlib.Decide.{ℕ_discrete}
use mathlib.Core.Option.{some, some-injective, some-ne-none}
use lib.ListN.{get_elem?}
use Rattle.atomic_table.proofs.Lists.{at_set}
use Rattle.sd_turn.specs.Lists.{total, Each, span}

pub total_one-span : (from n : ℕ) → total (λ (x : ℕ). 1) (span from n) ≡ n
total_one-span from zero = refl
total_one-span from (suc n) = omega (arith, total_one-span (from + 1) n)

pub total-span_last : (h : ℕ → ℕ) (from n : ℕ) → total h (span from (suc n)) ≡ total h (span from n) + h (from + n)
total-span_last h from zero = omega (arith, ap h (add-zero from))
total-span_last h from (suc n) = let e : (from + 1) + n ≡ from + suc n = omega arith in omega (arith, total-span_last h (from + 1) n, ap h e)

module _ {A : Type 0} where
  pub set_at : (l : List A) (i : ℕ) (a b : A) → get_elem? l i ≡ some a → get_elem? (set l i b) i ≡ some b
  set_at [] i a b e = absurd (some-ne-none a (sym e))
  set_at (x ∷ xs) zero a b e = refl
  set_at (x ∷ xs) (suc i) a b e = set_at xs i a b e

  pub each_set : (P : A → Type 0) (l : List A) (i : ℕ) (w : A) → ((j : ℕ) (u : A) → j ≢ i → get_elem? l j ≡ some u → P u) → P w → (j : ℕ) (u : A) → get_elem? (set l i w) j ≡ some u → P u
  each_set P l i w others mine j u e = ⊎_elim
      (λ (t : (j ≡ i) × (w ≡ u)). subst P t.1 mine)
      (λ (t : (j ≢ i) × (get_elem? l j ≡ some u)). others j u t.0 t.1)
      (at_set l i j w u e)

  module _ (g : A → ℕ) where
    pub total-append : (l m : List A) → total g (l ++ m) ≡ total g l + total g m
    total-append [] m = omega arith
    total-append (x ∷ xs) m = omega (arith, total-append xs m)

    -- the same as the library has it
    pub total-sum_by : (l : List A) → total g l ≡ sum_by g l
    total-sum_by [] = refl
    total-sum_by (x ∷ xs) = omega (arith, sum_by-cons g x xs, total-sum_by xs)

    pub total-set : (l : List A) (j : ℕ) (v w : A) → get_elem? l j ≡ some v → total g (set l j w) + g v ≡ total g l + g w
    total-set [] j v w e = absurd (some-ne-none v (sym e))
    total-set (x ∷ xs) zero v w e = omega (arith, ap g (some-injective x v e))
    total-set (x ∷ xs) (suc j) v w e = omega (arith, total-set xs j v w e)

    pub total_same : (l : List A) (j : ℕ) (v w : A) → get_elem? l j ≡ some v → g w ≡ g v → total g (set l j w) ≡ total g l
    total_same l j v w e same = omega (arith, total-set l j v w e)

    pub term_le : (l : List A) (j : ℕ) (v : A) → get_elem? l j ≡ some v → g v ≤ total g l
    term_le [] j v e = absurd (some-ne-none v (sym e))
    term_le (x ∷ xs) zero v e = omega (arith, ap g (some-injective x v e))
    term_le (x ∷ xs) (suc j) v e = omega (arith, term_le xs j v e)

    pub summands_le : (l : List A) (j k : ℕ) (v u : A) → k ≢ j → get_elem? l j ≡ some v → get_elem? l k ≡ some u → g v + g u ≤ total g l
    summands_le [] j k v u n e d = absurd (some-ne-none v (sym e))
    summands_le (x ∷ xs) zero zero v u n e d = absurd (n refl)
    summands_le (x ∷ xs) zero (suc k) v u n e d = omega (arith, ap g (some-injective x v e), term_le xs k u d)
    summands_le (x ∷ xs) (suc j) zero v u n e d = omega (arith, ap g (some-injective x u d), term_le xs j v e)
    summands_le (x ∷ xs) (suc j) (suc k) v u n e d = omega (arith, summands_le xs j k v u (λ h. n (ap suc h)) e d)

    pub total_none : (l : List A) → ((j : ℕ) (u : A) → get_elem? l j ≡ some u → g u ≡ 0) → total g l ≡ 0
    total_none [] none = refl
    total_none (x ∷ xs) none = omega (arith, none 0 x refl, total_none xs (λ j u e. none (suc j) u e))

    pub total_only : (l : List A) (i : ℕ) (v : A) → get_elem? l i ≡ some v → ((j : ℕ) (u : A) → j ≢ i → get_elem? l j ≡ some u → g u ≡ 0) → total g l ≡ g v
    total_only [] i v e none = absurd (some-ne-none v (sym e))
    total_only (x ∷ xs) zero v e none = omega (arith, ap g (some-injective x v e), total_none xs (λ j u d. none (suc j) u (λ h. omega arith) d))
    total_only (x ∷ xs) (suc i) v e none = omega (arith, none 0 x (λ h. omega arith) refl, total_only xs i v e (λ j u n d. none (suc j) u (λ h. n (omega arith)) d))

pub span_last : (from n : ℕ) → span from n ++ (from + n) ∷ [] ≡ span from (n + 1)
span_last from n = rw add-one (go from n)
  where
    go : (from n : ℕ) → span from n ++ (from + n) ∷ [] ≡ span from (suc n)
    go from zero = ap (λ x. x ∷ []) (add-zero from)
    go from (suc n) = let e : from + suc n ≡ (from + 1) + n = omega arith in ap (λ x. from ∷ (span (from + 1) n ++ x ∷ [])) e ∙ ap (λ l. from ∷ l) (go (from + 1) n)

module _ {A B : Type 0} (f : A → B) where
  pub map-push : (xs : List A) (x : A) → map f (xs ++ x ∷ []) ≡ map f xs ++ f x ∷ []
  map-push [] x = refl
  map-push (y ∷ xs) x = ap (λ l. f y ∷ l) (map-push xs x)

  pub popped : (xs ys : List A) (x : A) (rows kept : List B) → xs ≡ ys ++ x ∷ [] → rows ≡ f x ∷ [] → map f xs ++ kept ≡ map f ys ++ (rows ++ kept)
  popped xs ys x rows kept e one = ap (λ l. map f l ++ kept) e ∙ (go ys ∙ ap (λ l. map f ys ++ (l ++ kept)) (sym one))
    where
      go : (ys : List A) → map f (ys ++ x ∷ []) ++ kept ≡ map f ys ++ ((f x ∷ []) ++ kept)
      go [] = refl
      go (y ∷ ys) = ap (λ l. f y ∷ l) (go ys)

  pub length-map : (xs : List A) → length (map f xs) ≡ length xs
  length-map [] = refl
  length-map (x ∷ xs) = ap suc (length-map xs)

  pub total-map : (h : B → ℕ) (xs : List A) → total h (map f xs) ≡ total (λ x. h (f x)) xs
  total-map h [] = refl
  total-map h (x ∷ xs) = ap (λ n. h (f x) + n) (total-map h xs)

pub span_snoc : (n m : ℕ) → n + 1 ≡ m → span 0 n ++ n ∷ [] ≡ span 0 m
span_snoc n m e = ap (λ k. span 0 n ++ k ∷ []) (sym (zero-add n)) ∙ span_last 0 n ∙ ap (span 0) e

-- 1 where it holds
abbrev pub bit : Bool → ℕ
bit true = 1
bit false = 0

-- weighs one number with 1, and each other with 0
abbrev pub is : ℕ → ℕ → ℕ
is n x = bit (eqb n x)

pub is_itself : (n : ℕ) → is n n ≡ 1
is_itself n = ap bit (eq-eqb n n refl)

pub is_other : (n x : ℕ) → n ≢ x → is n x ≡ 0
is_other n x apart = ap bit (ne_eqb n x apart)

span_below : (n from k : ℕ) → n < from → total (is n) (span from k) ≡ 0
span_below n from zero h = refl
span_below n from (suc k) h = omega (arith, is_other n from (λ e. omega arith), span_below n (from + 1) k (omega arith))

-- no number stands twice
pub span_once : (n from k : ℕ) → total (is n) (span from k) ≤ 1
span_once n from zero = omega arith
span_once n from (suc k) = dite (ℕ_discrete n from)
    (λ e. omega (arith, ap (is n) (sym e), is_itself n, span_below n (from + 1) k (omega arith)))
    (λ ne. omega (arith, is_other n from ne, span_once n (from + 1) k))

module _ {A : Type 0} where
  pub Each-append : (P : A → Type 0) (xs ys : List A) → Each P xs → Each P ys → Each P (xs ++ ys)
  Each-append P [] ys p q = q
  Each-append P (x ∷ xs) ys p q = (p.0, Each-append P xs ys p.1 q)

  -- members with another number than this one
  pub Each-others : (number : A → ℕ) (n : ℕ) (P Q : A → Type 0) → ((x : A) → number x ≢ n → P x → Q x) → (xs : List A) → total (is n) (map number xs) ≡ 0 → Each P xs → Each Q xs
  Each-others number n P Q up [] none each = tt
  Each-others number n P Q up (x ∷ xs) none each = (
    up x (λ e. let here = is_itself n in let same = ap (is n) e in omega arith) each.0,
    Each-others number n P Q up xs (omega arith) each.1,
  )

  pub Each-weaker : (P Q : A → Type 0) → ((x : A) → P x → Q x) → (xs : List A) → Each P xs → Each Q xs
  Each-weaker P Q weaker [] each = tt
  Each-weaker P Q weaker (x ∷ xs) each = (weaker x each.0, Each-weaker P Q weaker xs each.1)

  pub All-from_each : (P : A → Type 0) (xs : List A) → Each P xs → All P xs
  All-from_each P [] each = All-nil P
  All-from_each P (x ∷ xs) each = All-cons P x xs each.0 (All-from_each P xs each.1)

  -- a number that weighs something is that of some member
  pub Any-numbered : (number : A → ℕ) (n : ℕ) (xs : List A) → 0 < total (λ x. is n (number x)) xs → Any (λ x. number x ≡ n) xs
  Any-numbered number n [] weighs = absurd (omega arith)
  Any-numbered number n (x ∷ xs) weighs = dite (ℕ_discrete n (number x))
      (λ e. (0, x, omega arith, refl, sym e))
      (λ ne. let o = is_other n (number x) ne in let a = Any-numbered number n xs (omega arith) in (suc a.0, a.1, omega (arith, a.2), a.3, a.4))

pub Each-map : {A B : Type 0} (P : B → Type 0) (f : A → B) (xs : List A) → Each P (map f xs) → Each (λ x. P (f x)) xs
Each-map P f [] each = tt
Each-map P f (x ∷ xs) each = (each.0, Each-map P f xs each.1)

pub Each-always : {A : Type 0} (P : A → Type 0) → ((x : A) → P x) → (xs : List A) → Each P xs
Each-always P all [] = tt
Each-always P all (x ∷ xs) = (all x, Each-always P all xs)

-- each number in the span stands there once
pub span_has : (n from k : ℕ) → from ≤ n → n < from + k → total (is n) (span from k) ≡ 1
span_has n from zero low high = absurd (omega arith)
span_has n from (suc k) low high = dite (ℕ_discrete n from)
    (λ e. omega (arith, ap (is n) (sym e), is_itself n, span_below n (from + 1) k (omega arith)))
    (λ ne. omega (arith, is_other n from ne, span_has n (from + 1) k (lt_of_le_of_ne' low ne) (omega arith)))
  where
    lt_of_le_of_ne' : {n from : ℕ} → from ≤ n → n ≢ from → from + 1 ≤ n
    lt_of_le_of_ne' {n} {from} low ne = omega arith
