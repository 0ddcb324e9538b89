-- Lists side by side.
use Rattle.std.proofs.Common.{◌≡◌, ℕ, zero, suc, ◌+◌, ◌<◌, ◌≤◌, List, [], ◌∷◌, ◌++◌, length, get_or, set, take, drop, refl, sym, ap, subst, arith}
use Rattle.std.specs.List.{AllByRecursion}
use Rattle.sd_turn.specs.Lists.{span}
use Rattle.sd_pool.specs.Along.{Along, Walked}

module _ {X T : Type 0} (R : X → X → T → Type 0) where
  pub Along-long : (os ns : List X) (ts : List T) → Along R os ns ts → (length ns ≡ length os) × (length ts ≡ length os)
  Along-long [] [] [] w = (refl, refl)
  Along-long (o ∷ os) (n ∷ ns) (t ∷ ts) w = let rest = Along-long os ns ts w.1 in (omega (arith, rest.0), omega (arith, rest.1))
  Along-long [] [] (t ∷ ts) w = absurd w
  Along-long [] (n ∷ ns) ts w = absurd w
  Along-long (o ∷ os) [] ts w = absurd w
  Along-long (o ∷ os) (n ∷ ns) [] w = absurd w

  pub Along-append : (os ns : List X) (ts : List T) (ps qs : List X) (us : List T) → Along R os ns ts → Along R ps qs us → Along R (os ++ ps) (ns ++ qs) (ts ++ us)
  Along-append [] [] [] ps qs us w v = v
  Along-append (o ∷ os) (n ∷ ns) (t ∷ ts) ps qs us w v = (w.0, Along-append os ns ts ps qs us w.1 v)
  Along-append [] [] (t ∷ ts) ps qs us w v = absurd w
  Along-append [] (n ∷ ns) ts ps qs us w v = absurd w
  Along-append (o ∷ os) [] ts ps qs us w v = absurd w
  Along-append (o ∷ os) (n ∷ ns) [] ps qs us w v = absurd w

  pub Walked-at : (k : ℕ) (os ns : List X) (ts : List T) (d : X) → Walked R k os ns ts → k < length os → get_or ns k d ≡ get_or os k d
  Walked-at zero os ns ts d w below = ap (λ (xs : List X). get_or xs 0 d) w.0
  Walked-at (suc k) (o ∷ os) (n ∷ ns) (t ∷ ts) d w below = Walked-at k os ns ts d w.1 (omega (arith, below))
  Walked-at (suc k) [] ns ts d w below = absurd (omega (arith, below))
  Walked-at (suc k) (o ∷ os) [] ts d w below = absurd w
  Walked-at (suc k) (o ∷ os) (n ∷ ns) [] d w below = absurd w

  pub Walked-long : (k : ℕ) (os ns : List X) (ts : List T) → Walked R k os ns ts → length ns ≡ length os
  Walked-long zero os ns ts w = ap length w.0
  Walked-long (suc k) (o ∷ os) (n ∷ ns) (t ∷ ts) w = let rest = Walked-long k os ns ts w.1 in omega (arith, rest)
  Walked-long (suc k) [] ns ts w = absurd w
  Walked-long (suc k) (o ∷ os) [] ts w = absurd w
  Walked-long (suc k) (o ∷ os) (n ∷ ns) [] w = absurd w

  step : (k : ℕ) (os ns : List X) (ts : List T) (d n : X) (t : T) → Walked R k os ns ts → k < length os → R (get_or ns k d) n t → Walked R (suc k) os (set ns k n) (ts ++ t ∷ [])
  step zero [] ns ts d n t w below r = absurd (omega (arith, below))
  step zero (o ∷ os) ns ts d n t w below r =
      subst (λ (us : List T). Walked R (suc zero) (o ∷ os) (set ns 0 n) (us ++ t ∷ [])) (sym w.1)
      (subst (λ (xs : List X). Walked R (suc zero) (o ∷ os) (set xs 0 n) (t ∷ [])) (sym w.0) (subst (λ (xs : List X). R (get_or xs 0 d) n t) w.0 r, (refl, refl)))
  step (suc k) (o ∷ os) (m ∷ ns) (u ∷ ts) d n t w below r = (w.0, step k os ns ts d n t w.1 (omega (arith, below)) r)
  step (suc k) [] ns ts d n t w below r = absurd (omega (arith, below))
  step (suc k) (o ∷ os) [] ts d n t w below r = absurd w
  step (suc k) (o ∷ os) (m ∷ ns) [] d n t w below r = absurd w

  pub Walked-step : (k : ℕ) (os ns : List X) (ts : List T) (d n : X) (t : T) → Walked R k os ns ts → k < length os → R (get_or ns k d) n t → Walked R (k + 1) os (set ns k n) (ts ++ t ∷ [])
  Walked-step k os ns ts d n t w below r =
      let next : suc k ≡ k + 1 = omega arith in
      subst (λ j. Walked R j os (set ns k n) (ts ++ t ∷ [])) next (step k os ns ts d n t w below r)

  all : (os ns : List X) (ts : List T) → Walked R (length os) os ns ts → Along R os ns ts
  all [] ns ts w = subst (λ (xs : List X). Along R [] xs ts) (sym w.0) (subst (λ (us : List T). Along R [] [] us) (sym w.1) tt)
  all (o ∷ os) (n ∷ ns) (t ∷ ts) w = (w.0, all os ns ts w.1)
  all (o ∷ os) [] ts w = absurd w
  all (o ∷ os) (n ∷ ns) [] w = absurd w

  pub Walked-all : (k : ℕ) (os ns : List X) (ts : List T) → Walked R k os ns ts → length os ≤ k → k ≤ length os → Along R os ns ts
  Walked-all k os ns ts w low high = let same : k ≡ length os = omega (arith, low, high) in all os ns ts (subst (λ j. Walked R j os ns ts) same w)

-- a fact of each
pub AllByRecursion-at : {X : Type 0} (P : X → Type 0) (xs : List X) (k : ℕ) (d : X) → AllByRecursion P xs → k < length xs → P (get_or xs k d)
AllByRecursion-at P [] k d all below = absurd (omega (arith, below))
AllByRecursion-at P (x ∷ xs) zero d all below = all.0
AllByRecursion-at P (x ∷ xs) (suc k) d all below = AllByRecursion-at P xs k d all.1 (omega (arith, below))

pub AllByRecursion-append : {X : Type 0} (P : X → Type 0) (xs ys : List X) → AllByRecursion P xs → AllByRecursion P ys → AllByRecursion P (xs ++ ys)
AllByRecursion-append P [] ys all more = more
AllByRecursion-append P (x ∷ xs) ys all more = (all.0, AllByRecursion-append P xs ys all.1 more)

pub AllByRecursion-prefix : {X : Type 0} (P : X → Type 0) (xs ys : List X) → AllByRecursion P (xs ++ ys) → AllByRecursion P xs
AllByRecursion-prefix P [] ys all = tt
AllByRecursion-prefix P (x ∷ xs) ys all = (all.0, AllByRecursion-prefix P xs ys all.1)

pub AllByRecursion-back : {X : Type 0} (P : X → Type 0) (xs ys : List X) → AllByRecursion P (xs ++ ys) → AllByRecursion P ys
AllByRecursion-back P [] ys all = all
AllByRecursion-back P (x ∷ xs) ys all = AllByRecursion-back P xs ys all.1

-- the first of a list was taken out
pub first_out : {X : Type 0} (xs ys : List X) (x : X) → 0 < length xs → x ≡ get_or xs 0 x → ys ≡ take 0 xs ++ drop 1 xs → xs ≡ x ∷ ys
first_out [] ys x some is left = absurd (omega (arith, some))
first_out (y ∷ xs) ys x some is left = λ i. sym is i ∷ sym left i

-- what is left behind the first so many
pub drop_more : {X : Type 0} (k : ℕ) (xs ys : List X) (x : X) → drop k xs ≡ x ∷ ys → drop (k + 1) xs ≡ ys
drop_more {X} k xs ys x is = let next : suc k ≡ k + 1 = omega arith in subst (λ j. drop j xs ≡ ys) next (by_place k xs is) where
  by_place : (k : ℕ) (xs : List X) → drop k xs ≡ x ∷ ys → drop (suc k) xs ≡ ys
  by_place zero [] is = absurd (cc)
  by_place zero (y ∷ xs) is = cc
  by_place (suc k) [] is = absurd (cc)
  by_place (suc k) (y ∷ xs) is = by_place k xs is

pub drop_at : {X : Type 0} (k : ℕ) (xs ys : List X) (x d : X) → drop k xs ≡ x ∷ ys → (k < length xs) × (get_or xs k d ≡ x)
drop_at zero [] ys x d is = absurd (cc)
drop_at zero (y ∷ xs) ys x d is = (omega arith, cc)
drop_at (suc k) [] ys x d is = absurd (cc)
drop_at (suc k) (y ∷ xs) ys x d is = let rest = drop_at k xs ys x d is in (omega (arith, rest.0), rest.1)

pub Walked-count : {X T : Type 0} (R : X → X → T → Type 0) (k : ℕ) (os ns : List X) (ts : List T) → Walked R k os ns ts → length ts ≡ k
Walked-count R zero os ns ts w = ap length w.1
Walked-count R (suc k) (o ∷ os) (n ∷ ns) (t ∷ ts) w = let rest = Walked-count R k os ns ts w.1 in omega (arith, rest)
Walked-count R (suc k) [] ns ts w = absurd w
Walked-count R (suc k) (o ∷ os) [] ts w = absurd w
Walked-count R (suc k) (o ∷ os) (n ∷ ns) [] w = absurd w

pub none_in : {X : Type 0} (xs : List X) → length xs ≡ 0 → xs ≡ []
none_in [] h = refl
none_in (x ∷ xs) h = absurd (omega (arith, h))

pub span_long : (from n : ℕ) → length (span from n) ≡ n
span_long from zero = refl
span_long from (suc n) = let rest = span_long (from + 1) n in omega (arith, rest)
