-- What the entries of each number come to is what all entries come to.
use Rattle.std.proofs.Common.{◌≡◌, ℕ, zero, suc, ◌+◌, ◌<◌, ◌≤◌, Bool, true, false, cond, eqb, List, [], ◌∷◌, refl, sym, ap, ◌∙◌, arith}
use Rattle.std.specs.List.{AllByRecursion}
use Rattle.std.proofs.lemmas.Bool.{eqb-true, eq-eqb, ne_eqb}
use Rattle.sd_turn.specs.Lists.{total, span}
use Rattle.sd_turn.specs.Entries.{pick, entries_by}

module _ {N : Type 0} (who : N → ℕ) (weigh : N → ℕ) where
  abbrev one_of : N → ℕ → ℕ
  one_of e n = cond (eqb (who e) n) (weigh e) 0

  split : (e : N) (log : List N) (ns : List ℕ)
      → total (λ n. total weigh (entries_by who n (e ∷ log))) ns ≡ total (one_of e) ns + total (λ n. total weigh (entries_by who n log)) ns
  split e log [] = refl
  split e log (n ∷ ns) = by_test (eqb (who e) n) (split e log ns) where
    by_test : (b : Bool) → total (λ n. total weigh (entries_by who n (e ∷ log))) ns ≡ total (one_of e) ns + total (λ n. total weigh (entries_by who n log)) ns
        → total weigh (pick b e (entries_by who n log)) + total (λ n. total weigh (entries_by who n (e ∷ log))) ns
        ≡ (cond b (weigh e) 0 + total (one_of e) ns) + (total weigh (entries_by who n log) + total (λ n. total weigh (entries_by who n log)) ns)
    by_test true rest = omega (arith, rest)
    by_test false rest = omega (arith, rest)

  none : (ns : List ℕ) → total (λ n. total weigh (entries_by who n [])) ns ≡ 0
  none [] = refl
  none (n ∷ ns) = let rest = none ns in omega (arith, rest)

  one_past : (e : N) (from k : ℕ) → who e < from → total (one_of e) (span from k) ≡ 0
  one_past e from zero past = refl
  one_past e from (suc k) past =
      let rest = one_past e (from + 1) k (omega (arith, past)) in
      let here : one_of e from ≡ 0 = ap (λ b. cond b (weigh e) 0) (ne_eqb (who e) from (λ q. omega (arith, past, q))) in
      omega (arith, rest, here)

  apart : (e : N) (from : ℕ) → eqb (who e) from ≡ false → (who e ≡ from → ⊥)
  apart e from is q = let both = sym (eq-eqb (who e) from q) ∙ is in cc

  one_there : (e : N) (from k : ℕ) → from ≤ who e → who e < from + k → total (one_of e) (span from k) ≡ weigh e
  one_there e from zero low high = absurd (omega (arith, low, high))
  one_there e from (suc k) low high = by_test (eqb (who e) from) refl (one_there e (from + 1) k) where
    by_test : (b : Bool) → eqb (who e) from ≡ b → (from + 1 ≤ who e → who e < from + 1 + k → total (one_of e) (span (from + 1) k) ≡ weigh e) → cond b (weigh e) 0 + total (one_of e) (span (from + 1) k) ≡ weigh e
    by_test true is rest = let same = eqb-true (who e) from is in let none_past = one_past e (from + 1) k (omega (arith, same)) in omega (arith, none_past)
    by_test false is rest = let ne = apart e from is in let there = rest (omega (arith, low, ne)) (omega (arith, high)) in omega (arith, there)

  pub total_by_number : (count : ℕ) (log : List N) → AllByRecursion (λ e. who e < count) log → total (λ n. total weigh (entries_by who n log)) (span 0 count) ≡ total weigh log
  total_by_number count [] all = none (span 0 count)
  total_by_number count (e ∷ log) all = let first = one_there e 0 count (omega arith) (omega (arith, all.0)) in let rest = total_by_number count log all.1 in omega (arith, split e log (span 0 count), first, rest)
