-- Lists of all shards as one map: at each key, what the key's own shard has there.
use Rattle.std.proofs.Common.{◌≡◌, ℕ, zero, suc, ◌+◌, ◌<◌, ◌≤◌, Bool, true, false, cond, eqb, List, [], ◌∷◌, ◌++◌, refl, sym, ap, ◌∙◌, arith}
use Rattle.std.specs.Prelude.{Option, Some, None, flat_map}
use Rattle.std.specs.List.{range_with_len}
use Rattle.std.specs.declared.cmp.Ordering.{Ordering}
use Rattle.std.specs.Ordering.{eq_by_cmp}
use Rattle.std.specs.Cmp.{IsTotalOrder}
use Rattle.std.specs.FinMap.{IsAntisymmetric, find, from_entries, get-from_entries, same_map}
use Rattle.std.proofs.lemmas.Bool.{eqb-true, eq-eqb}

abbrev or_else : {A : Type 0} → Option A → Option A → Option A
or_else (Some x) o = Some x
or_else None o = o

or_else_none : {A : Type 0} (o : Option A) → or_else o None ≡ o
or_else_none None = refl
or_else_none (Some x) = refl

not_equal : (a b : ℕ) → (a ≡ b → ⊥) → eqb a b ≡ false
not_equal a b h = by_test (eqb a b) refl where
  by_test : (t : Bool) → eqb a b ≡ t → t ≡ false
  by_test true is = absurd (h (eqb-true a b is))
  by_test false is = refl

module _ {K X : Type 0} (R : K → K → Ordering) where
  find_joined : (q : K) (xs ys : List (K × X)) → find R q (xs ++ ys) ≡ or_else (find R q xs) (find R q ys)
  find_joined q [] ys = refl
  find_joined q (e ∷ xs) ys = by_tie (eq_by_cmp R q e.0) (find_joined q xs ys) where
    by_tie : (b : Bool) → find R q (xs ++ ys) ≡ or_else (find R q xs) (find R q ys) → cond b (Some e.1) (find R q (xs ++ ys)) ≡ or_else (cond b (Some e.1) (find R q xs)) (find R q ys)
    by_tie true h = refl
    by_tie false h = h

  module _ (es : ℕ → List (K × X)) (q : K) (shards home : ℕ) (want : Option X) (has : (i : ℕ) → i < shards → find R q (es i) ≡ cond (eqb i home) want None) where
    -- no shard behind the key's own has it
    found_behind : (start count : ℕ) → start + count ≤ shards → home < start → find R q (flat_map es (range_with_len start count)) ≡ None
    found_behind start zero within past = refl
    found_behind start (suc count) within past =
        find_joined q (es start) (flat_map es (range_with_len (start + 1) count))
        ∙ ap (λ o. or_else o (find R q (flat_map es (range_with_len (start + 1) count)))) (has start (omega arith) ∙ ap (λ b. cond b want None) (not_equal start home (λ same. omega arith)))
        ∙ found_behind (start + 1) count (omega arith) (omega arith)

    found_home : (start count : ℕ) → start + count ≤ shards → start ≤ home → home < start + count → find R q (flat_map es (range_with_len start count)) ≡ want
    found_home start zero within low high = absurd (omega arith)
    found_home start (suc count) within low high =
        find_joined q (es start) (flat_map es (range_with_len (start + 1) count))
        ∙ ap (λ o. or_else o (find R q (flat_map es (range_with_len (start + 1) count)))) (has start (omega arith))
        ∙ by_test (eqb start home) refl (λ on. found_home (start + 1) count (omega arith) on (omega arith)) where
          by_test : (b : Bool) → eqb start home ≡ b → (start + 1 ≤ home → find R q (flat_map es (range_with_len (start + 1) count)) ≡ want)
              → or_else (cond b want None) (find R q (flat_map es (range_with_len (start + 1) count))) ≡ want
          by_test true is rest = let here = eqb-true start home is in ap (or_else want) (found_behind (start + 1) count (omega arith) (omega arith)) ∙ or_else_none want
          by_test false is rest = rest (beyond (λ same. absurd (let e = sym is ∙ eq-eqb start home same in cc))) where
            beyond : (start ≡ home → ⊥) → start + 1 ≤ home
            beyond h = omega arith

  -- Two numbers of shards, where each key's own shard has the same: one map.
  pub merged_alike : (o : IsTotalOrder R) → IsAntisymmetric R → (es fs : ℕ → List (K × X)) (n m : ℕ) (home away : K → ℕ) (want : K → Option X)
      → ((q : K) → home q < n) → ((q : K) → away q < m)
      → ((q : K) (i : ℕ) → i < n → find R q (es i) ≡ cond (eqb i (home q)) (want q) None)
      → ((q : K) (i : ℕ) → i < m → find R q (fs i) ≡ cond (eqb i (away q)) (want q) None)
      → from_entries {R = R} (flat_map es (range_with_len 0 n)) ≡ from_entries {R = R} (flat_map fs (range_with_len 0 m))
  merged_alike o same es fs n m home away want in_n in_m of_n of_m =
      same_map o same (from_entries {R = R} (flat_map es (range_with_len 0 n))) (from_entries {R = R} (flat_map fs (range_with_len 0 m))) (λ q.
      get-from_entries o (flat_map es (range_with_len 0 n)) q
      ∙ found_home es q n (home q) (want q) (of_n q) 0 n (omega arith) (omega arith) (omega (arith, in_n q))
      ∙ sym (found_home fs q m (away q) (want q) (of_m q) 0 m (omega arith) (omega arith) (omega (arith, in_m q)))
      ∙ sym (get-from_entries o (flat_map fs (range_with_len 0 m)) q))
