-- How many keys differ, over elements in the order of their keys.
use Rattle.std.proofs.Common.{◌≡◌, ℕ, zero, suc, ◌+◌, ◌-◌, ◌<◌, ◌≤◌, Bool, true, false, cond, not, ◌||◌, List, [], ◌∷◌, ◌++◌, map, length, get_or, take, refl, sym, ap, ◌∙◌, arith}
use Rattle.std.specs.declared.cmp.Ordering.{Ordering}
use Rattle.std.specs.declared.cmp.Ordering.TheVariants.{Less, Equal, Greater}
use Rattle.std.specs.Ordering.{is_lt, is_eq, eq_by_cmp, nat_cmp, ordering_reverse}
use Rattle.std.specs.Cmp.{Equal-is}
use Rattle.std.specs.Cmp.Lexicographic.{slice_cmp, nat_list_cmp_total}
use Rattle.std.specs.List.{list_any}
use Rattle.std.specs.List.Sorted.{IsSortedByKey, IsPermutation}
use Rattle.std.specs.FinSet.{len, from_list, contains-from_list, len-insert, len-empty, same_set, from_list_push, nat_cmp-IsAntisymmetric, slice_cmp-IsAntisymmetric}
use Rattle.std.specs.Str.{bytes_eq}
use Rattle.std.proofs.lemmas.Map.Text.{is_eq-slice_cmp}
use Rattle.std.proofs.lemmas.Bool.{false≢true}
use Rattle.std.proofs.lemmas.List.{take_more, map-append, get_or_read}
use Rattle.std.proofs.lemmas.List.Folds.{list_any_more}
use Rattle.std.proofs.lemmas.List.Sorted.{sorted_far, ranks_by, list_any-IsPermutation}
use Rattle.sd_model_shard.specs.Values.{distinct}

-- the order of keys
abbrev key_cmp : List ℕ → List ℕ → Ordering
key_cmp = slice_cmp nat_cmp

abbrev same_key : List ℕ → List ℕ → Bool
same_key = eq_by_cmp key_cmp

-- three keys in order, of which the outer two are one
squeezed : (a b c : List ℕ) → is_lt (key_cmp b a) ≡ false → is_lt (key_cmp c b) ≡ false → same_key c a ≡ true → same_key c b ≡ true
squeezed a b c up more same = by_order (key_cmp c b) refl where
  by_order : (r : Ordering) → key_cmp c b ≡ r → is_eq r ≡ true
  by_order Less e = absurd (let less : is_lt (key_cmp c b) ≡ true = ap is_lt e in cc)
  by_order Equal e = refl
  by_order Greater e =
      let tie : key_cmp c a ≡ Equal = (Equal-is (key_cmp c a)).0 same in
      let above : key_cmp a b ≡ Greater = sym (nat_list_cmp_total.congr c a b tie) ∙ e in
      let below : key_cmp b a ≡ Less = nat_list_cmp_total.antisymm b a ∙ ap ordering_reverse above in
      absurd (let less : is_lt (key_cmp b a) ≡ true = ap is_lt below in cc)

or_false : (a b : Bool) → a ≡ false → b ≡ false → (a || b) ≡ false
or_false true b p q = p
or_false false b p q = q

or_true : (a b : Bool) → b ≡ true → (a || b) ≡ true
or_true true b q = refl
or_true false b q = q

not_true : (b : Bool) → (b ≡ true → ⊥) → b ≡ false
not_true true h = absurd (h refl)
not_true false h = refl

list_any-map : {X : Type 0} (key : X → List ℕ) (p : List ℕ → Bool) (zs : List X) → list_any p (map key zs) ≡ list_any (λ z. p (key z)) zs
list_any-map key p [] = refl
list_any-map key p (z ∷ zs) = ap (λ b. p (key z) || b) (list_any-map key p zs)

-- the keys of a prefix with one element more
count_pushed : (ks : List (List ℕ)) (k : List ℕ) → distinct (ks ++ k ∷ []) ≡ cond (list_any (same_key k) ks) (distinct ks) (distinct ks + 1)
count_pushed ks k =
    ap len (from_list_push nat_list_cmp_total (slice_cmp-IsAntisymmetric nat_cmp-IsAntisymmetric) ks k)
    ∙ len-insert nat_list_cmp_total (from_list ks) k
    ∙ ap (λ b. cond b (distinct ks) (distinct ks + 1)) (contains-from_list nat_list_cmp_total ks k)

module _ {X : Type 0} (key : X → List ℕ) (xs : List X) (order : IsSortedByKey key key_cmp xs) (i : ℕ) (d : X) (within : i < length xs) where
  -- how many keys of the start of the first n differ
  abbrev pub prefix : ℕ → ℕ
  prefix n = distinct (map key (take n xs))

  abbrev pub own : List ℕ
  own = key (get_or xs i d)

  in_order : (j k : ℕ) → j ≤ k → k < length xs → is_lt (key_cmp (key (get_or xs k d)) (key (get_or xs j d))) ≡ false
  in_order j k le below = sorted_far (λ a b. is_lt (key_cmp (key a) (key b))) (ranks_by nat_list_cmp_total key) xs order j k d le below

  pushed : prefix (i + 1) ≡ cond (list_any (λ x. same_key own (key x)) (take i xs)) (prefix i) (prefix i + 1)
  pushed =
      ap (λ ys. distinct (map key ys)) (take_more xs i d within) ∙ ap distinct (map-append key (take i xs) (get_or xs i d ∷ [])) ∙ count_pushed (map key (take i xs)) own
      ∙ ap (λ b. cond b (prefix i) (prefix i + 1)) (list_any-map key (same_key own) (take i xs))

  -- a key that differs from the one before it stands nowhere before
  none_before : (before : ℕ) → before + 1 ≡ i → same_key own (key (get_or xs before d)) ≡ false → (j : ℕ) → j ≤ i → list_any (λ x. same_key own (key x)) (take j xs) ≡ false
  none_before before is differ zero le = refl
  none_before before is differ (suc j) le =
      let earlier : j < length xs = omega arith in
      let here : same_key own (key (get_or xs j d)) ≡ false =
      not_true (same_key own (key (get_or xs j d))) (λ same. false≢true (sym differ ∙ squeezed (key (get_or xs j d)) (key (get_or xs before d)) own (in_order j before (omega arith) (omega arith)) (in_order before i (omega arith) within) same)) in
      let next : suc j ≡ j + 1 = omega arith in
      ap (λ n. list_any (λ x. same_key own (key x)) (take n xs)) next ∙ list_any_more (λ x. same_key own (key x)) xs j d earlier
      ∙ or_false (list_any (λ x. same_key own (key x)) (take j xs)) (same_key own (key (get_or xs j d))) (none_before before is differ j (omega arith)) here

  -- the first key, and one that differs from the one before it, is one more
  pub counts_first : i ≡ 0 → prefix (i + 1) ≡ prefix i + 1
  counts_first is = pushed ∙ ap (λ n. cond (list_any (λ x. same_key own (key x)) (take n xs)) (prefix i) (prefix i + 1)) is

  pub counts_new : 0 < i → same_key own (key (get_or xs (i - 1) d)) ≡ false → prefix (i + 1) ≡ prefix i + 1
  counts_new some differ = pushed ∙ ap (λ b. cond b (prefix i) (prefix i + 1)) (none_before (i - 1) (omega arith) differ i (omega arith))

  -- another is not
  pub counts_old : 0 < i → same_key own (key (get_or xs (i - 1) d)) ≡ true → prefix (i + 1) ≡ prefix i
  counts_old some same =
      let last : i ≡ i - 1 + 1 = omega arith in
      let there : list_any (λ x. same_key own (key x)) (take i xs) ≡ true =
      ap (λ n. list_any (λ x. same_key own (key x)) (take n xs)) last ∙ list_any_more (λ x. same_key own (key x)) xs (i - 1) d (omega arith)
      ∙ or_true (list_any (λ x. same_key own (key x)) (take (i - 1) xs)) (same_key own (key (get_or xs (i - 1) d))) same in
      pushed ∙ ap (λ b. cond b (prefix i) (prefix i + 1)) there

-- keys in another order differ as often
pub distinct-permutation : (ks ls : List (List ℕ)) → IsPermutation ks ls → distinct ls ≡ distinct ks
distinct-permutation ks ls moved =
    ap len (same_set nat_list_cmp_total (slice_cmp-IsAntisymmetric nat_cmp-IsAntisymmetric) (from_list ls) (from_list ks)
    (λ k. contains-from_list nat_list_cmp_total ls k ∙ sym (list_any-IsPermutation (same_key k) ks ls moved) ∙ sym (contains-from_list nat_list_cmp_total ks k)))

pub distinct_empty : distinct [] ≡ 0
distinct_empty = len-empty key_cmp

-- how many keys differ with one element more: that before which no other stands
pub counts_head : {X : Type 0} (key : X → List ℕ) (xs : List X) → IsSortedByKey key key_cmp xs → (i : ℕ) → i < length xs → i ≡ 0 → distinct (map key (take (i + 1) xs)) ≡ distinct (map key (take i xs)) + 1
counts_head key [] order i within is = absurd (omega arith)
counts_head key (x ∷ xs) order i within is = counts_first key (x ∷ xs) order i x within is

-- and an element that was compared with the one before it
pub counts_compared : {X : Type 0} (key : X → List ℕ) (xs : List X) → IsSortedByKey key key_cmp xs → (i : ℕ) (a b : X) → i < length xs → 0 < i → a ≡ get_or xs i a → b ≡ get_or xs (i - 1) b
    → (differ : Bool) → differ ≡ not (bytes_eq (key a) (key b)) → distinct (map key (take (i + 1) xs)) ≡ distinct (map key (take i xs)) + cond differ 1 0
counts_compared key xs order i a b within some first second differ is = by_equal (bytes_eq (key a) (key b)) refl differ is where
  tied : same_key (key (get_or xs i a)) (key (get_or xs (i - 1) a)) ≡ bytes_eq (key a) (key b)
  tied = (λ j. same_key (key (sym first j)) (key (sym (get_or_read xs (i - 1) b (omega arith) second a) j))) ∙ is_eq-slice_cmp (key a) (key b)

  by_equal : (t : Bool) → bytes_eq (key a) (key b) ≡ t → (differ : Bool) → differ ≡ not (bytes_eq (key a) (key b)) → distinct (map key (take (i + 1) xs)) ≡ distinct (map key (take i xs)) + cond differ 1 0
  by_equal true e true is = absurd (let d : true ≡ not true = is ∙ ap not e in cc)
  by_equal true e false is = counts_old key xs order i a within some (tied ∙ e) ∙ omega arith
  by_equal false e true is = counts_new key xs order i a within some (tied ∙ e)
  by_equal false e false is = absurd (let d : false ≡ not false = is ∙ ap not e in cc)
