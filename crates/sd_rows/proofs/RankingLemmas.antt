-- Lemmas on the order of the places.
use Rattle.std.proofs.Common.{◌≡◌, ◌≢◌, ℕ, ◌+◌, ◌-◌, ◌<◌, ◌≤◌, ◌∙◌, List, [], ◌∷◌, ◌++◌, length, get_or, set, Option, Some, None, refl, sym, ap, subst, arith}
use Rattle.std.proofs.lemmas.Bool.{cases_eq}
use Rattle.std.proofs.lemmas.List.{length-set, get_or_append_left, get_or-append_right}
use Rattle.sd_rows.specs.Ranking.{IsRanking, IsExchanged, IsDivided}
use Rattle.sd_rows.proofs.IndexLemmas.{Differs, set_differs, length-pushed, get_or_pushed, get_or_past}

none_left : (n : ℕ) → n - n ≡ 0
none_left n = omega arith

-- what a list is read as behind which a number was put
pub record IsPushed (xs ys : List ℕ) (n : ℕ) : Type 0 where
  pub at : get_or ys (length xs) 0 ≡ n
  pub other : (i : ℕ) → i < length xs → get_or ys i 0 ≡ get_or xs i 0

pub get_or_push : (xs : List ℕ) (n : ℕ) → IsPushed xs (xs ++ n ∷ []) n
get_or_push xs n = record {
  at = get_or-append_right xs (n ∷ []) (length xs) (length xs) 0 refl (omega arith) ∙ ap (λ i. get_or (n ∷ []) i 0) (none_left (length xs));
  other = λ i lt. get_or_append_left xs (n ∷ []) 0 i lt;
}

-- places have ranks of their own
pub rank_apart : (order rank : List ℕ) (p q : ℕ) → IsRanking order rank → p < length order → q < length order → get_or rank p 0 ≡ get_or rank q 0 → p ≡ q
rank_apart order rank p q w lp lq e = sym (w.back p lp) ∙ ap (λ i. get_or order i 0) e ∙ w.back q lq

-- what stands in two places of a ranking is exchanged
module _
    (n : ℕ) (O M O' R N R' : ℕ → ℕ) (place to from other : ℕ)
    (back : (p : ℕ) → p < n → O (R p) ≡ p) (forth : (i : ℕ) → i < n → R (O i) ≡ i)
    (within : place < n) (inside : to < n) (f : from ≡ R place) (o : other ≡ O to)
    (m : Differs O M from other) (o' : Differs M O' to place) (r : Differs R N other from) (r' : Differs N R' place to) where
  pub exchange_back : (p : ℕ) → p < n → O' (R' p) ≡ p
  exchange_back p lt =
      grind (
        arith,
        cases_eq p place,
        cases_eq p other,
        cases_eq (R p) to,
        cases_eq (R p) from,
        cases_eq from to,
        back p lt,
        back place within,
        forth to inside,
        f,
        o,
        m.at,
        m.other (R p),
        m.other from,
        o'.at,
        o'.other (R p),
        o'.other from,
        r.at,
        r.other p,
        r'.at,
        r'.other p,
      )

  pub exchange_forth : (i : ℕ) → i < n → R' (O' i) ≡ i
  exchange_forth i lt =
      grind (
        arith,
        cases_eq i to,
        cases_eq i from,
        cases_eq (O i) place,
        cases_eq (O i) other,
        cases_eq other place,
        forth i lt,
        back place within,
        forth to inside,
        f,
        o,
        m.at,
        m.other i,
        o'.at,
        o'.other i,
        r.at,
        r.other (O i),
        r.other other,
        r'.at,
        r'.other (O i),
        r'.other other,
      )

pub exchange_ranking :
    (order rank : List ℕ) (place to from other : ℕ)
    → IsRanking order rank → place < length order → to < length order → from ≡ get_or rank place 0 → other ≡ get_or order to 0
    → IsRanking (set (set order from other) to place) (set (set rank other from) place to)
exchange_ranking order rank place to from other w within inside f o =
    let lf : from < length order = subst (λ i. i < length order) (sym f) (w.rank_in place within) in
    let lo : other < length order = subst (λ i. i < length order) (sym o) (w.order_in to inside) in
    let l1 = length-set order from other in
    let l2 = length-set (set order from other) to place in
    let k1 = length-set rank other from in
    let k2 = length-set (set rank other from) place to in
    let m = set_differs order from other 0 lf in
    let o' = set_differs (set order from other) to place 0 (omega (arith, l1, inside)) in
    let r = set_differs rank other from 0 (omega (arith, w.len, lo)) in
    let r' = set_differs (set rank other from) place to 0 (omega (arith, w.len, k1, within)) in
    let len : length (set (set order from other) to place) ≡ length order = l2 ∙ l1 in record {
      len = omega (arith, len, k1, k2, w.len);
      back = λ p lt. exchange_back (length order) _ _ _ _ _ _ place to from other w.back w.forth within inside f o m o' r r' p (omega (arith, len, lt));
      forth = λ i lt. exchange_forth (length order) _ _ _ _ _ _ place to from other w.back w.forth within inside f o m o' r r' i (omega (arith, len, lt));
      rank_in = λ p lt. grind (arith, cases_eq p place, cases_eq p other, len, lf, inside, w.rank_in p, r.at, r.other p, r'.at, r'.other p);
      order_in = λ i lt. grind (arith, cases_eq i to, cases_eq i from, len, lo, within, w.order_in i, m.at, m.other i, o'.at, o'.other i);
    }

pub exchange_exchanged :
    (order rank : List ℕ) (place to from other : ℕ)
    → IsRanking order rank → place < length order → to < length order → from ≡ get_or rank place 0 → other ≡ get_or order to 0
    → IsExchanged rank (set (set rank other from) place to) place to
exchange_exchanged order rank place to from other w within inside f o =
    let lo : other < length order = subst (λ i. i < length order) (sym o) (w.order_in to inside) in
    let k1 = length-set rank other from in
    let k2 = length-set (set rank other from) place to in
    let r = set_differs rank other from 0 (omega (arith, w.len, lo)) in
    let r' = set_differs (set rank other from) place to 0 (omega (arith, w.len, k1, within)) in
    let is : get_or rank other 0 ≡ to = ap (λ p. get_or rank p 0) o ∙ w.forth to inside in record {
      len = k2 ∙ k1;
      at = r'.at;
      other = λ p lt ne far. grind (arith, cases_eq p other, is, r.other p, r'.other p);
      displaced = λ p lt ne near.
          let same : p ≡ other = rank_apart order rank p other w (omega (arith, w.len, lt)) lo (near ∙ sym is) in
          grind (arith, same, f, r.at, r'.other p);
    }

-- the place that holds something now comes to the last rank in use
pub fill_divided :
    {X : Type 0} (order rank rank' : List ℕ) (places : List (Option X)) (live place : ℕ) (x : X)
    → IsRanking order rank → IsDivided rank places live → place < length places → get_or places place None ≡ None
    → IsExchanged rank rank' place live
    → IsDivided rank' (set places place (Some x)) (live + 1)
fill_divided order rank rank' places live place x w d within empty b =
    let P = set_differs places place (Some x) None within in
    let lp = length-set places place (Some x) in
    let apart : (p : ℕ) → p < length rank → p ≢ place → get_or rank p 0 ≢ get_or rank place 0 =
    λ p lt ne e. ne (rank_apart order rank p place w (omega (arith, w.len, lt)) (omega (arith, w.len, d.len, within)) e) in
    let far : live ≤ get_or rank place 0 = grind (arith, d.used place, d.len, within, empty) in record {
      len = omega (arith, b.len, d.len, lp);
      used = λ p lt l z. grind (arith, cases_eq p place, cases_eq (get_or rank p 0) live, b.len, b.at, b.other p, b.displaced p, apart p, far, d.used p, P.at, P.other p);
      spare = λ p lt l. grind (arith, cases_eq p place, cases_eq (get_or rank p 0) live, b.len, b.at, b.other p, d.spare p, P.other p);
    }

-- the place that is emptied comes to the first rank behind those in use
pub empty_divided :
    {X : Type 0} (order rank rank' : List ℕ) (places : List (Option X)) (live place : ℕ)
    → IsRanking order rank → IsDivided rank places (live + 1) → place < length places → get_or places place None ≢ None
    → IsExchanged rank rank' place live
    → IsDivided rank' (set places place None) live
empty_divided order rank rank' places live place w d within full b =
    let P = set_differs places place None None within in
    let lp = length-set places place None in
    let apart : (p : ℕ) → p < length rank → p ≢ place → get_or rank p 0 ≢ get_or rank place 0 =
    λ p lt ne e. ne (rank_apart order rank p place w (omega (arith, w.len, lt)) (omega (arith, w.len, d.len, within)) e) in
    let near : get_or rank place 0 < live + 1 = grind (arith, d.spare place, d.len, within, full) in record {
      len = omega (arith, b.len, d.len, lp);
      used = λ p lt l z. grind (arith, cases_eq p place, cases_eq (get_or rank p 0) live, b.len, b.at, b.other p, d.used p, P.other p);
      spare = λ p lt l. grind (arith, cases_eq p place, cases_eq (get_or rank p 0) live, b.len, b.at, b.other p, b.displaced p, apart p, near, d.spare p, P.at, P.other p);
    }

-- a place in use holds something else
pub reset_divided :
    {X : Type 0} (rank : List ℕ) (places : List (Option X)) (live place : ℕ) (x : X)
    → IsDivided rank places live → place < length places → get_or places place None ≢ None
    → IsDivided rank (set places place (Some x)) live
reset_divided rank places live place x d within full =
    let P = set_differs places place (Some x) None within in record {
      len = d.len ∙ sym (length-set places place (Some x));
      used = λ p lt l z. grind (arith, cases_eq p place, d.used p, P.at, P.other p);
      spare = λ p lt l. grind (arith, cases_eq p place, d.spare p, d.spare place, full, P.other p);
    }

-- one place more, behind the others
pub push_ranking :
    (order rank : List ℕ) → IsRanking order rank → IsRanking (order ++ length order ∷ []) (rank ++ length order ∷ [])
push_ranking order rank w =
    let n = length order in
    let lo = length-pushed order n in
    let O = get_or_push order n in
    let R = get_or_push rank n in record {
      len = omega (arith, w.len, lo, length-pushed rank n);
      back = λ p lt. grind (arith, cases_eq p n, lo, w.len, w.back p, w.rank_in p, O.at, O.other (get_or rank p 0), R.at, R.other p);
      forth = λ i lt. grind (arith, cases_eq i n, lo, w.len, w.forth i, w.order_in i, O.at, O.other i, R.at, R.other (get_or order i 0));
      rank_in = λ p lt. grind (arith, cases_eq p n, lo, w.len, w.rank_in p, R.at, R.other p);
      order_in = λ i lt. grind (arith, cases_eq i n, lo, w.len, w.order_in i, O.at, O.other i);
    }

pub push_divided :
    {X : Type 0} (rank : List ℕ) (places : List (Option X)) (live : ℕ)
    → IsDivided rank places live → live ≤ length places
    → IsDivided (rank ++ length rank ∷ []) (places ++ None ∷ []) live
push_divided rank places live d few =
    let n = length rank in
    let lr = length-pushed rank n in
    let R = get_or_push rank n in
    let P = λ (p : ℕ). get_or_pushed places p None in record {
      len = omega (arith, lr, d.len, length-pushed places None);
      used = λ p lt l z. grind (arith, cases_eq p n, lr, d.len, few, d.used p, R.at, R.other p, P p);
      spare = λ p lt l. grind (arith, cases_eq p n, lr, d.len, get_or_past places p None, d.spare p, R.at, R.other p, P p);
    }
