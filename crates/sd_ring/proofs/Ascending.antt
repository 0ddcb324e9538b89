-- Where points ascend, the least of those that pass is the first of them.
use Rattle.std.proofs.Common.{◌≡◌, ℕ, zero, suc, ◌+◌, ◌<◌, ◌≤◌, Bool, true, false, cond, inl, inr, List, [], ◌∷◌, ◌++◌, length, take, drop, get_or, Option, Some, None, option_map, arith, refl, sym, ap, subst, ◌∙◌}
use Rattle.std.specs.Prelude.{nat_lt, nat_le}
use Rattle.std.specs.List.{All, filter, find}
use Rattle.std.specs.Option.{option_or}
use Rattle.std.specs.List.Sorted.{IsNonDecreasingBy, IsPartitionPoint, IsSortedBy}
use Rattle.std.specs.Ordering.{nat_cmp, is_lt, ordering_then}
use Rattle.std.proofs.lemmas.Bool.{cases_Bool}
use Rattle.std.proofs.lemmas.List.Elements.{All-nil, All-cons, All-head, All-tail, All-filter, All-take, All-weaker, filter-append}
use Rattle.std.proofs.lemmas.List.{get_or-take, get_or-drop, take-append-drop, append-nil, length-take, length-drop}
use Rattle.sd_model_ring.specs.Ring.{Point, least, next_point, is_up}
use Rattle.sd_model_ring.proofs.Least.{Contains-head, comes-itself, comes-through, least-is, not_greater}
use Rattle.sd_ring.specs.Points.{Ascends, first_up}
use Rattle.sd_model_ring.proofs.Short.{points_up, comes_first}

-- the least of those that pass is the first that passes
pub least-find : (t : Point → Bool) (ps : List Point) → Ascends ps → least (filter t ps) ≡ find t ps
least-find t [] up = refl
least-find t (p ∷ ps) up = elim (cases_Bool (t p)) [
  | inl is ↦
      let first : least (p ∷ filter t ps) ≡ Some p =
      least-is (p ∷ filter t ps) p
      (Contains-head p (filter t ps), All-cons (λ q. comes_first p q ≡ true) p (filter t ps) (comes-itself p) (All-filter t (λ q. comes_first p q ≡ true) ps up.0))
      in ap (λ b. least (cond b (p ∷ filter t ps) (filter t ps))) is ∙ first ∙ sym (ap (λ b. cond b (Some p) (find t ps)) is)
  | inr not ↦
      ap (λ b. least (cond b (p ∷ filter t ps) (filter t ps))) not ∙ least-find t ps up.1 ∙ sym (ap (λ b. cond b (Some p) (find t ps)) not)
]

pub Ascends-take : (n : ℕ) (ps : List Point) → Ascends ps → Ascends (take n ps)
Ascends-take zero ps up = tt
Ascends-take (suc n) [] up = up
Ascends-take (suc n) (p ∷ ps) up = (All-take (λ q. comes_first p q ≡ true) n ps up.0, Ascends-take n ps up.1)

pub Ascends-drop : (n : ℕ) (ps : List Point) → Ascends ps → Ascends (drop n ps)
Ascends-drop zero ps up = up
Ascends-drop (suc n) [] up = up
Ascends-drop (suc n) (p ∷ ps) up = Ascends-drop n ps up.1

-- their numbers ascend
pub Ascends-numbers : (ps : List Point) → Ascends ps → IsNonDecreasingBy (λ p. p.at) ps
Ascends-numbers [] up i j d le lt = absurd (let never : ⊥ = omega arith in never)
Ascends-numbers (p ∷ ps) up zero zero d le lt = omega arith
Ascends-numbers (p ∷ ps) up zero (suc j) d le lt = not_greater p (get_or ps j d) (up.0 j d (omega arith))
Ascends-numbers (p ∷ ps) up (suc i) zero d le lt = absurd (let never : ⊥ = omega arith in never)
Ascends-numbers (p ∷ ps) up (suc i) (suc j) d le lt = Ascends-numbers ps up.1 i j d (omega arith) (omega arith)

none_pass : (t : Point → Bool) (ps : List Point) → All (λ p. t p ≡ false) ps → filter t ps ≡ []
none_pass t [] all = refl
none_pass t (p ∷ ps) all =
    ap (λ b. cond b (p ∷ filter t ps) (filter t ps)) (All-head (λ p. t p ≡ false) p ps all) ∙ none_pass t ps (All-tail (λ p. t p ≡ false) p ps all)

all_pass : (t : Point → Bool) (ps : List Point) → All (λ p. t p ≡ true) ps → filter t ps ≡ ps
all_pass t [] all = refl
all_pass t (p ∷ ps) all =
    ap (λ b. cond b (p ∷ filter t ps) (filter t ps)) (All-head (λ p. t p ≡ true) p ps all) ∙ ap (λ qs. p ∷ qs) (all_pass t ps (All-tail (λ p. t p ≡ true) p ps all))

-- points that are below a number, and then points that aren't
pub next-behind : (number up : ℕ) (below above : List Point) → All (λ p. nat_le number p.at ≡ false) below → All (λ p. nat_le number p.at ≡ true) above
    → next_point number (points_up up (below ++ above)) ≡ option_or (least (points_up up above)) (least (points_up up below))
next-behind number up below above low high =
    let t : Point → Bool = λ p. is_up up p.node in
    let s : Point → Bool = λ p. nat_le number p.at in
    let both : points_up up (below ++ above) ≡ points_up up below ++ points_up up above = filter-append t below above in
    let tail : filter s (points_up up below ++ points_up up above) ≡ points_up up above =
    filter-append s (points_up up below) (points_up up above)
    ∙ ap (λ prefix. prefix ++ filter s (points_up up above)) (none_pass s (points_up up below) (All-filter t (λ p. s p ≡ false) below low))
    ∙ all_pass s (points_up up above) (All-filter t (λ p. s p ≡ true) above high)
    in
    ap (λ ps. option_or (least (filter s ps)) (least ps)) both ∙ ap (λ ps. option_or (least ps) (least (points_up up below ++ points_up up above))) tail
    ∙ wrap (points_up up above) (points_up up below)
  where
    wrap : (above below : List Point) → option_or (least above) (least (below ++ above)) ≡ option_or (least above) (least below)
    wrap [] below = ap least (append-nil below)
    wrap (p ∷ ps) below = refl

below_at : (number : ℕ) (p : Point) → nat_lt p.at number ≡ true → nat_le number p.at ≡ false
below_at number p h = grind arith

above_at : (number : ℕ) (p : Point) → nat_lt p.at number ≡ false → nat_le number p.at ≡ true
above_at number p h = grind arith

-- the next of points that ascend, by where those begin that aren't below the number
pub next-Ascends : (number up start : ℕ) (ps : List Point) → Ascends ps → start ≤ length ps
    → IsPartitionPoint (λ p. nat_lt p.at number ≡ true) (λ p. nat_lt p.at number ≡ false) ps start
    → option_map (λ p. p.node) (next_point number (points_up up ps)) ≡ option_or (first_up up (drop start ps)) (first_up up (take start ps))
next-Ascends number up start ps asc within point =
    let t : Point → Bool = λ p. is_up up p.node in
    let low : All (λ p. nat_le number p.at ≡ false) (take start ps) = λ k d lt. prefix k d (let less : k < start = omega (arith, length-take start ps) in less) in
    let high : All (λ p. nat_le number p.at ≡ true) (drop start ps) = λ k d lt. back k d (let less : start + k < length ps = omega (arith, length-drop start ps) in less) in
    ap (λ qs. option_map (λ p. p.node) (next_point number (points_up up qs))) (sym (take-append-drop start ps))
    ∙ ap (option_map (λ p. p.node)) (next-behind number up (take start ps) (drop start ps) low high)
    ∙ mapped (least (points_up up (drop start ps))) (least (points_up up (take start ps)))
    ∙ (λ i. option_or (option_map (λ p. p.node) (least-find t (drop start ps) (Ascends-drop start ps asc) i)) (option_map (λ p. p.node) (least-find t (take start ps) (Ascends-take start ps asc) i)))
  where
    mapped : (a b : Option Point) → option_map (λ p. p.node) (option_or a b) ≡ option_or (option_map (λ p. p.node) a) (option_map (λ p. p.node) b)
    mapped None b = refl
    mapped (Some p) b = refl

    prefix : (k : ℕ) (d : Point) → k < start → nat_le number (get_or (take start ps) k d).at ≡ false
    prefix k d less = ap (λ p. nat_le number p.at) (get_or-take start ps k d less) ∙ below_at number (get_or ps k d) (point.0 k d (omega arith) less)

    back : (k : ℕ) (d : Point) → start + k < length ps → nat_le number (get_or (drop start ps) k d).at ≡ true
    back k d less = ap (λ p. nat_le number p.at) (get_or-drop start ps k d) ∙ above_at number (get_or ps (start + k) d) (point.1 (start + k) d (omega arith) less)

-- each of two neighbours comes before the other
adjacent : (ps : List Point) → ((k : ℕ) (d : Point) → k + 1 < length ps → comes_first (get_or ps k d) (get_or ps (k + 1) d) ≡ true) → Ascends ps
adjacent [] near = tt
adjacent (p ∷ []) near = (All-nil (λ q. comes_first p q ≡ true), tt)
adjacent (p ∷ q ∷ qs) near =
    let rest : Ascends (q ∷ qs) = adjacent (q ∷ qs) (λ k d lt.
    subst (λ n. comes_first (get_or (q ∷ qs) k d) (get_or (p ∷ q ∷ qs) n d) ≡ true) (let same : suc k + 1 ≡ suc (k + 1) = omega arith in same) (near (suc k) d (omega arith))) in
    let first : comes_first p q ≡ true = near 0 p (omega arith) in (
      All-cons (λ r. comes_first p r ≡ true) q qs first
          (All-weaker (λ r. comes_first q r ≡ true) (λ r. comes_first p r ≡ true) (λ r h. comes-through p q r first h) qs rest.0),
      rest,
    )

-- what a sort leaves ascends
pub Ascends-from_sorted : (lt : Point → Point → Bool) → ((p q : Point) → lt q p ≡ false → comes_first p q ≡ true) → (ps : List Point) → IsSortedBy lt ps → Ascends ps
Ascends-from_sorted lt order ps sorted = adjacent ps (λ k d less. order (get_or ps k d) (get_or ps (k + 1) d) (sorted k d (omega arith) less))

-- points compare by their numbers, and then by their places
pub compared : (p q : Point) → is_lt (ordering_then (nat_cmp q.at p.at) (nat_cmp q.node p.node)) ≡ false → comes_first p q ≡ true
compared p q h = grind arith
