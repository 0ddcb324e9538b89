-- The least of points is the one that comes first of them all.
use Rattle.std.proofs.Common.{◌≡◌, ◌<◌, ◌≤◌, true, false, cond, ◌⊎◌, inl, inr, List, [], ◌∷◌, Option, Some, None, Contains, arith, refl, sym, ap, subst, ◌∙◌}
use Rattle.std.specs.List.{All}
use Rattle.std.specs.Option.{option_map_or}
use Rattle.std.proofs.lemmas.Bool.{cases_Bool}
use Rattle.std.proofs.lemmas.List.Elements.{All-nil, All-cons, All-weaker, All-contains, All-contains_itself, Contains-append_right}
use Rattle.sd_model_ring.specs.Ring.{Point, least}
use Rattle.sd_model_ring.proofs.Short.{lesser, comes_first}

-- what it is that a point comes first
abbrev pub Precedes : Point → Point → Type 0
Precedes p q = (p.at < q.at) ⊎ ((p.at ≡ q.at) × (p.node ≤ q.node))

pub precedes : (p q : Point) → comes_first p q ≡ true → Precedes p q
precedes p q h = grind arith

pub comes : (p q : Point) → Precedes p q → comes_first p q ≡ true
comes p q h = grind arith

pub comes-itself : (p : Point) → comes_first p p ≡ true
comes-itself p = comes p p (inr (refl, omega arith))

pub comes-other : (p q : Point) → comes_first p q ≡ false → comes_first q p ≡ true
comes-other p q h = grind arith

pub comes-through : (p q r : Point) → comes_first p q ≡ true → comes_first q r ≡ true → comes_first p r ≡ true
comes-through p q r h k = grind arith

same_parts : (p q : Point) → p.at ≡ q.at → p.node ≡ q.node → p ≡ q
same_parts p q a n = (λ i. record { at = a i; node = n i })

pub comes-both : (p q : Point) → comes_first p q ≡ true → comes_first q p ≡ true → p ≡ q
comes-both p q h k =
    let a : p.at ≡ q.at = grind arith in
    let n : p.node ≡ q.node = grind arith in
    same_parts p q a n

-- a point that comes first isn't greater
pub not_greater : (p q : Point) → comes_first p q ≡ true → p.at ≤ q.at
not_greater p q h = elim (precedes p q h) [ inl lt ↦ omega arith | inr same ↦ omega (arith, same.0) ]

-- the point is among these, and comes first of them all
abbrev pub IsLeast : List Point → Point → Type 0
IsLeast ps p = Contains ps p × All (λ q. comes_first p q ≡ true) ps

pub Contains-head : {X : Type 0} (x : X) (xs : List X) → Contains (x ∷ xs) x
Contains-head x xs = (0, omega arith, refl)

pub Contains-none : {X : Type 0} (x : X) → Contains [] x → ⊥
Contains-none x (k, lt, is) = omega arith

lesser-cases : (p q : Point) → ((lesser p q ≡ p) × (comes_first p q ≡ true)) ⊎ ((lesser p q ≡ q) × (comes_first q p ≡ true))
lesser-cases p q =
    elim (cases_Bool (comes_first p q)) [
      | inl is ↦ inl (ap (λ b. cond b p q) is, is)
      | inr not ↦ inr (ap (λ b. cond b p q) not, comes-other p q not)
    ]

with_first : (p : Point) (ps : List Point) (m : Point) → IsLeast ps m → IsLeast (p ∷ ps) (lesser p m)
with_first p ps m l =
    elim (lesser-cases p m) [
      | inl (same, first) ↦ subst (IsLeast (p ∷ ps)) (sym same) (
        Contains-head p ps,
        All-cons (λ q. comes_first p q ≡ true) p ps (comes-itself p)
            (All-weaker (λ q. comes_first m q ≡ true) (λ q. comes_first p q ≡ true) (λ q h. comes-through p m q first h) ps l.1),
      )
      | inr (same, first) ↦ subst (IsLeast (p ∷ ps)) (sym same)
          (Contains-append_right (p ∷ []) ps m l.0, All-cons (λ q. comes_first m q ≡ true) p ps first l.1)
    ]

first_of : (p : Point) (ps : List Point) → IsLeast (p ∷ ps) (option_map_or (lesser p) (least ps) p)
first_of p [] = (Contains-head p [], All-cons (λ q. comes_first p q ≡ true) p [] (comes-itself p) (All-nil (λ q. comes_first p q ≡ true)))
first_of p (q ∷ qs) = with_first p (q ∷ qs) (option_map_or (lesser q) (least qs) q) (first_of q qs)

-- there is no other
least-unique : (ps : List Point) (p q : Point) → IsLeast ps p → IsLeast ps q → p ≡ q
least-unique ps p q l m =
    comes-both p q (All-contains (λ r. comes_first p r ≡ true) ps q l.1 m.0) (All-contains (λ r. comes_first q r ≡ true) ps p m.1 l.0)

pub least-is : (ps : List Point) (p : Point) → IsLeast ps p → least ps ≡ Some p
least-is [] p l = absurd (Contains-none p l.0)
least-is (q ∷ qs) p l = ap Some (least-unique (q ∷ qs) _ p (first_of q qs) l)

pub is-least : (ps : List Point) (p : Point) → least ps ≡ Some p → IsLeast ps p
is-least [] p e = cc
is-least (q ∷ qs) p e = let same : option_map_or (lesser q) (least qs) q ≡ p = cc in subst (IsLeast (q ∷ qs)) same (first_of q qs)

pub none-least : (ps : List Point) → least ps ≡ None → ps ≡ []
none-least [] e = refl
none-least (q ∷ qs) e = cc

-- each of these is one of those
abbrev pub Among : List Point → List Point → Type 0
Among few many = (q : Point) → Contains few q → Contains many q

all-among : (P : Point → Type 0) (few many : List Point) → Among few many → All P many → All P few
all-among P few many among all = All-weaker (Contains few) P (λ q c. All-contains P many q all (among q c)) few (All-contains_itself few)

-- the least of many is the least of few that have it
pub least-among : (few many : List Point) (p : Point) → Among few many → least many ≡ Some p → Contains few p → least few ≡ Some p
least-among few many p among e c = least-is few p (c, all-among (λ q. comes_first p q ≡ true) few many among (is-least many p e).1)

pub none-among : (few many : List Point) → Among few many → many ≡ [] → few ≡ []
none-among [] many among e = refl
none-among (q ∷ qs) many among e = absurd (Contains-none q (subst (λ l. Contains l q) e (among q (Contains-head q qs))))

-- and where there is none of many, there is none of few
pub no_least-among : (few many : List Point) → Among few many → least many ≡ None → least few ≡ None
no_least-among few many among e = ap least (none-among few many among (none-least many e))

-- the same points have the same least one
pub least-same : (ps qs : List Point) → Among ps qs → Among qs ps → least ps ≡ least qs
least-same ps qs to from = go (least qs) refl
  where
    go : (o : Option Point) → least qs ≡ o → least ps ≡ least qs
    go None e = no_least-among ps qs to e ∙ sym e
    go (Some m) e = least-among ps qs m to e (from m (is-least qs m e).0) ∙ sym e
