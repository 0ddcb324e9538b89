-- Which of the points that are up is next.
use Rattle.std.proofs.Common.{◌≡◌, ℕ, zero, suc, ◌+◌, ◌<◌, Bool, true, false, cond, inl, inr, List, [], ◌∷◌, length, Option, Some, None, option_map, Contains, arith, refl, sym, ap, subst, ◌∙◌}
use Rattle.std.specs.Prelude.{nat_le}
use Rattle.std.specs.List.{All, filter}
use Rattle.std.specs.Option.{option_or}
use Rattle.std.proofs.lemmas.Bool.{cases_Bool}
use Rattle.std.proofs.lemmas.List.Elements.{All-nil, All-map, All-append, All-head, All-tail, All-weaker, All-contains, All-contains_itself, All-filter, filter_passes, Contains-append_left, Contains-append_right}
use Rattle.sd_model_settings.specs.Entries.{Node}
use Rattle.sd_model_ring.specs.Ring.{Point, least, next_point, numbers_of_node, points_from, is_up, owner}
use Rattle.sd_model_ring.proofs.Least.{Among, none-among, Contains-head, Contains-none, least-among, no_least-among, least-same, is-least, none-least}
use Rattle.sd_model_ring.proofs.Short.{numbers_of_texts, points_not_below, points_of, points, points_up, points_at, number_of_key}

keeps : {X : Type 0} (t : X → Bool) (y : X) (ys : List X) (x : X) (b : Bool) → Contains (filter t ys) x → Contains (cond b (y ∷ filter t ys) (filter t ys)) x
keeps t y ys x true k = Contains-append_right (y ∷ []) (filter t ys) x k
keeps t y ys x false k = k

first_kept : {X : Type 0} (t : X → Bool) (y : X) (ys : List X) (x : X) → y ≡ x → t x ≡ true → Contains (filter t (y ∷ ys)) x
first_kept t y ys x same passes =
    let is : t y ≡ true = ap t same ∙ passes in
    subst (λ b. Contains (cond b (y ∷ filter t ys) (filter t ys)) x) (sym is) (subst (Contains (y ∷ filter t ys)) same (Contains-head y (filter t ys)))

pub Contains-filter : {X : Type 0} (t : X → Bool) (xs : List X) (x : X) → Contains xs x → t x ≡ true → Contains (filter t xs) x
Contains-filter t [] x c passes = c
Contains-filter t (y ∷ ys) x (zero, lt, same) passes = first_kept t y ys x same passes
Contains-filter t (y ∷ ys) x (suc k, lt, same) passes = keeps t y ys x (t y) (Contains-filter t ys x (k, omega arith, same) passes)

pub Contains-filtered : {X : Type 0} (t : X → Bool) (xs : List X) (x : X) → Contains (filter t xs) x → Contains xs x × (t x ≡ true)
Contains-filtered t xs x c = (
  All-contains (Contains xs) (filter t xs) x (All-filter t (Contains xs) xs (All-contains_itself xs)) c,
  All-contains (λ y. t y ≡ true) (filter t xs) x (filter_passes t xs) c,
)

pub among-filter : (t : Point → Bool) (few many : List Point) → Among few many → Among (filter t few) (filter t many)
among-filter t few many among q c = let was = Contains-filtered t few q c in Contains-filter t many q (among q was.0) was.1

-- the next of many is the next of few that have it
pub next-among : (number : ℕ) (few many : List Point) (p : Point) → Among few many → next_point number many ≡ Some p → Contains few p → next_point number few ≡ Some p
next-among number few many p among e c = go (least (points_not_below number many)) refl
  where
    within : Among (points_not_below number few) (points_not_below number many)
    within = among-filter (λ q. nat_le number q.at) few many among

    go : (o : Option Point) → least (points_not_below number many) ≡ o → next_point number few ≡ Some p
    go None none =
        let last : least many ≡ Some p = sym (ap (λ o. option_or o (least many)) none) ∙ e in
        ap (λ o. option_or o (least few)) (no_least-among _ _ within none) ∙ least-among few many p among last c
    go (Some m) some =
        let same : m ≡ p = let both : Some m ≡ Some p = sym (ap (λ o. option_or o (least many)) some) ∙ e in cc in
        let passes = (Contains-filtered (λ q. nat_le number q.at) many p (subst (Contains (points_not_below number many)) same (is-least _ m some).0)).1 in
        ap (λ o. option_or o (least few)) (least-among _ _ p within (some ∙ ap Some same) (Contains-filter (λ q. nat_le number q.at) few p c passes))

-- the same points have the same next one
pub next-same : (number : ℕ) (ps qs : List Point) → Among ps qs → Among qs ps → next_point number ps ≡ next_point number qs
next-same number ps qs to from =
    (λ i. option_or (least-same (points_not_below number ps) (points_not_below number qs)
    (among-filter (λ q. nat_le number q.at) ps qs to) (among-filter (λ q. nat_le number q.at) qs ps from) i) (least-same ps qs to from i))

-- what is next is one of the points
pub Contains-next : (number : ℕ) (ps : List Point) (p : Point) → next_point number ps ≡ Some p → Contains ps p
Contains-next number ps p e = go (least (points_not_below number ps)) refl
  where
    go : (o : Option Point) → least (points_not_below number ps) ≡ o → Contains ps p
    go None none = (is-least ps p (sym (ap (λ o. option_or o (least ps)) none) ∙ e)).0
    go (Some m) some =
        let same : m ≡ p = let both : Some m ≡ Some p = sym (ap (λ o. option_or o (least ps)) some) ∙ e in cc in
        (Contains-filtered (λ q. nat_le number q.at) ps p (subst (Contains (points_not_below number ps)) same (is-least _ m some).0)).0

-- there is none only where there are no points
pub none-next : (number : ℕ) (ps : List Point) → next_point number ps ≡ None → ps ≡ []
none-next number ps e = go (least (points_not_below number ps)) refl
  where
    go : (o : Option Point) → least (points_not_below number ps) ≡ o → ps ≡ []
    go None none = none-least ps (sym (ap (λ o. option_or o (least ps)) none) ∙ e)
    go (Some m) some = let both : Some m ≡ None = sym (ap (λ o. option_or o (least ps)) some) ∙ e in cc

-- the node of a point
abbrev pub node_of : Option Point → Option ℕ
node_of o = option_map (λ p. p.node) o

point_of : (o : Option Point) (node : ℕ) → node_of o ≡ Some node → (p : Point) × (o ≡ Some p) × (p.node ≡ node)
point_of None node e = cc
point_of (Some p) node e = (p, refl, let same : p.node ≡ node = cc in same)

no_point : (o : Option Point) → node_of o ≡ None → o ≡ None
no_point None e = refl
no_point (Some p) e = cc

-- the point by which a node owns a key
pub owner-point : (key : List ℕ) (nodes : List Node) (up node : ℕ) → owner key nodes up ≡ Some node
    → (p : Point) × (next_point (number_of_key key) (points_up up (points nodes)) ≡ Some p) × (p.node ≡ node)
owner-point key nodes up node e = point_of (next_point (number_of_key key) (points_up up (points nodes))) node e

among-up : (up fewer : ℕ) (ps : List Point) → ((other : ℕ) → is_up fewer other ≡ true → is_up up other ≡ true) → Among (points_up fewer ps) (points_up up ps)
among-up up fewer ps more q c =
    let was = Contains-filtered (λ p. is_up fewer p.node) ps q c in
    Contains-filter (λ p. is_up up p.node) ps q was.0 (more q.node was.1)

pub owner-stays : (key : List ℕ) (nodes : List Node) (up fewer node : ℕ) → ((other : ℕ) → is_up fewer other ≡ true → is_up up other ≡ true)
    → owner key nodes up ≡ Some node → is_up fewer node ≡ true → owner key nodes fewer ≡ Some node
owner-stays key nodes up fewer node more e is =
    let (p, next, at) = owner-point key nodes up node e in
    let there = (Contains-filtered (λ p. is_up up p.node) (points nodes) p (Contains-next _ _ p next)).0 in
    let kept = Contains-filter (λ p. is_up fewer p.node) (points nodes) p there (ap (is_up fewer) at ∙ is) in
    ap node_of (next-among _ _ _ p (among-up up fewer (points nodes) more) next kept) ∙ ap Some at

pub no_owner : (key : List ℕ) (nodes : List Node) (up fewer : ℕ) → ((other : ℕ) → is_up fewer other ≡ true → is_up up other ≡ true)
    → owner key nodes up ≡ None → owner key nodes fewer ≡ None
no_owner key nodes up fewer more e =
    let empty : points_up up (points nodes) ≡ [] = none-next _ _ (no_point (next_point (number_of_key key) (points_up up (points nodes))) e) in
    let rest : points_up fewer (points nodes) ≡ [] = none-among _ _ (among-up up fewer (points nodes) more) empty in
    ap (λ ps. node_of (next_point (number_of_key key) ps)) rest

pub owner-up : (key : List ℕ) (nodes : List Node) (up node : ℕ) → owner key nodes up ≡ Some node → is_up up node ≡ true
owner-up key nodes up node e =
    let (p, next, at) = owner-point key nodes up node e in
    sym (ap (is_up up) at) ∙ (Contains-filtered (λ p. is_up up p.node) (points nodes) p (Contains-next _ _ p next)).1

-- the places of the points of nodes
all_in_place : (place : ℕ) (numbers : List ℕ) → All (λ p. p.node ≡ place) (points_at place numbers)
all_in_place place numbers = All-map (λ p. p.node ≡ place) (λ at. record { at = at; node = place }) numbers (λ k d lt. refl)

in_place : (place : ℕ) (node : Node) → All (λ p. p.node ≡ place) (points_of place node)
in_place place node = all_in_place place (numbers_of_node node)

first_in_place : (place : ℕ) (numbers : List ℕ) → 0 < length numbers → (p : Point) × (p.node ≡ place) × Contains (points_at place numbers) p
first_in_place place [] lt = absurd (let never : ⊥ = omega arith in never)
first_in_place place (at ∷ numbers) lt = (record { at = at; node = place }, refl, Contains-head (record { at = at; node = place }) (points_at place numbers))

some_numbers : (node : Node) (texts : ℕ) → 0 < length (numbers_of_texts node (suc texts))
some_numbers node texts = omega arith

has_point : (place : ℕ) (node : Node) → (p : Point) × (p.node ≡ place) × Contains (points_of place node) p
unfolding numbers_of_node
has_point place node = first_in_place place (numbers_of_texts node 40) (some_numbers node 39)

places_below : (place : ℕ) (nodes : List Node) → All (λ p. p.node < place + length nodes) (points_from place nodes)
places_below place [] = All-nil (λ p. p.node < place + 0)
places_below place (node ∷ nodes) =
    let P : Point → Type 0 = λ p. p.node < place + suc (length nodes) in
    All-append P (points_of place node) (points_from (place + 1) nodes)
    (All-weaker (λ p. p.node ≡ place) P (λ p is. let lt : p.node < place + suc (length nodes) = omega arith in lt) (points_of place node) (in_place place node))
    (All-weaker (λ p. p.node < (place + 1) + length nodes) P (λ p below. let lt : p.node < place + suc (length nodes) = omega arith in lt)
    (points_from (place + 1) nodes) (places_below (place + 1) nodes))

has_points : (place : ℕ) (nodes : List Node) (i : ℕ) → i < length nodes → (p : Point) × (p.node ≡ place + i) × Contains (points_from place nodes) p
has_points place [] i lt = absurd (let never : ⊥ = omega arith in never)
has_points place (node ∷ nodes) zero lt =
    let (p, at, c) = has_point place node in (p, (let same : p.node ≡ place + 0 = omega arith in same), Contains-append_left _ _ p c)
has_points place (node ∷ nodes) (suc i) lt =
    let (p, at, c) = has_points (place + 1) nodes i (omega arith) in (p, (let same : p.node ≡ place + suc i = omega arith in same), Contains-append_right _ _ p c)

pub owner-node : (key : List ℕ) (nodes : List Node) (up node : ℕ) → owner key nodes up ≡ Some node → node < length nodes
owner-node key nodes up node e =
    let (p, next, at) = owner-point key nodes up node e in
    let there = (Contains-filtered (λ p. is_up up p.node) (points nodes) p (Contains-next _ _ p next)).0 in
    let below : p.node < 0 + length nodes = All-contains (λ p. p.node < 0 + length nodes) (points nodes) p (places_below 0 nodes) there in
    omega arith

pub owner-none : (key : List ℕ) (nodes : List Node) (up : ℕ) → owner key nodes up ≡ None → (node : ℕ) → node < length nodes → is_up up node ≡ false
owner-none key nodes up e node lt = elim (cases_Bool (is_up up node)) [
  | inl is ↦
      let (p, at, c) = has_points 0 nodes node lt in
      let empty : points_up up (points nodes) ≡ [] = none-next _ _ (no_point (next_point (number_of_key key) (points_up up (points nodes))) e) in
      let same : p.node ≡ node = omega arith in
      let there = Contains-filter (λ p. is_up up p.node) (points nodes) p c (ap (is_up up) same ∙ is) in
      absurd (Contains-none p (subst (λ ps. Contains ps p) empty there))
  | inr not ↦ not
]

none_kept : {X : Type 0} (t : X → Bool) (xs : List X) → All (λ x. t x ≡ false) xs → filter t xs ≡ []
none_kept t [] all = refl
none_kept t (x ∷ xs) all =
    ap (λ b. cond b (x ∷ filter t xs) (filter t xs)) (All-head (λ x. t x ≡ false) x xs all) ∙ none_kept t xs (All-tail (λ x. t x ≡ false) x xs all)

pub none-owner : (key : List ℕ) (nodes : List Node) (up : ℕ) → ((node : ℕ) → node < length nodes → is_up up node ≡ false) → owner key nodes up ≡ None
none-owner key nodes up down =
    let empty : points_up up (points nodes) ≡ [] =
    none_kept (λ p. is_up up p.node) (points nodes) (All-weaker (λ p. p.node < 0 + length nodes) (λ p. is_up up p.node ≡ false)
    (λ p below. let lt : p.node < length nodes = omega arith in down p.node lt) (points nodes) (places_below 0 nodes))
    in ap (λ ps. node_of (next_point (number_of_key key) ps)) empty

kept_same : {X : Type 0} (t s : X → Bool) (xs : List X) → All (λ x. t x ≡ s x) xs → filter t xs ≡ filter s xs
kept_same t s [] all = refl
kept_same t s (x ∷ xs) all =
    (λ i. cond (All-head (λ x. t x ≡ s x) x xs all i) (x ∷ kept_same t s xs (All-tail (λ x. t x ≡ s x) x xs all) i) (kept_same t s xs (All-tail (λ x. t x ≡ s x) x xs all) i))

pub same-bits : (key : List ℕ) (nodes : List Node) (up also : ℕ) → ((node : ℕ) → node < length nodes → is_up up node ≡ is_up also node) → owner key nodes up ≡ owner key nodes also
same-bits key nodes up also same =
    let agree : All (λ p. is_up up p.node ≡ is_up also p.node) (points nodes) =
    All-weaker (λ p. p.node < 0 + length nodes) (λ p. is_up up p.node ≡ is_up also p.node)
    (λ p below. let lt : p.node < length nodes = omega arith in same p.node lt) (points nodes) (places_below 0 nodes)
    in ap (λ ps. node_of (next_point (number_of_key key) ps)) (kept_same (λ p. is_up up p.node) (λ p. is_up also p.node) (points nodes) agree)
