-- Which node owns a key, told without the ring's order.
use Rattle.std.proofs.Common.{◌≡◌, ◌↔◌, ℕ, zero, suc, ◌+◌, ◌≤◌, true, inl, inr, List, [], ◌∷◌, Option, Some, None, option_map, Contains, slice_get, arith, refl, sym, ap, subst, ◌∙◌}
use Rattle.std.specs.Prelude.{nat_le}
use Rattle.std.specs.Option.{option_or, option_and_then}
use Rattle.std.proofs.lemmas.List.Elements.{All-contains, Contains-append_left, Contains-append_right, Contains-append_cases}
use Rattle.sd_model_settings.specs.Entries.{Node}
use Rattle.sd_model_ring.specs.Ring.{Point, least, next_point, numbers_of_node, points_from, is_up}
use Rattle.sd_law_run.specs.Nodes.{owning_node, IsUpAmong, ShareANumber}
use Rattle.sd_model_ring.proofs.Least.{Contains-head, Contains-none, is-least, none-least, not_greater}
use Rattle.sd_model_ring.proofs.Owners.{Contains-filter, Contains-filtered, Contains-next, none-next}
use Rattle.sd_model_ring.proofs.Short.{points_not_below, points_of, points, points_up, points_at, number_of_key, comes_first}

-- each number of these is one of those
abbrev Covers : List Point → List Point → Type 0
Covers ps qs = (p : Point) → Contains ps p → (q : Point) × Contains qs q × (q.at ≡ p.at)

none_covered : (ps qs : List Point) → Covers ps qs → qs ≡ [] → ps ≡ []
none_covered [] qs cover e = refl
none_covered (p ∷ ps) qs cover e =
    let (q, there, same) = cover p (Contains-head p ps) in absurd (Contains-none q (subst (λ l. Contains l q) e there))

-- then the least have one number
least_covered : (ps qs : List Point) → Covers ps qs → Covers qs ps → (p : Point) → least ps ≡ Some p → (q : Point) × (least qs ≡ Some q) × (q.at ≡ p.at)
least_covered ps qs to from p e = go (least qs) refl
  where
    go : (o : Option Point) → least qs ≡ o → (q : Point) × (least qs ≡ Some q) × (q.at ≡ p.at)
    go None none =
        let l = is-least ps p e in
        absurd (Contains-none p (subst (λ l. Contains l p) (none_covered ps qs to (none-least qs none)) l.0))
    go (Some q) some =
        let l = is-least ps p e in
        let m = is-least qs q some in
        let (r, r_there, r_same) = to p l.0 in
        let (s, s_there, s_same) = from q m.0 in
        let low : q.at ≤ r.at = not_greater q r (All-contains (λ x. comes_first q x ≡ true) qs r m.1 r_there) in
        let high : p.at ≤ s.at = not_greater p s (All-contains (λ x. comes_first p x ≡ true) ps s l.1 s_there) in
        (q, some, omega arith)

not_below_covered : (number : ℕ) (ps qs : List Point) → Covers ps qs → Covers (points_not_below number ps) (points_not_below number qs)
not_below_covered number ps qs cover p there =
    let was = Contains-filtered (λ r. nat_le number r.at) ps p there in
    let (q, q_there, same) = cover p was.0 in
    (q, Contains-filter (λ r. nat_le number r.at) qs q q_there (ap (nat_le number) same ∙ was.1), same)

-- and so have the next
next_covered : (number : ℕ) (ps qs : List Point) → Covers ps qs → Covers qs ps → (p : Point) → next_point number ps ≡ Some p
    → (q : Point) × (next_point number qs ≡ Some q) × (q.at ≡ p.at)
next_covered number ps qs to from p e = go (least (points_not_below number ps)) refl
  where
    go : (o : Option Point) → least (points_not_below number ps) ≡ o → (q : Point) × (next_point number qs ≡ Some q) × (q.at ≡ p.at)
    go None none =
        let last : least ps ≡ Some p = sym (ap (λ o. option_or o (least ps)) none) ∙ e in
        let empty = none_covered (points_not_below number qs) (points_not_below number ps) (not_below_covered number qs ps from) (none-least (points_not_below number ps) none) in
        let (q, is, same) = least_covered ps qs to from p last in
        (q, ap (λ l. option_or (least l) (least qs)) empty ∙ is, same)
    go (Some m) some =
        let found : m ≡ p = let both : Some m ≡ Some p = sym (ap (λ o. option_or o (least ps)) some) ∙ e in cc in
        let (q, is, same) = least_covered (points_not_below number ps) (points_not_below number qs) (not_below_covered number ps qs to) (not_below_covered number qs ps from) p (some ∙ ap Some found) in
        (q, ap (λ o. option_or o (least qs)) is, same)

-- a point of nodes that stand from a place on is one of a node among them
abbrev IsOfNode : ℕ → List Node → Point → Type 0
IsOfNode place nodes p = (i : ℕ) × (node : Node) × (p.node ≡ place + i) × (slice_get nodes i ≡ Some node) × Contains (numbers_of_node node) p.at

numbered : (place : ℕ) (numbers : List ℕ) (p : Point) → Contains (points_at place numbers) p → (p.node ≡ place) × Contains numbers p.at
numbered place [] p there = absurd (Contains-none p there)
numbered place (n ∷ ns) p (zero, lt, is) = (sym (ap (λ q. q.node) is), (0, omega arith, ap (λ q. q.at) is))
numbered place (n ∷ ns) p (suc k, lt, is) = let (at, (j, less, same)) = numbered place ns p (k, omega arith, is) in (at, (suc j, omega arith, same))

has_number : (place : ℕ) (numbers : List ℕ) (n : ℕ) → Contains numbers n → Contains (points_at place numbers) (record { at = n; node = place })
has_number place [] n there = absurd (Contains-none n there)
has_number place (m ∷ ms) n (zero, lt, is) = (0, omega arith, ap (λ at. record { at = at; node = place }) is)
has_number place (m ∷ ms) n (suc k, lt, is) = let (j, less, same) = has_number place ms n (k, omega arith, is) in (suc j, omega arith, same)

of_node : (place : ℕ) (nodes : List Node) (p : Point) → Contains (points_from place nodes) p → IsOfNode place nodes p
of_node place [] p there = absurd (Contains-none p there)
of_node place (node ∷ nodes) p there = elim (Contains-append_cases (points_of place node) (points_from (place + 1) nodes) p there) [
  | inl here ↦ let (at, has) = numbered place (numbers_of_node node) p here in (0, node, (let same : p.node ≡ place + 0 = omega arith in same), refl, has)
  | inr later ↦
      let (i, other, at, is, has) = of_node (place + 1) nodes p later in
      (suc i, other, (let same : p.node ≡ place + suc i = omega arith in same), is, has)
]

has_its_number : (place : ℕ) (nodes : List Node) (i n : ℕ) (node : Node) → slice_get nodes i ≡ Some node → Contains (numbers_of_node node) n
    → (p : Point) × (p.at ≡ n) × (p.node ≡ place + i) × Contains (points_from place nodes) p
has_its_number place [] i n node is has = cc
has_its_number place (first ∷ nodes) zero n node is has =
    let same : first ≡ node = cc in (
      record { at = n; node = place },
      refl,
      omega arith,
      Contains-append_left (points_of place first) (points_from (place + 1) nodes) _ (has_number place (numbers_of_node first) n (subst (λ m. Contains (numbers_of_node m) n) (sym same) has)),
    )
has_its_number place (first ∷ nodes) (suc i) n node is has =
    let (p, at, here, there) = has_its_number (place + 1) nodes i n node is has in
    (p, at, omega arith, Contains-append_right (points_of place first) (points_from (place + 1) nodes) p there)

-- the node of a point that is up
up_node : (nodes : List Node) (up : ℕ) (p : Point) → Contains (points_up up (points nodes)) p
    → (node : Node) × (slice_get nodes p.node ≡ Some node) × (is_up up p.node ≡ true) × Contains (numbers_of_node node) p.at
up_node nodes up p there =
    let was = Contains-filtered (λ q. is_up up q.node) (points nodes) p there in
    let (i, node, at, is, has) = of_node 0 nodes p was.0 in
    let here : p.node ≡ i = omega arith in
    (node, ap (slice_get nodes) here ∙ is, was.1, has)

covered : (nodes others : List Node) (up also : ℕ) → ((node : Node) → IsUpAmong nodes up node → IsUpAmong others also node)
    → Covers (points_up up (points nodes)) (points_up also (points others))
covered nodes others up also same p there =
    let (node, is, high, has) = up_node nodes up p there in
    let (i, other, higher) = same node (p.node, is, high) in
    let (q, at, here, stands) = has_its_number 0 others i p.at node other has in
    let place : q.node ≡ i = omega arith in
    (q, Contains-filter (λ r. is_up also r.node) (points others) q stands (ap (is_up also) place ∙ higher), at)

pub owning-same : (key : List ℕ) (nodes others : List Node) (up also : ℕ)
    → ((node : Node) → IsUpAmong nodes up node ↔ IsUpAmong others also node)
    → ((a b : Node) → IsUpAmong nodes up a → IsUpAmong nodes up b → ShareANumber a b → a ≡ b)
    → owning_node key nodes up ≡ owning_node key others also
owning-same key nodes others up also same apart = go (next_point number ps) refl
  where
    number : ℕ
    number = number_of_key key

    ps : List Point
    ps = points_up up (points nodes)

    qs : List Point
    qs = points_up also (points others)

    owning : List Node → Option Point → Option Node
    owning l o = option_and_then (slice_get l) (option_map (λ p. p.node) o)

    to : Covers ps qs
    to = covered nodes others up also (λ node. (same node).0)

    from : Covers qs ps
    from = covered others nodes also up (λ node. (same node).1)

    go : (o : Option Point) → next_point number ps ≡ o → owning_node key nodes up ≡ owning_node key others also
    go None none =
        let empty : qs ≡ [] = none_covered qs ps from (none-next number ps none) in
        ap (owning nodes) none ∙ sym (ap (λ l. owning others (next_point number l)) empty)
    go (Some p) some =
        let (q, is, at) = next_covered number ps qs to from p some in
        let (a, a_stands, a_up, a_has) = up_node nodes up p (Contains-next number ps p some) in
        let (b, b_stands, b_up, b_has) = up_node others also q (Contains-next number qs q is) in
        let one : a ≡ b = apart a b (p.node, a_stands, a_up) ((same b).1 (q.node, b_stands, b_up)) (p.at, a_has, subst (Contains (numbers_of_node b)) at b_has) in
        ap (owning nodes) some ∙ a_stands ∙ ap Some one ∙ sym b_stands ∙ sym (ap (owning others) is)
