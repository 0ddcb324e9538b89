-- Lemmas on rows and their index.
use Rattle.std.proofs.Common.{◌≡◌, ◌≢◌, ℕ, ◌+◌, ◌<◌, ◌≤◌, inl, inr, ◌∙◌, sym, ap, subst, List, [], ◌∷◌, ◌++◌, length, get_or, set, Option, Some, None, ◌==◌, max, IsTrue, refl, arith}
use Rattle.std.proofs.lemmas.Bool.{cases_eq, cases_lt}
use Rattle.std.proofs.lemmas.Grind.{common_steps}
use Rattle.sd_key.specs.declared.kind.Kind.{Kind}
use Rattle.sd_rows.specs.declared.row.Row.{Row}
use Rattle.sd_rows.specs.Hash.{hash_of}
use Rattle.sd_rows.specs.Heads.{hash_at, AreHashed}
use Rattle.sd_rows.specs.Index.{home_by, home_in, IsIndex}
use Rattle.sd_rows.specs.Rows.{Holds, IsAbsent, AreApart, reset}
use Rattle.sd_rows.proofs.IndexLemmas.{set_differs, present_within, get_or_pushed}

pub holds_hash : (seed : ℕ) (kind : Kind) (key : List ℕ) (o : Option Row) → Holds kind key o → hash_at seed o ≡ Some (hash_of seed kind key)
holds_hash seed kind key None h = absurd h
holds_hash seed kind key (Some row) h = rw (h.0, h.1)

-- no place whose cell is behind holds the row
abbrev pub IsBehind : List ℕ → List (Option Row) → Kind → List ℕ → ℕ → Type 0
IsBehind own places kind key cell = (p : ℕ) → get_or own p 0 < cell → Holds kind key (get_or places p None) → ⊥

-- the place of a row that is there is named by its own cell, with the row's hash
pub named_by_hash :
    (cells : List (Option ℕ)) (tags own : List ℕ) (hashes : List (Option ℕ)) (homes seed : ℕ) (places : List (Option Row)) (kind : Kind) (key : List ℕ) (p : ℕ)
    → IsIndex cells tags own hashes homes → AreHashed seed hashes places → Holds kind key (get_or places p None)
    → (get_or cells (get_or own p 0) None ≡ Some p) × (home_in homes (get_or hashes p None) ≡ Some (home_by homes (hash_of seed kind key)))
    × (get_or tags (get_or own p 0) 0 ≡ hash_of seed kind key)
named_by_hash cells tags own hashes homes seed places kind key p w hashed h =
    let e : get_or hashes p None ≡ Some (hash_of seed kind key) = hashed p ∙ holds_hash seed kind key _ h in
    let home : home_in homes (get_or hashes p None) ≡ Some (home_by homes (hash_of seed kind key)) = ap (home_in homes) e in
    let n = w.probed.named p _ home in
    let t : Some (get_or tags (get_or own p 0) 0) ≡ Some (hash_of seed kind key) = sym (w.tagged _ p n) ∙ e in
    (n, home, grind (arith, t))

pub find_step :
    (cells : List (Option ℕ)) (tags own : List ℕ) (hashes : List (Option ℕ)) (homes seed : ℕ) (places : List (Option Row)) (kind : Kind) (key : List ℕ) (cell q : ℕ)
    → IsIndex cells tags own hashes homes → AreHashed seed hashes places
    → IsBehind own places kind key cell
    → get_or cells cell None ≡ Some q
    → (get_or tags cell 0 ≡ hash_of seed kind key → Holds kind key (get_or places q None) → ⊥)
    → IsBehind own places kind key (cell + 1)
find_step cells tags own hashes homes seed places kind key cell q w hashed behind here other p lt h =
    let n = named_by_hash cells tags own hashes homes seed places kind key p w hashed h in
    elim (cases_lt (get_or own p 0) cell) as (λ _. ⊥) [
      | inl l ↦ behind p l h
      | inr l ↦
          let same : get_or own p 0 ≡ cell = omega arith in
          let at : get_or cells cell None ≡ Some p = subst (λ c. get_or cells c None ≡ Some p) same n.0 in
          let is : p ≡ q = grind (arith, at, here) in
          other (subst (λ c. get_or tags c 0 ≡ hash_of seed kind key) same n.2) (subst (λ i. Holds kind key (get_or places i None)) is h)
    ]

pub find_absent :
    (cells : List (Option ℕ)) (tags own : List ℕ) (hashes : List (Option ℕ)) (homes seed : ℕ) (places : List (Option Row)) (kind : Kind) (key : List ℕ) (cell : ℕ)
    → IsIndex cells tags own hashes homes → AreHashed seed hashes places
    → home_by homes (hash_of seed kind key) ≤ cell
    → IsBehind own places kind key cell
    → get_or cells cell None ≡ None
    → IsAbsent kind key places
find_absent cells tags own hashes homes seed places kind key cell w hashed from behind empty p h =
    let n = named_by_hash cells tags own hashes homes seed places kind key p w hashed h in
    elim (cases_lt (get_or own p 0) cell) as (λ _. ⊥) [
      | inl l ↦ behind p l h
      | inr l ↦ elim (cases_eq (get_or own p 0) cell) as (λ _. ⊥) [
        | inl same ↦
            let at : get_or cells cell None ≡ Some p = subst (λ c. get_or cells c None ≡ Some p) same n.0 in
            grind (arith, at, empty)
        | inr ne ↦ w.probed.walk p _ cell n.1 from (omega arith) empty
      ]
    ]

-- a row that is absent goes into an empty place
pub fill_hashed :
    (seed : ℕ) (hashes : List (Option ℕ)) (places : List (Option Row)) (at : ℕ) (row : Row)
    → AreHashed seed hashes places → length places ≡ length hashes → at < length places
    → AreHashed seed (set hashes at (Some (hash_of seed row.kind row.key))) (set places at (Some row))
fill_hashed seed hashes places at row w len within p =
    let t = hash_of seed row.kind row.key in
    let H = set_differs hashes at (Some t) None (omega (arith, len)) in
    let P = set_differs places at (Some row) None within in
    elim (cases_eq p at) as (λ _. get_or (set hashes at (Some t)) p None ≡ hash_at seed (get_or (set places at (Some row)) p None)) [
      | inl e ↦ rw (e, H.at, P.at)
      | inr ne ↦ rw (H.other p ne, P.other p ne) (w p)
    ]

pub fill_apart :
    (places : List (Option Row)) (at : ℕ) (row : Row)
    → AreApart places → IsAbsent row.kind row.key places → at < length places
    → AreApart (set places at (Some row))
fill_apart places at row w absent within p q kind key hp hq =
    let P = set_differs places at (Some row) None within in
    let matched : (i : ℕ) → i ≡ at → Holds kind key (get_or (set places at (Some row)) i None) → (row.kind ≡ kind) × (row.key ≡ key) =
    λ i e h. subst (Holds kind key) (ap (λ j. get_or (set places at (Some row)) j None) e ∙ P.at) h in
    let clash : (i j : ℕ) → i ≡ at → j ≢ at → Holds kind key (get_or (set places at (Some row)) i None) → Holds kind key (get_or (set places at (Some row)) j None) → ⊥ =
    λ i j e ne hi hj.
    let same = matched i e hi in
    let old : Holds kind key (get_or places j None) = subst (Holds kind key) (P.other j ne) hj in
    absent j (subst (λ k. Holds k row.key (get_or places j None)) (sym same.0) (subst (λ x. Holds kind x (get_or places j None)) (sym same.1) old)) in
    elim (cases_eq p at) as (λ _. p ≡ q) [
      | inl ep ↦ elim (cases_eq q at) as (λ _. p ≡ q) [
        | inl eq ↦ ep ∙ sym eq
        | inr nq ↦ absurd (clash p q ep nq hp hq)
      ]
      | inr np ↦ elim (cases_eq q at) as (λ _. p ≡ q) [
        | inl eq ↦ absurd (clash q p eq np hq hp)
        | inr nq ↦ w p q kind key (subst (Holds kind key) (P.other p np) hp) (subst (Holds kind key) (P.other q nq) hq)
      ]
    ]

-- a place is emptied
pub empty_hashed :
    (seed : ℕ) (hashes : List (Option ℕ)) (places : List (Option Row)) (at : ℕ)
    → AreHashed seed hashes places → length places ≡ length hashes → at < length places
    → AreHashed seed (set hashes at None) (set places at None)
empty_hashed seed hashes places at w len within p =
    let H = set_differs hashes at None None (omega (arith, len)) in
    let P = set_differs places at None None within in
    elim (cases_eq p at) as (λ _. get_or (set hashes at None) p None ≡ hash_at seed (get_or (set places at None) p None)) [
      | inl e ↦ rw (e, H.at, P.at)
      | inr ne ↦ rw (H.other p ne, P.other p ne) (w p)
    ]

-- the next place comes into use, and is empty
pub push_hashed :
    (seed : ℕ) (hashes : List (Option ℕ)) (places : List (Option Row))
    → AreHashed seed hashes places → AreHashed seed (hashes ++ None ∷ []) (places ++ None ∷ [])
push_hashed seed hashes places w p =
    get_or_pushed hashes p None ∙ w p ∙ sym (ap (hash_at seed) (get_or_pushed places p None))

pub push_apart : (places : List (Option Row)) → AreApart places → AreApart (places ++ None ∷ [])
push_apart places w p q kind key hp hq =
    w p q kind key (subst (Holds kind key) (get_or_pushed places p None) hp) (subst (Holds kind key) (get_or_pushed places q None) hq)

pub kept_holds :
    (places : List (Option Row)) (at p : ℕ) (kind : Kind) (key : List ℕ) → at < length places
    → Holds kind key (get_or (set places at None) p None) → Holds kind key (get_or places p None)
kept_holds places at p kind key within h =
    let P = set_differs places at None None within in
    elim (cases_eq p at) as (λ _. Holds kind key (get_or places p None)) [
      | inl e ↦ absurd (subst (Holds kind key) (ap (λ j. get_or (set places at None) j None) e ∙ P.at) h)
      | inr ne ↦ subst (Holds kind key) (P.other p ne) h
    ]

pub empty_apart : (places : List (Option Row)) (at : ℕ) → AreApart places → at < length places → AreApart (set places at None)
empty_apart places at w within p q kind key hp hq =
    w p q kind key (kept_holds places at p kind key within hp) (kept_holds places at q kind key within hq)

-- what a place has that has a kind and key
pub holds_row : (kind : Kind) (key : List ℕ) (o : Option Row) → Holds kind key o → (row : Row) × (o ≡ Some row) × (row.kind ≡ kind) × (row.key ≡ key)
holds_row kind key None h = absurd h
holds_row kind key (Some row) h = (row, refl, h.0, h.1)

-- what was removed is absent
pub removed_absent : (places : List (Option Row)) (at : ℕ) (kind : Kind) (key : List ℕ) → AreApart places → Holds kind key (get_or places at None) → IsAbsent kind key (set places at None)
removed_absent places at kind key w here p h =
    let within = present_within places at (λ e. subst (Holds kind key) e here) in
    let P = set_differs places at None None within in
    elim (cases_eq p at) as (λ _. ⊥) [
      | inl is ↦ subst (Holds kind key) (ap (λ j. get_or (set places at None) j None) is ∙ P.at) h
      | inr ne ↦ ne (w p at kind key (subst (Holds kind key) (P.other p ne) h) here)
    ]

-- a row comes to a place that no other place's row shares
pub copy_absent :
    (places : List (Option Row)) (at : ℕ) (row : Row)
    → at < length places
    → ((p : ℕ) → Holds row.kind row.key (get_or places p None) → p ≡ at)
    → IsAbsent row.kind row.key (set places at None)
copy_absent places at row within apart p h =
    let P = set_differs places at None None within in
    elim (cases_eq p at) as (λ _. ⊥) [
      | inl is ↦ subst (Holds row.kind row.key) (ap (λ j. get_or (set places at None) j None) is ∙ P.at) h
      | inr ne ↦ ne (apart p (subst (Holds row.kind row.key) (P.other p ne) h))
    ]

pub reset_is : (o : Option Row) (row : Row) → Holds row.kind row.key o → reset o row.base row.swaps ≡ Some row
reset_is None row h = absurd h
reset_is (Some r) row h = rw (h.0, h.1)

pub holds_there : (o : Option Row) (row : Row) → o ≡ Some row → Holds row.kind row.key o
holds_there o row e = subst (Holds row.kind row.key) (sym e) (refl, refl)

-- a row that is written anew under its kind and key
pub reset_hashed :
    (seed : ℕ) (hashes : List (Option ℕ)) (places : List (Option Row)) (at : ℕ) (old new : Row)
    → AreHashed seed hashes places → at < length places → get_or places at None ≡ Some old → new.kind ≡ old.kind → new.key ≡ old.key
    → AreHashed seed hashes (set places at (Some new))
reset_hashed seed hashes places at old new w within e k x p =
    let P = set_differs places at (Some new) None within in
    elim (cases_eq p at) as (λ _. get_or hashes p None ≡ hash_at seed (get_or (set places at (Some new)) p None)) [
      | inl is ↦ w p ∙ ap (λ j. hash_at seed (get_or places j None)) is ∙ ap (hash_at seed) e
          ∙ holds_hash seed new.kind new.key (Some old) (sym k, sym x)
          ∙ sym (ap (hash_at seed) (ap (λ j. get_or (set places at (Some new)) j None) is ∙ P.at))
      | inr ne ↦ w p ∙ sym (ap (hash_at seed) (P.other p ne))
    ]

pub reset_holds :
    (places : List (Option Row)) (at : ℕ) (old new : Row) (p : ℕ) (kind : Kind) (key : List ℕ)
    → at < length places → get_or places at None ≡ Some old → new.kind ≡ old.kind → new.key ≡ old.key
    → Holds kind key (get_or (set places at (Some new)) p None) → Holds kind key (get_or places p None)
reset_holds places at old new p kind key within e k x h =
    let P = set_differs places at (Some new) None within in
    elim (cases_eq p at) as (λ _. Holds kind key (get_or places p None)) [
      | inl is ↦
          let h' : (new.kind ≡ kind) × (new.key ≡ key) = subst (Holds kind key) (ap (λ j. get_or (set places at (Some new)) j None) is ∙ P.at) h in
          subst (Holds kind key) (sym (ap (λ j. get_or places j None) is ∙ e)) (sym k ∙ h'.0, sym x ∙ h'.1)
      | inr ne ↦ subst (Holds kind key) (P.other p ne) h
    ]

pub reset_apart :
    (places : List (Option Row)) (at : ℕ) (old new : Row)
    → AreApart places → at < length places → get_or places at None ≡ Some old → new.kind ≡ old.kind → new.key ≡ old.key
    → AreApart (set places at (Some new))
reset_apart places at old new w within e k x p q kind key hp hq =
    w p q kind key (reset_holds places at old new p kind key within e k x hp) (reset_holds places at old new q kind key within e k x hq)

some_hash : (seed : ℕ) (o : Option Row) → o ≢ None → hash_at seed o ≢ None
some_hash seed None ne e = ne refl
some_hash seed (Some row) ne e = absurd (cc)

-- a place with a row has a hash
pub hashed_live : (seed : ℕ) (hashes : List (Option ℕ)) (places : List (Option Row)) (p : ℕ) → AreHashed seed hashes places → get_or places p None ≢ None → get_or hashes p None ≢ None
hashed_live seed hashes places p w live e = some_hash seed (get_or places p None) live (sym (w p) ∙ e)

pub same_number : (a b : ℕ) → a ≡ b → IsTrue (a == b)
same_number a b e = grind (arith, common_steps, e)

pub not_both : (a b : ℕ) → a < b → b ≤ a → ⊥
not_both a b lt le = omega arith

pub le_max_right : (p a b : ℕ) → p ≤ b → p ≤ max a b
le_max_right p a b le = grind (arith, common_steps, le)

pub max_by : (p a b : ℕ) → a ≤ p → b ≤ p → p ≤ max a b → p ≡ max a b
max_by p a b one two le = grind (arith, common_steps, one, two, le)
