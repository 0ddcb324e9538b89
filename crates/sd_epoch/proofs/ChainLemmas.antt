-- What names a place, gone through along its chain.
use Rattle.std.proofs.Common.{◌≡◌, ◌≢◌, ℕ, zero, suc, ◌+◌, ◌<◌, ◌≤◌, Bool, true, false, cond, ◌==◌, ◌||◌, List, [], ◌∷◌, ◌++◌, length, get_or, take, map, reverse, filter, Option, Some, None, refl, sym, ap, subst, ◌∙◌, append_assoc, length-append, arith}
use Rattle.std.specs.Prelude.{⊤}
use Rattle.std.specs.List.{list_any}
use Rattle.std.proofs.lemmas.Bool.{eq-eqb, ne_eqb}
use Rattle.std.proofs.lemmas.List.{take_all, length-map, map-append, reverse-append, get_or_default}
use Rattle.std.proofs.lemmas.List.Elements.{filter_more}
use Rattle.std.proofs.Math.ListN.{get_or-map}
use Rattle.sd_epoch.specs.Chain.{IsLast, up_to, IsChain}

-- what stands at a place of a list
pub element : {A : Type 0} (xs : List A) (i : ℕ) → i < length xs → A
element [] i lt = absurd (omega arith)
element (x ∷ xs) zero lt = x
element (x ∷ xs) (suc i) lt = element xs i (omega arith)

-- those that name a place
abbrev pub own : {A : Type 0} → (A → ℕ) → ℕ → List A → List A
own place_of place entries = filter (λ e. place_of e == place) entries

-- an entry of the row, or none
abbrev pub IsOfRow : List ℕ → ℕ → Option ℕ → Type 0
IsOfRow places place None = ⊤
IsOfRow places place (Some i) = (i < length places) × (get_or places i 0 ≡ place)

last_of_row : (places : List ℕ) (n place : ℕ) (next : Option ℕ) → n ≤ length places → IsLast places n place next → IsOfRow places place next
last_of_row places n place None le h = tt
last_of_row places n place (Some i) le h = (omega (arith, h.0), h.1)

few_up_to : (places : List ℕ) (n place : ℕ) (next : Option ℕ) → IsLast places n place next → up_to next ≤ n
few_up_to places n place None h = omega arith
few_up_to places n place (Some i) h = omega (arith, h.0)

module _ {A : Type 0} (place_of : A → ℕ) where
  -- where no entry between two names the place, none is left out
  quiet : (place : ℕ) (entries : List A) (m n : ℕ) → m ≤ n → ((k : ℕ) → m ≤ k → k < n → get_or (map place_of entries) k 0 ≢ place)
      → own place_of place (take n entries) ≡ own place_of place (take m entries)
  quiet place entries zero zero le none = refl
  quiet place [] zero (suc n) le none = refl
  quiet place (e ∷ entries) zero (suc n) le none =
      ap (λ b. cond b (e ∷ own place_of place (take n entries)) (own place_of place (take n entries))) (ne_eqb (place_of e) place (none 0 (omega arith) (omega arith)))
      ∙ quiet place entries zero n (omega arith) (λ k low high. none (suc k) (omega arith) (omega arith))
  quiet place entries (suc m) zero le none = absurd (omega arith)
  quiet place [] (suc m) (suc n) le none = refl
  quiet place (e ∷ entries) (suc m) (suc n) le none =
      ap (λ (es : List A). cond (place_of e == place) (e ∷ es) es) (quiet place entries m n (omega arith) (λ k low high. none (suc k) (omega arith) (omega arith)))

  -- the entries of a row up to its last are all of them
  all_up_to : (entries : List A) (place n : ℕ) (next : Option ℕ) → IsLast (map place_of entries) n place next → own place_of place (take n entries) ≡ own place_of place (take (up_to next) entries)
  all_up_to entries place n None h = quiet place entries 0 n (omega arith) (λ k low high. h k high)
  all_up_to entries place n (Some i) h = quiet place entries (i + 1) n (omega (arith, h.0)) (λ k low high. h.2 k (omega arith) high)

  place_at : (entries : List A) (i : ℕ) (d : A) → i < length entries → get_or (map place_of entries) i 0 ≡ place_of (get_or entries i d)
  place_at entries i d lt =
      get_or_default (map place_of entries) i 0 (place_of d) (omega (arith, lt, length-map entries place_of)) ∙ get_or-map place_of entries i d

  -- the last entry of a row, with which a walk begins
  pub record Begins (entries : List A) (place : ℕ) (next : Option ℕ) : Type 0 where
    pub of_row : IsOfRow (map place_of entries) place next
    pub all : own place_of place (take (up_to next) entries) ≡ own place_of place entries
    pub few : up_to next ≤ length entries

  pub begins : (entries : List A) (last before : List (Option ℕ)) (place : ℕ) (next : Option ℕ) → IsChain (map place_of entries) last before → next ≡ get_or last place None
      → Begins entries place next
  begins entries last before place next w is =
      let count = length-map entries place_of in
      let n = length (map place_of entries) in
      let at = subst (IsLast (map place_of entries) n place) (sym is) (w.ends place) in record {
        of_row = last_of_row (map place_of entries) n place next (omega arith) at;
        all = sym (all_up_to entries place n next at) ∙ ap (own place_of place) (take_all n entries (omega (arith, count)));
        few = omega (arith, few_up_to (map place_of entries) n place next at, count);
      }

  -- the entry before one of a row, to which a walk goes on
  pub record GoesOn (entries : List A) (place i : ℕ) (next : Option ℕ) : Type 0 where
    pub of_row : IsOfRow (map place_of entries) place next
    pub more : (d : A) → own place_of place (take (i + 1) entries) ≡ own place_of place (take (up_to next) entries) ++ get_or entries i d ∷ []
    pub before : own place_of place (take i entries) ≡ own place_of place (take (up_to next) entries)
    pub few : up_to next ≤ i

  pub goes_on : (entries : List A) (last before : List (Option ℕ)) (place i : ℕ) (next : Option ℕ) → IsChain (map place_of entries) last before → IsOfRow (map place_of entries) place (Some i) → next ≡ get_or before i None
      → GoesOn entries place i next
  goes_on entries last before place i next w here read =
      let count = length-map entries place_of in
      let within : i < length entries = omega (arith, here.0, count) in
      let at = subst (IsLast (map place_of entries) i place) (sym read) (subst (λ p. IsLast (map place_of entries) i p (get_or before i None)) here.1 (w.linked i here.0)) in record {
        of_row = last_of_row (map place_of entries) i place next (omega (arith, here.0)) at;
        more = λ d.
            filter_more (λ (e : A). place_of e == place) entries i d within
            ∙ ap (λ b. own place_of place (take i entries) ++ cond b (get_or entries i d ∷ []) []) (eq-eqb (place_of (get_or entries i d)) place (sym (place_at entries i d within) ∙ here.1))
            ∙ ap (λ (es : List A). es ++ get_or entries i d ∷ []) (all_up_to entries place i next at);
        before = all_up_to entries place i next at;
        few = few_up_to (map place_of entries) i place next at;
      }

module _ {A B : Type 0} (place_of : A → ℕ) (f : A → B) (entries : List A) (place : ℕ) where
  -- this was taken from the entries of a row so far, the last one first, and the walk goes on to the next one
  pub record IsTaken (next : Option ℕ) (out : List B) : Type 0 where
    pub of_row : IsOfRow (map place_of entries) place next
    pub so_far : out ++ reverse (map f (own place_of place (take (up_to next) entries))) ≡ reverse (map f (own place_of place entries))
    pub few : length out + up_to next ≤ length entries

  module _ (last before : List (Option ℕ)) (next : Option ℕ) (out : List B) (chain : IsChain (map place_of entries) last before) where
    pub taken_none : out ≡ [] → next ≡ get_or last place None → IsTaken next out
    taken_none none is = let at = begins place_of entries last before place next chain is in record {
      of_row = at.of_row;
      so_far = ap (λ xs. xs ++ reverse (map f (own place_of place (take (up_to next) entries)))) none ∙ ap (λ (es : List A). reverse (map f es)) at.all;
      few = omega (arith, at.few, ap length none);
    }

    pub taken_more : (d : A) (now : Option ℕ) (i : ℕ) (was : List B) (v : B) → IsTaken now was → now ≡ Some i → next ≡ get_or before i None → v ≡ f (get_or entries i d) → out ≡ was ++ v ∷ [] → IsTaken next out
    taken_more d now i was v w is goes taken pushed =
        let e = get_or entries i d in
        let mine = own place_of place (take (up_to next) entries) in
        let on = goes_on place_of entries last before place i next chain (subst (IsOfRow (map place_of entries) place) is w.of_row) goes in record {
          of_row = on.of_row;
          so_far = (λ j. ((pushed ∙ ap (λ x. was ++ x ∷ []) taken) j) ++ reverse (map f mine)) ∙ append_assoc was (f e ∷ []) (reverse (map f mine))
              ∙ ap (λ ys. was ++ ys) (sym (ap reverse (map-append f mine (e ∷ [])) ∙ reverse-append (map f mine) (f e ∷ [])))
              ∙ ap (λ (es : List A). was ++ reverse (map f es)) (sym (on.more d)) ∙ ap (λ (n : Option ℕ). was ++ reverse (map f (own place_of place (take (up_to n) entries)))) (sym is) ∙ w.so_far;
          few = omega (arith, w.few, on.few, ap up_to is, ap length pushed, length-append was (v ∷ []));
        }

pub any-push : {A : Type 0} (p : A → Bool) (xs : List A) (x : A) → list_any p (xs ++ x ∷ []) ≡ (list_any p xs || p x)
any-push p [] x = or_none (p x) where
  or_none : (b : Bool) → (b || false) ≡ b
  or_none true = refl
  or_none false = refl
any-push p (y ∷ xs) x = ap (λ b. p y || b) (any-push p xs x) ∙ or_assoc (p y) (list_any p xs) (p x) where
  or_assoc : (a b c : Bool) → (a || (b || c)) ≡ ((a || b) || c)
  or_assoc true b c = refl
  or_assoc false b c = refl
