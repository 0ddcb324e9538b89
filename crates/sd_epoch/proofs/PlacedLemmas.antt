-- Entries that are the same but for their links.
use Rattle.std.proofs.Common.{◌≡◌, ℕ, Bool, true, false, cond, ◌==◌, List, [], ◌∷◌, length, get_or, map, filter, All, refl, sym, ap, subst, ◌∙◌, arith}
use Rattle.std.proofs.Math.ListN.{get_or-map}
use Rattle.std.proofs.lemmas.List.{length-map}
use Rattle.sd_epoch.proofs.ChainLemmas.{own}

module _ {A B : Type 0} (place_of : A → ℕ) (f : A → B) where
  -- each entry's place and what is told of it
  abbrev pub placed : List A → List (ℕ × B)
  placed entries = map {B = ℕ × B} (λ e. (place_of e, f e)) entries

  -- what is told of a row's entries, by places and what is told alone
  own_reported : (place : ℕ) (entries : List A) → map f (own place_of place entries) ≡ map (λ (e : ℕ × B). e.1) (filter (λ (e : ℕ × B). e.0 == place) (placed entries))
  own_reported place [] = refl
  own_reported place (e ∷ entries) = reported (place_of e == place) (own_reported place entries) where
    reported : (b : Bool) → map f (own place_of place entries) ≡ map (λ (x : ℕ × B). x.1) (filter (λ (x : ℕ × B). x.0 == place) (placed entries)) → map f (cond b (e ∷ own place_of place entries) (own place_of place entries))
        ≡ map (λ (x : ℕ × B). x.1) (cond b ((place_of e, f e) ∷ filter (λ (x : ℕ × B). x.0 == place) (placed entries)) (filter (λ (x : ℕ × B). x.0 == place) (placed entries)))
    reported true rest = ap (λ (xs : List B). f e ∷ xs) rest
    reported false rest = rest

  places_reported : (entries : List A) → map place_of entries ≡ map (λ (e : ℕ × B). e.0) (placed entries)
  places_reported [] = refl
  places_reported (e ∷ entries) = ap (λ (xs : List ℕ). place_of e ∷ xs) (places_reported entries)

  module _ (xs ys : List A) (same : placed xs ≡ placed ys) where
    -- what is told of a row's entries is the same
    pub same_reported : (place : ℕ) → map f (own place_of place xs) ≡ map f (own place_of place ys)
    same_reported place = own_reported place xs ∙ ap (λ (es : List (ℕ × B)). map (λ (e : ℕ × B). e.1) (filter (λ (e : ℕ × B). e.0 == place) es)) same ∙ sym (own_reported place ys)

    pub same_places : map place_of xs ≡ map place_of ys
    same_places = places_reported xs ∙ ap (λ (es : List (ℕ × B)). map (λ (e : ℕ × B). e.0) es) same ∙ sym (places_reported ys)

    pub same_length : length xs ≡ length ys
    same_length = omega (arith, length-map xs place_of, length-map ys place_of, ap length same_places)

    pub place_same : (i : ℕ) (d : A) → place_of (get_or xs i d) ≡ place_of (get_or ys i d)
    place_same i d = sym (get_or-map place_of xs i d) ∙ ap (λ (places : List ℕ). get_or places i (place_of d)) same_places ∙ get_or-map place_of ys i d

    reported_at : (i : ℕ) (d : A) → f (get_or xs i d) ≡ f (get_or ys i d)
    reported_at i d = sym (ap (λ (e : ℕ × B). e.1) (get_or-map {B = ℕ × B} (λ e. (place_of e, f e)) xs i d))
        ∙ ap (λ (es : List (ℕ × B)). (get_or es i (place_of d, f d)).1) same ∙ ap (λ (e : ℕ × B). e.1) (get_or-map {B = ℕ × B} (λ e. (place_of e, f e)) ys i d)

    -- what holds of what is told of each holds of the others too
    pub same_all : (P : B → Type 0) → All (λ e. P (f e)) ys → All (λ e. P (f e)) xs
    same_all P all = λ i d lt. subst P (sym (reported_at i d)) (all i d (omega (arith, lt, same_length)))
