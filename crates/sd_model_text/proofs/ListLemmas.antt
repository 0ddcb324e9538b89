-- Lemmas on the words of specs/Lists.antt.
use Rattle.std.proofs.Common.{◌≡◌, ℕ, ◌+◌, ◌-◌, ◌<◌, Bool, true, false, cond, List, [], ◌∷◌, ◌++◌, length, get_or, take, refl, sym, ap, ◌∙◌, Option, Some, None, option_map, arith}
use Rattle.std.proofs.lemmas.List.{take_more, take_all}
use Rattle.std.specs.Prelude.{◌==◌}
use Rattle.sd_model_text.specs.Lists.{split, onto_first, cut_at, Cut, trim_end, unless_last}
use Rattle.sd_model_text.proofs.Short.{before_part}

-- the parts that a cut leaves
abbrev pub parts_of : ℕ → List ℕ → Option Cut → List (List ℕ)
parts_of separator xs None = xs ∷ []
parts_of separator xs (Some c) = c.part ∷ split separator c.rest

onto_parts : (separator x : ℕ) (xs : List ℕ) (c : Option Cut) → onto_first x (parts_of separator xs c) ≡ parts_of separator (x ∷ xs) (option_map (before_part x) c)
onto_parts separator x xs None = refl
onto_parts separator x xs (Some c) = refl

split_by_test : (separator x : ℕ) (xs : List ℕ) (b : Bool) → split separator xs ≡ parts_of separator xs (cut_at separator xs) → cond b ([] ∷ split separator xs) (onto_first x (split separator xs)) ≡ parts_of separator (x ∷ xs) (cond b (Some (record { part = []; rest = xs })) (option_map (before_part x) (cut_at separator xs)))
split_by_test separator x xs true h = refl
split_by_test separator x xs false h = ap (onto_first x) h ∙ onto_parts separator x xs (cut_at separator xs)

-- the parts between separators are the first cut, and the parts of the rest
pub split-cut : (separator : ℕ) (xs : List ℕ) → split separator xs ≡ parts_of separator xs (cut_at separator xs)
split-cut separator [] = refl
split-cut separator (x ∷ xs) = split_by_test separator x xs (x == separator) (split-cut separator xs)

not_last : {A : Type 0} (p : A → Bool) (y : A) (xs : List A) (x : A) → unless_last p y (xs ++ x ∷ []) ≡ y ∷ (xs ++ x ∷ [])
not_last p y [] x = refl
not_last p y (z ∷ xs) x = refl

before_end : {A : Type 0} (p : A → Bool) (y : A) (xs : List A) (x : A) (b : Bool) → trim_end p (xs ++ x ∷ []) ≡ cond b (trim_end p xs) (xs ++ x ∷ []) → unless_last p y (trim_end p (xs ++ x ∷ [])) ≡ cond b (unless_last p y (trim_end p xs)) (y ∷ (xs ++ x ∷ []))
before_end p y xs x true h = ap (unless_last p y) h
before_end p y xs x false h = ap (unless_last p y) h ∙ not_last p y xs x

-- an element at the end goes where it passes the test, and else ends the list
pub trim_end-append : {A : Type 0} (p : A → Bool) (xs : List A) (x : A) → trim_end p (xs ++ x ∷ []) ≡ cond (p x) (trim_end p xs) (xs ++ x ∷ [])
trim_end-append p [] x = refl
trim_end-append p (y ∷ xs) x = before_end p y xs x (p x) (trim_end-append p xs x)

-- the same of the last element of a list
pub trim_end-last : {A : Type 0} (p : A → Bool) (xs : List A) (d : A) → 0 < length xs → trim_end p xs ≡ cond (p (get_or xs (length xs - 1) d)) (trim_end p (take (length xs - 1) xs)) xs
trim_end-last p xs d h =
    let n = length xs - 1 in
    let whole : xs ≡ take n xs ++ get_or xs n d ∷ [] = sym (take_all (n + 1) xs (omega arith)) ∙ take_more xs n d (omega arith) in
    ap (trim_end p) whole ∙ trim_end-append p (take n xs) (get_or xs n d) ∙ ap (λ ys. cond (p (get_or xs n d)) (trim_end p (take n xs)) ys) (sym whole)

pub trim_end-goes : {A : Type 0} (p : A → Bool) (xs : List A) (d : A) → 0 < length xs → p (get_or xs (length xs - 1) d) ≡ true → trim_end p (take (length xs - 1) xs) ≡ trim_end p xs
trim_end-goes p xs d h passes = sym (trim_end-last p xs d h ∙ ap (λ b. cond b (trim_end p (take (length xs - 1) xs)) xs) passes)

pub trim_end-stays : {A : Type 0} (p : A → Bool) (xs : List A) (d : A) → 0 < length xs → p (get_or xs (length xs - 1) d) ≡ false → trim_end p xs ≡ xs
trim_end-stays p xs d h fails = trim_end-last p xs d h ∙ ap (λ b. cond b (trim_end p (take (length xs - 1) xs)) xs) fails
