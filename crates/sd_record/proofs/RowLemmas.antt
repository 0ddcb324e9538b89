-- How the texts of rows and lines stand together.
use Rattle.std.proofs.Common.{◌≡◌, ℕ, ◌+◌, ◌<◌, Bool, true, false, cond, length, get_or, option_map, List, [], ◌∷◌, ◌++◌, map, flat_map, take, drop, refl, sym, ap, ◌∙◌, append-nil, slice_get, Some}
use Rattle.std.proofs.lemmas.List.{take_more, take-append-drop}
use Rattle.std.proofs.lemmas.List.Concat.{flat_map-append}
use Rattle.std.proofs.lemmas.Option.{slice_get-map, slice_get_read, slice_get_within, get_or_from_slice_get}
use Rattle.std.specs.List.{concat}
use Rattle.std.specs.Prelude.{filter}
use Rattle.sd_model_record.specs.Record.{Row}
use Rattle.sd_record.specs.RowTexts.{rows_text}

-- the texts of things, joined as they are made
pub concat-map : {A : Type 0} (f : A → List ℕ) (xs : List A) → concat (map f xs) ≡ flat_map f xs
concat-map f [] = refl
concat-map f (x ∷ xs) = ap (λ (text : List ℕ). f x ++ text) (concat-map f xs)

-- the texts of the things that pass a test, where the others have none
pub concat-sent : {A : Type 0} (p : A → Bool) (f : A → List ℕ) (xs : List A) → concat (map (λ x. cond (p x) (f x) []) xs) ≡ flat_map f (filter p xs)
concat-sent p f [] = refl
concat-sent p f (x ∷ xs) = by_test (p x) (concat-sent p f xs) where
  by_test : (b : Bool) → concat (map (λ y. cond (p y) (f y) []) xs) ≡ flat_map f (filter p xs) → cond b (f x) [] ++ concat (map (λ y. cond (p y) (f y) []) xs) ≡ flat_map f (cond b (x ∷ filter p xs) (filter p xs))
  by_test true rest = ap (λ (text : List ℕ). f x ++ text) rest
  by_test false rest = rest

-- the text of the thing at a place
pub map-at : {A : Type 0} (f : A → List ℕ) (xs : List A) (i : ℕ) (x : A) → i < length xs → x ≡ get_or xs i x → slice_get (map f xs) i ≡ Some (f x)
map-at f xs i x inside is = slice_get-map f xs i ∙ ap (option_map f) (slice_get_read xs (length xs) i x refl inside is)

-- the same texts of the same things
pub flat_map-same : {A : Type 0} (f g : A → List ℕ) (xs : List A) → ((x : A) → f x ≡ g x) → flat_map f xs ≡ flat_map g xs
flat_map-same f g [] same = refl
flat_map-same f g (x ∷ xs) same = let first = same x in let rest = flat_map-same f g xs same in cc

module _ (lines_of : Row → List (List ℕ)) (rows : List Row) (i : ℕ) where
  -- the lines of a row more
  pub rows_text-more : (row : Row) → slice_get rows i ≡ Some row → rows_text lines_of (take (i + 1) rows) ≡ rows_text lines_of (take i rows) ++ concat (lines_of row)
  rows_text-more row is =
      let text : Row → List ℕ = λ r. concat (lines_of r) in
      ap (flat_map text) (take_more rows i row (slice_get_within rows i row is) ∙ ap (λ e. take i rows ++ e ∷ []) (get_or_from_slice_get rows i row row is))
      ∙ flat_map-append text (take i rows) (row ∷ []) ∙ ap (λ xs. flat_map text (take i rows) ++ xs) (append-nil (text row))

  -- the lines of the first rows, and those of the others
  pub rows_text-split : rows_text lines_of rows ≡ rows_text lines_of (take i rows) ++ rows_text lines_of (drop i rows)
  rows_text-split =
      let text : Row → List ℕ = λ r. concat (lines_of r) in
      ap (flat_map text) (sym (take-append-drop i rows)) ∙ flat_map-append text (take i rows) (drop i rows)
