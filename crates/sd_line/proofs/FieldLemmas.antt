-- The fields of a value, one part after another.
use Rattle.std.proofs.Common.{◌≡◌, ℕ, true, List, [], ◌∷◌, length, drop, nat_lt, refl, sym, ap, ◌∙◌, Option, Some, None, is_some, option_map, arith}
use Rattle.std.proofs.lemmas.Bool.Decides.{nat_tests}
use Rattle.sd_model_text.specs.Lists.{split, cut_at, Cut}
use Rattle.sd_model_text.proofs.ListLemmas.{split-cut, parts_of}
use Rattle.sd_line.specs.Cut.{parts_in}

-- the parts of bytes by their first cut
pub parts-cut : (separator : ℕ) (bytes : List ℕ) (c : Option Cut) → c ≡ cut_at separator bytes → split separator bytes ≡ parts_of separator bytes c
parts-cut separator bytes c h = split-cut separator bytes ∙ ap (parts_of separator bytes) (sym h)

some_parts : (bytes : List ℕ) (c : Option Cut) → nat_lt 0 (length (parts_of 124 bytes c)) ≡ true
some_parts bytes None = grind (arith, nat_tests)
some_parts bytes (Some c) = grind (arith, nat_tests)

is_some-map : {A B : Type 0} (f : A → B) (o : Option A) → is_some o ≡ is_some (option_map f o)
is_some-map f None = refl
is_some-map f (Some x) = refl

-- fields are left where any are
left_some : (left : Option (List ℕ)) → is_some left ≡ nat_lt 0 (length (parts_in 124 left))
left_some None = refl
left_some (Some bytes) = sym (ap (λ xs. nat_lt 0 (length xs)) (split-cut 124 bytes) ∙ some_parts bytes (cut_at 124 bytes))

-- the same of fields as the code has them
pub left-some : {A : Type 0} (f : A → List ℕ) (left : Option A) → is_some left ≡ nat_lt 0 (length (parts_in 124 (option_map f left)))
left-some f left = is_some-map f left ∙ left_some (option_map f left)

-- behind three fields any are left where there are more than three
pub fourth : (fields : List (List ℕ)) → nat_lt 0 (length (drop 1 (drop 1 (drop 1 fields)))) ≡ nat_lt 3 (length fields)
fourth [] = refl
fourth (a ∷ []) = refl
fourth (a ∷ b ∷ []) = refl
fourth (a ∷ b ∷ c ∷ fields) = grind (arith, nat_tests)
