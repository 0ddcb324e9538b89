-- EntryLists of numbers of the code, and of the definitions.
use Rattle.std.proofs.Common.{◌≡◌, Bool, List, [], ◌∷◌, ℤ, refl}
use Rattle.std.specs.List.{list_all, list_any}
use Rattle.std.specs.Ordering.{int_eq}
use Rattle.sd_decimal.specs.declared.number.Micro.{Micro}
use Rattle.sd_model_settings.specs.Values.{are_distinct}
use Rattle.sd_plan.specs.Values.{micros}

pub list_all_micros : (p : ℤ → Bool) (xs : List Micro) → list_all p (micros xs) ≡ list_all (λ m. p m.0) xs
list_all_micros p [] = refl
list_all_micros p (x ∷ xs) = rw (list_all_micros p xs)

pub list_any_micros : (p : ℤ → Bool) (xs : List Micro) → list_any p (micros xs) ≡ list_any (λ m. p m.0) xs
list_any_micros p [] = refl
list_any_micros p (x ∷ xs) = rw (list_any_micros p xs)

pub are_distinct_micros : (xs : List Micro) → are_distinct int_eq (micros xs) ≡ are_distinct (λ a b. int_eq a.0 b.0) xs
are_distinct_micros [] = refl
are_distinct_micros (x ∷ xs) = rw (list_any_micros (λ y. int_eq y x.0) xs, are_distinct_micros xs)
