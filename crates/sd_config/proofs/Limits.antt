-- EntryLists of limits of the code, and of the definitions.
use Rattle.std.proofs.Common.{◌≡◌, Bool, List, [], ◌∷◌, refl}
use Rattle.std.specs.List.{list_all}
use Rattle.sd_decimal.specs.declared.number.Limit.{Limit}
use Rattle.sd_model_text.specs.Numbers as numbers
use Rattle.sd_plan.specs.Entries.{limit_of, limits_of}

pub list_all_limits : (p : numbers.Limit → Bool) (xs : List Limit) → list_all p (limits_of xs) ≡ list_all (λ l. p (limit_of l)) xs
list_all_limits p [] = refl
list_all_limits p (x ∷ xs) = rw (list_all_limits p xs)
