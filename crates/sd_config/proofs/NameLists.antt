-- The names of a table and of a list, as the code goes over them.
use Rattle.std.proofs.Common.{◌≡◌, ℕ, Bool, true, false, List, [], ◌∷◌, ◌++◌, map, Some, String, Global, string_bytes, Bor, refl, ap, ◌∙◌, sym}
use Rattle.std.specs.List.{list_any}
use Rattle.std.specs.Str.{bytes_eq}
use Rattle.std.proofs.Common.{nat_cmp, Less}
use Rattle.std.specs.Cmp.Lexicographic.{slice_cmp}
use Rattle.std.specs.String.{string_cmp}
use Rattle.std.specs.List.{AllByRecursion}
use Rattle.std.specs.List.Sorted.{IsStrictlySortedBy}
use Rattle.std.specs.Map.{keys_of}
use Rattle.toml.specs.declared.value.Value.{Value}
use Rattle.toml.specs.View.{members_view}
use Rattle.arrayvec.specs.ArrayVec.{ArrayVec}
use Rattle.sd_model_settings.specs.Values.{are_distinct}
use Rattle.sd_model_settings.specs.Settings.{names, first_unknown}
use Rattle.sd_plan.specs.Values.{name_bytes}

pub list_any-map : {X Y : Type 0} (f : X → Y) (p : Y → Bool) (xs : List X) → list_any p (map f xs) ≡ list_any (λ x. p (f x)) xs
list_any-map f p [] = refl
list_any-map f p (x ∷ xs) = rw (list_any-map f p xs)

pub are_distinct-names : (xs : List (ArrayVec ℕ)) → are_distinct bytes_eq (name_bytes xs) ≡ are_distinct (λ a b. bytes_eq a.items b.items) xs
are_distinct-names [] = refl
are_distinct-names (x ∷ xs) = rw (list_any-map (λ n. n.items) (λ y. bytes_eq y x.items) xs, are_distinct-names xs)

pub names-members : (es : List (String Global × Value)) → names (members_view es) ≡ map string_bytes (keys_of es)
names-members [] = refl
names-members (e ∷ es) = ap (λ r. string_bytes e.0 ∷ r) (names-members es)

pub first_unknown-known : (prefix : List ℕ) (known : List (List ℕ)) (name : List ℕ) (rest : List (List ℕ)) → list_any (λ k. bytes_eq k name) known ≡ true
    → first_unknown prefix known (name ∷ rest) ≡ first_unknown prefix known rest
first_unknown-known prefix known name rest e = rw e

pub first_unknown-here : (prefix : List ℕ) (known : List (List ℕ)) (name : List ℕ) (rest : List (List ℕ)) → list_any (λ k. bytes_eq k name) known ≡ false
    → first_unknown prefix known (name ∷ rest) ≡ Some (prefix ++ name)
first_unknown-here prefix known name rest e = rw e

-- what the test of the code says of a name
pub tells : (known : List (Bor (List ℕ))) (text name : List ℕ) (b r : Bool) → text ≡ name → b ≡ list_any (λ k. bytes_eq k.now text) known → b ≡ r
    → list_any (λ k. bytes_eq k name) (map (λ k. k.now) known) ≡ r
tells known text name b r same test is =
    list_any-map (λ k. k.now) (λ k. bytes_eq k name) known ∙ ap (λ n. list_any (λ k. bytes_eq k.now n) known) (sym same) ∙ sym test ∙ is

all_below : (name : List ℕ) (ks : List (String Global)) → AllByRecursion (λ y. slice_cmp nat_cmp name (string_bytes y) ≡ Less) ks
    → AllByRecursion (λ y. slice_cmp nat_cmp name y ≡ Less) (map string_bytes ks)
all_below name [] h = h
all_below name (k ∷ ks) h = (h.0, all_below name ks h.1)

pub bytes_ascend : (ks : List (String Global)) → IsStrictlySortedBy string_cmp ks → IsStrictlySortedBy (slice_cmp nat_cmp) (map string_bytes ks)
unfolding IsStrictlySortedBy
bytes_ascend [] h = h
bytes_ascend (k ∷ ks) h = (all_below (string_bytes k) ks h.0, bytes_ascend ks h.1)
