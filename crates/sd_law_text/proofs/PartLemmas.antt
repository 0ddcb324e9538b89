-- Where a part stands in a key.
use Rattle.std.proofs.Common.{◌≡◌, ℕ, Bool, true, false, ◌||◌, List, [], ◌∷◌, length, drop, nat_eq, refl, ap, ◌⊎◌, inl, inr}
use Rattle.std.proofs.lemmas.Bool.Decides.{Decides-eqb}
use Rattle.std.proofs.lemmas.Slice.Eq.{starts_is}
use Rattle.std.specs.List.{starts_with}
use Rattle.sd_model_text.specs.Names.{is_part}
use Rattle.sd_law_text.specs.Bytes.{HasPart}

one_of : (a b : Bool) → (a || b) ≡ true → (a ≡ true) ⊎ (b ≡ true)
one_of true b h = inl refl
one_of false b h = inr h

pub found_part : (part key : List ℕ) → is_part part key ≡ true → HasPart key part
found_part part [] h = ([], drop (length part) [], (starts_is Decides-eqb [] part _ refl).0 h)
found_part part (b ∷ key) h =
    elim (one_of (starts_with nat_eq (b ∷ key) part) (is_part part key) h) [
      | inl begins ↦ ([], drop (length part) (b ∷ key), (starts_is Decides-eqb (b ∷ key) part _ refl).0 begins)
      | inr later ↦ let there = found_part part key later in (b ∷ there.0, there.1, ap (λ xs. b ∷ xs) there.2)
    ]
