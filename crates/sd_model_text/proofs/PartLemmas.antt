-- Where a part is in a key.
use Rattle.std.proofs.Common.{◌≡◌, ℕ, true, ◌||◌, List, [], ◌∷◌, ◌++◌, nat_eq, refl, ap, ◌∙◌}
use Rattle.std.proofs.Math.Bool.{or-true}
use Rattle.std.proofs.lemmas.Bool.Decides.{Decides-eqb}
use Rattle.std.proofs.lemmas.Slice.Eq.{starts_is}
use Rattle.std.specs.List.{starts_with}
use Rattle.sd_model_text.specs.Names.{is_part}

pub part_found : (part key prefix back : List ℕ) → key ≡ prefix ++ part ++ back → is_part part key ≡ true
part_found part [] [] back is = (starts_is Decides-eqb [] part _ refl).1 back is
part_found part [] (x ∷ prefix) back is = absurd (cc)
part_found part (b ∷ key) [] back is = ap (λ s. s || is_part part key) ((starts_is Decides-eqb (b ∷ key) part _ refl).1 back is)
part_found part (b ∷ key) (x ∷ prefix) back is =
    let rest : key ≡ prefix ++ part ++ back = cc in
    ap (λ s. starts_with nat_eq (b ∷ key) part || s) (part_found part key prefix back rest) ∙ or-true (starts_with nat_eq (b ∷ key) part)
