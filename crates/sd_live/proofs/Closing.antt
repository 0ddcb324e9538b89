-- What the passes had seen, once they are joined.
use Rattle.std.proofs.Common.{◌≡◌, List, [], ◌∷◌, ◌++◌, map, All, refl, sym, ap, ◌∙◌}
use Rattle.std.proofs.lemmas.List.Elements.{All-nil, All-cons, All-head, All-tail}
use Rattle.sd_live.specs.declared.pass.UpPass.{UpPass}
use Rattle.sd_live.specs.declared.up_cell.UpCell.{UpCell}
use Rattle.sd_live.specs.Looks.{Begins}
use Rattle.sd_live.specs.Live.{published_in, seen, IsPassOf}
use Rattle.sd_live.specs.Rule.{EachBegins}

-- the values of a list whose last member was taken off
pub popped : {A B : Type 0} (f : A → B) (xs ys : List A) (x : A) (kept : List B) → xs ≡ ys ++ x ∷ [] → map f xs ++ kept ≡ map f ys ++ f x ∷ kept
popped {A} {B} f xs ys x kept e = ap (λ l. map f l ++ kept) e ∙ go ys
  where
    go : (ys : List A) → map f (ys ++ x ∷ []) ++ kept ≡ map f ys ++ f x ∷ kept
    go [] = refl
    go (y ∷ ys) = ap (λ l. f y ∷ l) (go ys)

-- what each pass had seen, the first set too
pub closes : (cell : UpCell) (checker : UpPass) (passes : List UpPass) → IsPassOf cell checker → All (IsPassOf cell) passes → EachBegins (map published_in passes) (published_in checker) → All (λ p. Begins (seen p) (seen checker)) passes
closes cell checker [] of_cell fit begin = All-nil _
closes cell checker (p ∷ passes) of_cell fit begin =
    let mine = All-head (IsPassOf cell) p passes fit in
    All-cons (λ p. Begins (seen p) (seen checker)) p passes
    (begin.0.0, λ i. (of_cell.1 ∙ sym mine.1) i ∷ begin.0.1 i)
    (closes cell checker passes of_cell (All-tail (IsPassOf cell) p passes fit) begin.1)
