use Rattle.std.proofs.Common.{◌≡◌, ℕ, List, [], ◌∷◌, ◌++◌, map, reverse, refl, sym, ap, ◌∙◌}
use Rattle.std.proofs.lemmas.List.{map-append, reverse-append, reverse-reverse}
use Rattle.arrayvec.specs.ArrayVec.{ArrayVec}
use Rattle.sd_epoch.specs.Scratch.{texts}
use Rattle.sd_epoch.specs.Since.{members_at, reported_members}
use Rattle.sd_epoch.proofs.scratch.Scratch.put_members.Goals as goal

map-reverse : {A B : Type 0} (f : A → B) (xs : List A) → map f (reverse xs) ≡ reverse (map f xs)
map-reverse f [] = refl
map-reverse f (x ∷ xs) =
    ap (map f) (reverse-append (x ∷ []) xs) ∙ map-append f (reverse xs) (x ∷ []) ∙ ap (λ ys. ys ++ f x ∷ []) (map-reverse f xs)
    ∙ sym (reverse-append (f x ∷ []) (map f xs))

pub returns-clause-members : goal.returns-clause-members
returns-clause-members c =
    ap texts c.reverse.ensures.items ∙ map-reverse (λ (m : ArrayVec ℕ). m.items) c.push_to.new.out.items
    ∙ ap reverse c.push_to.ensures.members ∙ reverse-reverse (reported_members (members_at c.args.place c.args.members.now.items.items))
