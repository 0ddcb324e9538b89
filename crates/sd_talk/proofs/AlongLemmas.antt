-- Lists one behind another: what holds of each, and what they lead to.
use Rattle.std.proofs.Common.{List, [], ◌∷◌, ◌++◌, subst}
use Rattle.std.specs.List.{AllByRecursion, AllZip}
use Rattle.sd_talk.specs.Answers.{Along}

pub all-append : {X : Type 0} (P : X → Type 0) (xs ys : List X) → AllByRecursion P xs → AllByRecursion P ys → AllByRecursion P (xs ++ ys)
all-append P [] ys a b = b
all-append P (x ∷ xs) ys a b = (a.0, all-append P xs ys a.1 b)

pub zip-append : {X Y : Type 0} (P : X → Y → Type 0) (xs us : List X) (ys vs : List Y) → AllZip P xs ys → AllZip P us vs → AllZip P (xs ++ us) (ys ++ vs)
zip-append P [] us [] vs a b = b
zip-append P (x ∷ xs) us (y ∷ ys) vs a b = (a.0, zip-append P xs us ys vs a.1 b)
zip-append P [] us (y ∷ ys) vs a b = absurd a
zip-append P (x ∷ xs) us [] vs a b = absurd a

module _ {E V : Type 0} (leads : E → V → V → Type 0) where
  pub Along-append : (xs ys : List E) (old mid new : V) → Along leads xs old mid → Along leads ys mid new → Along leads (xs ++ ys) old new
  Along-append [] ys old mid new first second = subst (λ (m : V). Along leads ys m new) first second
  Along-append (x ∷ xs) ys old mid new first second = (first.0, first.1, Along-append xs ys first.0 mid new first.2 second)
