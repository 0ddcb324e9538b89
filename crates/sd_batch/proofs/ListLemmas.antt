-- Lists of places.
use Rattle.std.proofs.Common.{◌≡◌, ◌≢◌, ℕ, zero, suc, ◌<◌, ◌≤◌, List, [], ◌∷◌, ◌++◌, length, get_or, set, refl, sym, ap, arith}
use Rattle.std.specs.List.{AllByRecursion}
use Rattle.std.specs.declared.alloc.Global.{Global}
use Rattle.std.specs.declared.vec.Vec.{Vec}
use Rattle.sd_batch.specs.Places.{places_at, AreEmpty}

pub All-push : {X : Type 0} (P : X → Type 0) (xs : List X) (x : X) → AllByRecursion P xs → P x → AllByRecursion P (xs ++ x ∷ [])
All-push P [] x all here = (here, tt)
All-push P (y ∷ xs) x all here = (all.0, All-push P xs x all.1 here)

pub All-put : {X : Type 0} (P : X → Type 0) (xs : List X) (i : ℕ) (x : X) → AllByRecursion P xs → P x → AllByRecursion P (set xs i x)
All-put P [] i x all here = tt
All-put P (y ∷ xs) zero x all here = (here, all.1)
All-put P (y ∷ xs) (suc i) x all here = (all.0, All-put P xs i x all.1 here)

pub All-at : {X : Type 0} (P : X → Type 0) (xs : List X) (i : ℕ) (d : X) → AllByRecursion P xs → i < length xs → P (get_or xs i d)
All-at P [] i d all below = absurd (omega (arith, below))
All-at P (x ∷ xs) zero d all below = all.0
All-at P (x ∷ xs) (suc i) d all below = All-at P xs i d all.1 (omega (arith, below))

pub AreEmpty-push : (lists : List (Vec ℕ Global)) (list : Vec ℕ Global) → AreEmpty lists → list.items ≡ [] → AreEmpty (lists ++ list ∷ [])
AreEmpty-push [] list are is zero = is
AreEmpty-push [] list are is (suc i) = refl
AreEmpty-push (l ∷ lists) list are is zero = are 0
AreEmpty-push (l ∷ lists) list are is (suc i) = AreEmpty-push lists list (λ j. are (suc j)) is i

-- where another list is put in the place of one
pub places_at-here : (lists : List (Vec ℕ Global)) (i : ℕ) (list : Vec ℕ Global) → i < length lists → places_at (set lists i list) i ≡ list.items
places_at-here [] i list below = absurd (omega (arith, below))
places_at-here (l ∷ lists) zero list below = refl
places_at-here (l ∷ lists) (suc i) list below = places_at-here lists i list (omega (arith, below))

pub places_at-other : (lists : List (Vec ℕ Global)) (i j : ℕ) (list : Vec ℕ Global) → j ≢ i → places_at (set lists i list) j ≡ places_at lists j
places_at-other [] i j list other = refl
places_at-other (l ∷ lists) zero zero list other = absurd (other refl)
places_at-other (l ∷ lists) zero (suc j) list other = refl
places_at-other (l ∷ lists) (suc i) zero list other = refl
places_at-other (l ∷ lists) (suc i) (suc j) list other = places_at-other lists i j list (λ is. other (ap suc is))

pub places_at-is : (lists : List (Vec ℕ Global)) (i : ℕ) (list : Vec ℕ Global) → i < length lists → list ≡ get_or lists i list → places_at lists i ≡ list.items
places_at-is [] i list below is = absurd (omega (arith, below))
places_at-is (l ∷ lists) zero list below is = ap (λ (v : Vec ℕ Global). v.items) (sym is)
places_at-is (l ∷ lists) (suc i) list below is = places_at-is lists i list (omega (arith, below)) is

-- behind the last list there is no place
pub places_at-beyond : (lists : List (Vec ℕ Global)) (i : ℕ) → length lists ≤ i → places_at lists i ≡ []
places_at-beyond [] i beyond = refl
places_at-beyond (l ∷ lists) zero beyond = absurd (omega (arith, beyond))
places_at-beyond (l ∷ lists) (suc i) beyond = places_at-beyond lists i (omega (arith, beyond))
