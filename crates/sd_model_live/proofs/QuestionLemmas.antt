-- Questions, one after another.
use Rattle.std.proofs.Common.{◌≡◌, ℕ, ◌+◌, cond, List, [], ◌∷◌, ◌++◌, Option, Some, None, refl, sym, ap, ◌∙◌, subst, arith}
use Rattle.std.specs.Option.{is_none}
use Rattle.std.specs.Prelude.{count_by}
use Rattle.std.proofs.lemmas.List.Sums.{sum_by-append, sum_by-cons}
use Rattle.sd_model_outside.specs.Outside.{Object, Place, RoseBy}
use Rattle.sd_model_outside.specs.Uses.{HasAsked, AreAsked}

-- questions after questions
pub AreAsked-append : (ps qs : List Place) (xs ys : List (Option (List ℕ))) (a b c : Object) → AreAsked ps xs a b → AreAsked qs ys b c → AreAsked (ps ++ qs) (xs ++ ys) a c
AreAsked-append [] qs [] ys a b c first second = subst (λ (o : Object). AreAsked qs ys o c) first second
AreAsked-append (p ∷ ps) qs (x ∷ xs) ys a b c first second = (first.0, first.1, AreAsked-append ps qs xs ys first.0 b c first.2 second)
AreAsked-append [] qs (x ∷ xs) ys a b c first second = absurd first
AreAsked-append (p ∷ ps) qs [] ys a b c first second = absurd first

-- one question
pub AreAsked-one : (p : Place) (answer : Option (List ℕ)) (a b : Object) → HasAsked p answer a b → AreAsked (p ∷ []) (answer ∷ []) a b
AreAsked-one p answer a b asked = (b, asked, refl)

-- how many of two lists of questions failed
pub failed-append : (xs ys : List (Option (List ℕ))) → count_by is_none (xs ++ ys) ≡ count_by is_none xs + count_by is_none ys
failed-append xs ys = sum_by-append (λ x. cond (is_none x) 1 0) xs ys

-- how many failed, the first and the others
failed-cons : (x : Option (List ℕ)) (xs : List (Option (List ℕ))) → count_by is_none (x ∷ xs) ≡ cond (is_none x) 1 0 + count_by is_none xs
failed-cons x xs = sum_by-cons (λ x. cond (is_none x) 1 0) x xs

-- a count of faults that rose by m and then by n
rose_twice : (m n a b c : ℕ) → RoseBy m a b → RoseBy n b c → RoseBy (m + n) a c
rose_twice m n a b c first second = omega (arith, first, second)

-- the faults rise by as many as questions failed
pub failed-rise : (ps : List Place) (xs : List (Option (List ℕ))) (a b : Object) → AreAsked ps xs a b → RoseBy (count_by is_none xs) a.faults b.faults
failed-rise [] [] a b asked = let same : b.faults ≡ a.faults = ap (λ (o : Object). o.faults) asked in omega (arith, same)
failed-rise (p ∷ ps) (x ∷ xs) a b asked = subst (λ n. RoseBy n a.faults b.faults) (sym (failed-cons x xs)) (rose_twice (cond (is_none x) 1 0) (count_by is_none xs) a.faults asked.0.faults b.faults (one x asked.1) (failed-rise ps xs asked.0 b asked.2))
  where
    one : (x : Option (List ℕ)) → HasAsked p x a asked.0 → RoseBy (cond (is_none x) 1 0) a.faults asked.0.faults
    one None h = h.faults
    one (Some line) h = let same : asked.0.faults ≡ a.faults = h.faults in omega (arith, same)
failed-rise [] (x ∷ xs) a b asked = absurd asked
failed-rise (p ∷ ps) [] a b asked = absurd asked

-- and stay where none failed
pub failed-steady : (ps : List Place) (xs : List (Option (List ℕ))) (a b : Object) → AreAsked ps xs a b → count_by is_none xs ≡ 0 → b.faults ≡ a.faults
failed-steady [] [] a b asked none = ap (λ (o : Object). o.faults) asked
failed-steady (p ∷ ps) (Some line ∷ xs) a b asked none =
    let all : count_by is_none (Some line ∷ xs) ≡ 0 + count_by is_none xs = failed-cons (Some line) xs in
    failed-steady ps xs asked.0 b asked.2 (omega (arith, all, none)) ∙ asked.1.faults
failed-steady (p ∷ ps) (None ∷ xs) a b asked none = absurd (let all : count_by is_none (None ∷ xs) ≡ 1 + count_by is_none xs = failed-cons None xs in omega (arith, all, none))
failed-steady [] (x ∷ xs) a b asked none = absurd asked
failed-steady (p ∷ ps) [] a b asked none = absurd asked
