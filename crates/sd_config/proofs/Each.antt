-- The elements of a list, with what was read of its start.
use Rattle.std.proofs.Common.{◌≡◌, ℕ, ◌<◌, ◌≤◌, Bool, true, false, cond, List, [], ◌∷◌, ◌++◌, length, Result, Ok, Err, refl, append_assoc, append-nil, length-append, le-leb, arith}
use Rattle.std.proofs.lemmas.Bool.Decides.{nat_tests}
use Rattle.sd_model_settings.specs.Values.{ValueFlaw, OtherKind, OutsideRange, both, mapped, ranged, are_at_most}

-- what the whole list is, where its prefix has the elements xs and `is_over` says whether one was out of range
-- or too many
abbrev pub onto : {A : Type 0} → ℕ → Bool → List A → Result (List A) ValueFlaw → Result (List A) ValueFlaw
onto n is_over xs (Ok ys) = cond is_over (Err OutsideRange) (ranged (are_at_most n) (Ok (xs ++ ys)))
onto n is_over xs (Err OtherKind) = Err OtherKind
onto n is_over xs (Err OutsideRange) = Err OutsideRange

-- an element before the others
abbrev pub before : {A : Type 0} → Result A ValueFlaw → Result (List A) ValueFlaw → Result (List A) ValueFlaw
before x r = mapped (λ p. p.0 ∷ p.1) (both x r)

pub onto_start : {A : Type 0} (n : ℕ) (r : Result (List A) ValueFlaw) → onto n false [] r ≡ ranged (are_at_most n) r
onto_start n (Ok ys) = refl
onto_start n (Err OtherKind) = refl
onto_start n (Err OutsideRange) = refl

too_many : {A : Type 0} (n : ℕ) (xs : List A) → n < length xs → ranged (are_at_most n) (Ok xs) ≡ Err OutsideRange
too_many n xs h = grind (arith, nat_tests)

pub onto_end : {A : Type 0} (n : ℕ) (xs : List A) → length xs ≤ n → onto n false xs (Ok []) ≡ Ok xs
onto_end n xs h = rw (append-nil, le-leb (length xs) n h)

-- one item more, at each of its cases
pub onto_element : {A : Type 0} (n : ℕ) (is_over : Bool) (xs : List A) (x : A) (r : Result (List A) ValueFlaw)
    → onto n is_over xs (before (Ok x) r) ≡ onto n is_over (xs ++ x ∷ []) r
onto_element n is_over xs x (Ok ys) = rw (append_assoc xs (x ∷ []) ys)
onto_element n is_over xs x (Err OtherKind) = refl
onto_element n is_over xs x (Err OutsideRange) = refl

pub onto_full : {A : Type 0} (n : ℕ) (is_over : Bool) (xs : List A) (x : A) (r : Result (List A) ValueFlaw) → length xs ≡ n
    → onto n is_over xs (before (Ok x) r) ≡ onto n true xs r
onto_full n true xs x (Ok ys) full = refl
onto_full n false xs x (Ok ys) full = too_many n (xs ++ x ∷ ys) (omega (arith, length-append xs (x ∷ ys)))
onto_full n is_over xs x (Err OtherKind) full = refl
onto_full n is_over xs x (Err OutsideRange) full = refl

pub onto_range : {A : Type 0} (n : ℕ) (is_over : Bool) (xs : List A) (r : Result (List A) ValueFlaw)
    → onto n is_over xs (before (Err OutsideRange) r) ≡ onto n true xs r
onto_range n is_over xs (Ok ys) = refl
onto_range n is_over xs (Err OtherKind) = refl
onto_range n is_over xs (Err OutsideRange) = refl

pub onto_kind : {A : Type 0} (n : ℕ) (is_over : Bool) (xs : List A) (r : Result (List A) ValueFlaw) → onto n is_over xs (before (Err OtherKind) r) ≡ Err OtherKind
onto_kind n is_over xs r = refl
