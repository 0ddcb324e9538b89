-- What one more byte of a name adds to its key, and names that are keys as they stand.
use Rattle.std.proofs.Common.{◌≡◌, ℕ, Bool, true, false, cond, List, [], ◌∷◌, ◌++◌, length, take, filter, ◌==◌, ◌<◌, ◌≤◌, not, arith, length-take, ap, refl, ◌∙◌, Ok}
use Rattle.std.specs.Bool.{then_some}
use Rattle.std.specs.List.{list_all}
use Rattle.std.specs.Option.{option_to_list}
use Rattle.std.proofs.lemmas.List.{map-append, take_all, take-append-le, length_push}
use Rattle.std.proofs.lemmas.List.Elements.{filter-append}
use Rattle.std.proofs.lemmas.List.Sums.{AllPass-from_list_all, fold_push}
use Rattle.sd_model_text.specs.Lists.{is_white_space}
use Rattle.sd_model_text.specs.Names.{as_key, clean, is_name_byte, underscored, cleaned}
use Rattle.sd_model_text.proofs.NamesLemmas.{as_key-fits, cleaned-names}
use Rattle.sd_key.specs.Clean.{ends_blank}
use Rattle.sd_model_text.proofs.Short.{dashed}

-- what that byte adds
abbrev pub piece : List ℕ → ℕ → List ℕ
piece prefix b = cond (is_white_space b) (cond (ends_blank prefix) [] (95 ∷ [])) (b ∷ [])

-- one byte and then another, where v and w say whether they are white space
two_bytes :
    (v w : Bool) (x b : ℕ) → let last = cond w (95 ∷ []) (b ∷ []) in
    cond v (cond w last (95 ∷ last)) (x ∷ last) ≡ cond v (95 ∷ []) (x ∷ []) ++ cond w (cond v [] (95 ∷ [])) (b ∷ [])
two_bytes true true x b = refl
two_bytes true false x b = refl
two_bytes false true x b = refl
two_bytes false false x b = refl

-- a byte before a list to which more was added
before_more :
    (v w : Bool) (x : ℕ) (old more new : List ℕ) → new ≡ old ++ more →
    cond v (cond w new (95 ∷ new)) (x ∷ new) ≡ cond v (cond w old (95 ∷ old)) (x ∷ old) ++ more
before_more true true x old more new h = h
before_more true false x old more new h = ap (λ xs. 95 ∷ xs) h
before_more false w x old more new h = ap (λ xs. x ∷ xs) h

-- one more byte at the end of a name, as far as white space goes
pub underscored-push : (prefix : List ℕ) (b : ℕ) → underscored (prefix ++ b ∷ []) ≡ underscored prefix ++ piece prefix b
underscored-push [] b = refl
underscored-push (x ∷ []) b = two_bytes (is_white_space x) (is_white_space b) x b
underscored-push (x ∷ y ∷ ys) b =
    before_more (is_white_space x) (is_white_space y) x _ _ _ (underscored-push (y ∷ ys) b)

-- what one more byte of a name adds to its key
pub cleaned-push :
    (prefix : List ℕ) (b : ℕ) → cleaned (prefix ++ b ∷ []) ≡ cleaned prefix ++ filter is_name_byte (dashed (piece prefix b))
cleaned-push prefix b =
    rw (underscored-push prefix b, map-append, filter-append) refl

-- white space adds a `_`, unless white space stands before it
pub cleaned-push_blank :
    (prefix : List ℕ) (b : ℕ) (after_blank : Bool) → ends_blank prefix ≡ after_blank → is_white_space b ≡ true →
    cleaned (prefix ++ b ∷ []) ≡ cleaned prefix ++ option_to_list (then_some (not after_blank) 95)
cleaned-push_blank prefix b true after blank = rw (cleaned-push prefix b, blank, after) refl
cleaned-push_blank prefix b false after blank = rw (cleaned-push prefix b, blank, after) refl

-- a slash adds `-`
pub cleaned-push_slash : (prefix : List ℕ) (b : ℕ) → b ≡ 47 → cleaned (prefix ++ b ∷ []) ≡ cleaned prefix ++ 45 ∷ []
cleaned-push_slash prefix b slash = rw (slash, cleaned-push prefix 47) refl

-- a list of one element or none
one_or_none : (keeps : Bool) (b : ℕ) → cond keeps (b ∷ []) [] ≡ option_to_list (then_some keeps b)
one_or_none true b = refl
one_or_none false b = refl

-- another byte adds itself where it is a byte of names
pub cleaned-push_other :
    (prefix : List ℕ) (b : ℕ) → is_white_space b ≡ false → b == 47 ≡ false →
    cleaned (prefix ++ b ∷ []) ≡ cleaned prefix ++ option_to_list (then_some (is_name_byte b) b)
cleaned-push_other prefix b other no_slash =
    rw (cleaned-push prefix b, other, no_slash) (ap (λ xs. cleaned prefix ++ xs) (one_or_none (is_name_byte b) b))

-- whether the prefix ends with white space, after one more byte
pub ends_blank-push : (prefix : List ℕ) (b : ℕ) → ends_blank (prefix ++ b ∷ []) ≡ is_white_space b
ends_blank-push prefix b = fold_push (λ _ x. is_white_space x) false prefix b

-- one more element goes on the end while there is room
pub take-push_room : (n : ℕ) (xs : List ℕ) (x : ℕ) → length (take n xs) < n → take n (xs ++ x ∷ []) ≡ take n xs ++ x ∷ []
take-push_room n xs x room =
    let all : length xs < n = omega (arith, length-take n xs) in
    rw (take_all n (xs ++ x ∷ []) (omega (arith, length_push xs x)), take_all n xs (omega arith)) refl

-- and no more goes on it then
pub take-push_full : (n : ℕ) (xs : List ℕ) (x : ℕ) → length (take n xs) ≡ n → take n (xs ++ x ∷ []) ≡ take n xs
take-push_full n xs x full = take-append-le n xs (x ∷ []) (omega (arith, length-take n xs))

-- a name of so many bytes that a key may have is its own key
pub stands : (name : List ℕ) → list_all is_name_byte name ≡ true → 0 < length name → length name ≤ 255 → clean name ≡ Ok name
stands name names some short = ap as_key (cleaned-names name (AllPass-from_list_all is_name_byte name names)) ∙ as_key-fits name some short
