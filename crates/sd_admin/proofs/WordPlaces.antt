-- Where the words of a line stand.
use Rattle.std.proofs.Common.{◌≡◌, ℕ, ◌+◌, ◌-◌, ◌<◌, ◌≤◌, Bool, true, false, cond, not, List, [], ◌∷◌, ◌++◌, length, take, drop, refl, sym, ap, subst, ◌∙◌, arith, Option, Some, None, ltb, suc, append-nil}
use Rattle.std.specs.Prelude.{unwrap_or, ◌==◌, slice_get}
use Rattle.std.specs.List.{AllByRecursion, position_or_len}
use Rattle.std.proofs.lemmas.List.{take-append-drop, take_rest}
use Rattle.std.proofs.lemmas.List.Elements.{All-from_recursion}
use Rattle.std.proofs.lemmas.Bool.Decides.{nat_tests}
use Rattle.std.proofs.lemmas.List.Sums.{prefix_len-le-length}
use Rattle.sd_model_text.specs.Lists.{is_white_space}
use Rattle.sd_model_record.specs.Admin.{words}
use Rattle.sd_admin.specs.Words.{IsWord}
use Rattle.sd_admin.proofs.WordLemmas.{words-blank, words-word, words-more}

by_test : (p n : ℕ) (b : Bool) → ltb p n ≡ b → p ≤ n → unwrap_or (cond b (Some p) None) n ≡ p
by_test p n true is within = refl
by_test p n false is within = grind (arith, nat_tests)

-- the first place, or the length where there is none
pub place_or_len : (p : ℕ → Bool) (xs : List ℕ) (r : Option ℕ) → r ≡ cond (ltb (position_or_len p xs) (length xs)) (Some (position_or_len p xs)) None → unwrap_or r (length xs) ≡ position_or_len p xs
place_or_len p xs r is =
    ap (λ o. unwrap_or o (length xs)) is ∙ by_test (position_or_len p xs) (length xs) (ltb (position_or_len p xs) (length xs)) refl (prefix_len-le-length (λ x. not (p x)) xs)

-- what a list begins with, where it has anything
abbrev BeginsWith : (ℕ → Type 0) → List ℕ → Type 0
BeginsWith P [] = Unit {0}
BeginsWith P (b ∷ bs) = P b

-- the white space before a line's first word has n bytes
record AreBlanks (line : List ℕ) (n : ℕ) : Type 0 where
  same : words (drop n line) ≡ words line
  plain : BeginsWith (λ b. is_white_space b ≡ false) (drop n line)

one_more : (n : ℕ) → 1 + n ≡ suc n
one_more n = omega arith

past : (b : Bool) (x : ℕ) (xs : List ℕ) (n : ℕ) → is_white_space x ≡ b → AreBlanks xs n → AreBlanks (x ∷ xs) (cond (not (not b)) (1 + n) 0)
past true x xs n is h =
    subst (AreBlanks (x ∷ xs)) (sym (one_more n)) (record { same = h.same ∙ sym (words-blank x xs is); plain = h.plain })
past false x xs n is h = record { same = refl; plain = is }

blanks : (line : List ℕ) → AreBlanks line (position_or_len (λ b. not (is_white_space b)) line)
blanks [] = record { same = refl; plain = tt }
blanks (x ∷ xs) = past (is_white_space x) x xs (position_or_len (λ b. not (is_white_space b)) xs) refl (blanks xs)

-- the first n bytes have no white space, and the next is white space, where there is one
record IsDense (text : List ℕ) (n : ℕ) : Type 0 where
  dense : AllByRecursion (λ b. is_white_space b ≡ false) (take n text)
  ends : BeginsWith (λ b. is_white_space b ≡ true) (drop n text)

further : (b : Bool) (x : ℕ) (xs : List ℕ) (n : ℕ) → is_white_space x ≡ b → IsDense xs n → IsDense (x ∷ xs) (cond (not b) (1 + n) 0)
further true x xs n is h = record { dense = tt; ends = is }
further false x xs n is h = subst (IsDense (x ∷ xs)) (sym (one_more n)) (record { dense = (is, h.dense); ends = h.ends })

dense_until : (text : List ℕ) → IsDense text (position_or_len is_white_space text)
dense_until [] = record { dense = tt; ends = tt }
dense_until (x ∷ xs) = further (is_white_space x) x xs (position_or_len is_white_space xs) refl (dense_until xs)

-- a word, and what stands behind it
word_and_rest : (word rest : List ℕ) → IsWord word → BeginsWith (λ b. is_white_space b ≡ true) rest → words (word ++ rest) ≡ word ∷ words rest
word_and_rest word [] h ends = ap words (append-nil word) ∙ words-word word h
word_and_rest word (b ∷ rest) h ends = words-more word b rest h ends ∙ ap (λ ws. word ∷ ws) (sym (words-blank b rest ends))

some_taken : (text : List ℕ) → BeginsWith (λ b. is_white_space b ≡ false) text → 0 < length text → 0 < length (take (position_or_len is_white_space text) text)
some_taken [] plain some = absurd (omega (arith, some))
some_taken (x ∷ xs) plain some =
    let at : position_or_len is_white_space (x ∷ xs) ≡ suc (position_or_len is_white_space xs) = ap (λ b. cond (not b) (1 + position_or_len is_white_space xs) 0) plain ∙ one_more (position_or_len is_white_space xs) in
    subst (λ n. 0 < length (take n (x ∷ xs))) (sym at) (omega arith)

nothing : (xs : List ℕ) → (length xs == 0) ≡ true → xs ≡ []
nothing [] h = refl
nothing (x ∷ xs) h = absurd (grind (arith, nat_tests))

something : (xs : List ℕ) → (length xs == 0) ≡ false → 0 < length xs
something xs h = grind (arith, nat_tests)

-- the first word behind the white space before it, and the words behind it
module _ (line from : List ℕ) (n : ℕ) (start : n ≡ position_or_len (λ b. not (is_white_space b)) line) (part : from ≡ take (length line - n) (drop n line)) where
  is : from ≡ drop (position_or_len (λ b. not (is_white_space b)) line) line
  is = part ∙ take_rest line n ∙ ap (λ m. drop m line) start

  same : words from ≡ words line
  same = ap words is ∙ (blanks line).same

  pub no_word : (length from == 0) ≡ true → words line ≡ []
  no_word none = sym same ∙ ap words (nothing from none)

  pub next_word : (text rest : List ℕ) (m : ℕ) → m ≡ position_or_len is_white_space from → (length from == 0) ≡ false → text ≡ take m from → rest ≡ drop m from → words line ≡ text ∷ words rest
  next_word text rest m end some prefix back =
      let cut = dense_until from in
      let plain = subst (BeginsWith (λ b. is_white_space b ≡ false)) (sym is) (blanks line).plain in
      let word : IsWord (take (position_or_len is_white_space from) from) = record { some = some_taken from plain (something from some); dense = All-from_recursion (λ b. is_white_space b ≡ false) (take (position_or_len is_white_space from) from) cut.dense } in
      sym same ∙ ap words (sym (take-append-drop (position_or_len is_white_space from) from))
      ∙ word_and_rest (take (position_or_len is_white_space from) from) (drop (position_or_len is_white_space from) from) word cut.ends
      ∙ ap (λ t. t ∷ words (drop (position_or_len is_white_space from) from)) (sym (prefix ∙ ap (λ k. take k from) end)) ∙ ap (λ r. text ∷ words r) (sym (back ∙ ap (λ k. drop k from) end))

-- what is left of all words behind the first n
abbrev pub IsLeft : List (List ℕ) → ℕ → List (List ℕ) → Type 0
IsLeft all n left = (j : ℕ) → slice_get all (n + j) ≡ slice_get left j

pub all_left : (all : List (List ℕ)) → IsLeft all 0 all
all_left all j = let none : 0 + j ≡ j = omega arith in ap (slice_get all) none

pub one_less : (all left more : List (List ℕ)) (n : ℕ) (word : List ℕ) → IsLeft all n left → left ≡ word ∷ more → IsLeft all (n + 1) more
one_less all left more n word h is j =
    let next : n + 1 + j ≡ n + suc j = omega arith in
    ap (slice_get all) next ∙ h (suc j) ∙ ap (λ ws. slice_get ws (suc j)) is

pub none_left : (all left : List (List ℕ)) (n i : ℕ) → IsLeft all n left → left ≡ [] → n ≤ i → slice_get all i ≡ None
none_left all left n i h is within =
    let place : i ≡ n + (i - n) = omega (arith, within) in
    ap (slice_get all) place ∙ h (i - n) ∙ ap (λ ws. slice_get ws (i - n)) is

pub next_left : (all left more : List (List ℕ)) (n i : ℕ) (word : List ℕ) → IsLeft all n left → left ≡ word ∷ more → i ≡ n → slice_get all i ≡ Some word
next_left all left more n i word h is at =
    let place : i ≡ n + 0 = omega (arith, at) in
    ap (slice_get all) place ∙ h 0 ∙ ap (λ ws. slice_get ws 0) is
