-- The words of lines.
use Rattle.std.proofs.Common.{◌≡◌, ℕ, zero, suc, ◌<◌, ◌≤◌, Bool, true, false, cond, not, List, [], ◌∷◌, ◌++◌, length, filter, refl, sym, ap, ◌∙◌, arith, append_assoc, append-nil}
use Rattle.std.specs.List.{All, AllByRecursion, slice_split, onto_first, join_with_byte}
use Rattle.std.proofs.lemmas.Bool.{cond-true, cond-false}
use Rattle.std.proofs.lemmas.List.Elements.{All-nil, All-cons, All-tail, All-weaker, All-from_recursion, recursion_from_All, filter-append}
use Rattle.std.proofs.lemmas.List.Splits.{slice_split-cons_yes, slice_split_none, slice_split_at, length-slice_split}
use Rattle.sd_model_text.specs.Lists.{is_white_space, unless_last, trim_end}
use Rattle.sd_model_text.specs.Lines.{is_empty}
use Rattle.sd_model_record.specs.Admin.{words}
use Rattle.sd_admin.specs.Words.{IsWord}

-- the parts that aren't empty
abbrev filled : List (List ℕ) → List (List ℕ)
filled parts = filter (λ part. not (is_empty part)) parts

-- a part without white space, of at most n bytes
record IsPart (n : ℕ) (part : List ℕ) : Type 0 where
  short : length part ≤ n
  dense : All (λ b. is_white_space b ≡ false) part

longer : (n : ℕ) (parts : List (List ℕ)) → All (IsPart n) parts → All (IsPart (suc n)) parts
longer n = All-weaker (IsPart n) (IsPart (suc n)) (λ part h. record { short = omega (arith, h.short); dense = h.dense })

before_parts : (n x : ℕ) (parts : List (List ℕ)) → is_white_space x ≡ false → All (IsPart n) parts → All (IsPart (suc n)) (onto_first x parts)
before_parts n x [] plain h =
    All-cons (IsPart (suc n)) (x ∷ []) [] (record { short = omega arith; dense = All-cons (λ b. is_white_space b ≡ false) x [] plain (All-nil (λ b. is_white_space b ≡ false)) }) (All-nil (IsPart (suc n)))
before_parts n x (part ∷ parts) plain h =
    let first : IsPart n part = h zero part (omega arith) in
    All-cons (IsPart (suc n)) (x ∷ part) parts
    (record { short = omega (arith, first.short); dense = All-cons (λ b. is_white_space b ≡ false) x part plain first.dense })
    (longer n parts (All-tail (IsPart n) part parts h))

by_byte : (b : Bool) (n x : ℕ) (parts : List (List ℕ)) → is_white_space x ≡ b → All (IsPart n) parts → All (IsPart (suc n)) (cond b ([] ∷ parts) (onto_first x parts))
by_byte true n x parts is h =
    All-cons (IsPart (suc n)) [] parts (record { short = omega arith; dense = All-nil (λ b. is_white_space b ≡ false) }) (longer n parts h)
by_byte false n x parts is h = before_parts n x parts is h

parts_of : (line : List ℕ) → All (IsPart (length line)) (slice_split is_white_space line)
parts_of [] = All-cons (IsPart zero) [] [] (record { short = omega arith; dense = All-nil (λ b. is_white_space b ≡ false) }) (All-nil (IsPart zero))
parts_of (x ∷ xs) = by_byte (is_white_space x) (length xs) x (slice_split is_white_space xs) refl (parts_of xs)

of_filled : (n : ℕ) (parts : List (List ℕ)) → AllByRecursion (IsPart n) parts → AllByRecursion (λ word. IsWord word × (length word ≤ n)) (filled parts)
of_filled n [] h = tt
of_filled n ([] ∷ parts) h = of_filled n parts h.1
of_filled n ((b ∷ bs) ∷ parts) h = ((record { some = omega arith; dense = h.0.dense }, h.0.short), of_filled n parts h.1)

-- the words of a line are words, and none is longer than the line
pub words_are : (line : List ℕ) → All (λ word. IsWord word × (length word ≤ length line)) (words line)
words_are line =
    All-from_recursion (λ word. IsWord word × (length word ≤ length line)) (words line)
    (of_filled (length line) (slice_split is_white_space line) (recursion_from_All (IsPart (length line)) (slice_split is_white_space line) (parts_of line)))

keeps : (text : List ℕ) (parts : List (List ℕ)) → 0 < length text → filled (text ∷ parts) ≡ text ∷ filled parts
keeps [] parts some = absurd (omega (arith, some))
keeps (x ∷ xs) parts some = refl

-- white space before it
pub words-blank : (b : ℕ) (line : List ℕ) → is_white_space b ≡ true → words (b ∷ line) ≡ words line
words-blank b line blank = ap filled (slice_split-cons_yes is_white_space b line blank)

-- a word alone
pub words-word : (text : List ℕ) → IsWord text → words text ≡ text ∷ []
words-word text h = ap filled (slice_split_none is_white_space text h.dense) ∙ keeps text [] h.some

-- a word with white space behind it
pub words-more : (text : List ℕ) (b : ℕ) (rest : List ℕ) → IsWord text → is_white_space b ≡ true → words (text ++ b ∷ rest) ≡ text ∷ words rest
words-more text b rest h blank =
    ap filled (slice_split_at is_white_space text b rest h.dense blank) ∙ keeps text (slice_split is_white_space rest) h.some

-- words with a space between them
pub words-joined : (parts : List (List ℕ)) → AllByRecursion IsWord parts → words (join_with_byte 32 parts) ≡ parts
words-joined [] h = refl
words-joined (t ∷ []) h = words-word t h.0
words-joined (t ∷ u ∷ ts) h = words-more t 32 (join_with_byte 32 (u ∷ ts)) h.0 refl ∙ ap (λ rest. t ∷ rest) (words-joined (u ∷ ts) h.1)

onto_first-push : (x : ℕ) (parts : List (List ℕ)) (part : List ℕ) → 0 < length parts → onto_first x (parts ++ part ∷ []) ≡ onto_first x parts ++ part ∷ []
onto_first-push x [] part some = absurd (omega (arith, some))
onto_first-push x (p ∷ parts) part some = refl

split-by : (b : Bool) (x : ℕ) (parts more : List (List ℕ)) → 0 < length parts → more ≡ parts ++ [] ∷ [] → cond b ([] ∷ more) (onto_first x more) ≡ cond b ([] ∷ parts) (onto_first x parts) ++ [] ∷ []
split-by true x parts more some is = ap (λ ps. [] ∷ ps) is
split-by false x parts more some is = ap (onto_first x) is ∙ onto_first-push x parts [] some

split-push : (line : List ℕ) (b : ℕ) → is_white_space b ≡ true → slice_split is_white_space (line ++ b ∷ []) ≡ slice_split is_white_space line ++ [] ∷ []
split-push [] b blank = slice_split-cons_yes is_white_space b [] blank
split-push (x ∷ xs) b blank =
    split-by (is_white_space x) x (slice_split is_white_space xs) (slice_split is_white_space (xs ++ b ∷ [])) (omega (arith, length-slice_split is_white_space xs)) (split-push xs b blank)

-- white space behind
words-push : (line : List ℕ) (b : ℕ) → is_white_space b ≡ true → words (line ++ b ∷ []) ≡ words line
words-push line b blank =
    ap filled (split-push line b blank) ∙ filter-append (λ part. not (is_empty part)) (slice_split is_white_space line) ([] ∷ []) ∙ append-nil (words line)

words-behind : (line blanks : List ℕ) → AllByRecursion (λ b. is_white_space b ≡ true) blanks → words (line ++ blanks) ≡ words line
words-behind line [] h = ap words (append-nil line)
words-behind line (b ∷ bs) h = ap words (sym (append_assoc line (b ∷ []) bs)) ∙ words-behind (line ++ b ∷ []) bs h.1 ∙ words-push line b h.0

-- what a trim cuts off
abbrev IsCutOff : List ℕ → List ℕ → Type 0
IsCutOff line kept = (blanks : List ℕ) × AllByRecursion (λ b. is_white_space b ≡ true) blanks × (line ≡ kept ++ blanks)

cut_more : (b : Bool) (x : ℕ) (xs kept : List ℕ) → is_white_space x ≡ b → IsCutOff xs kept → IsCutOff (x ∷ xs) (unless_last is_white_space x kept)
cut_more b x xs (y ∷ ys) is (blanks, all, whole) = (blanks, all, ap (λ l. x ∷ l) whole)
cut_more true x xs [] is (blanks, all, whole) = (x ∷ blanks, (is, all), ap (λ l. x ∷ l) whole ∙ ap (λ (l : List ℕ). l ++ x ∷ blanks) (sym (cond-true (is_white_space x) [] (x ∷ []) is)))
cut_more false x xs [] is (blanks, all, whole) = (blanks, all, ap (λ l. x ∷ l) whole ∙ ap (λ (l : List ℕ). l ++ blanks) (sym (cond-false (is_white_space x) [] (x ∷ []) is)))

cut_off : (line : List ℕ) → IsCutOff line (trim_end is_white_space line)
cut_off [] = ([], tt, refl)
cut_off (x ∷ xs) = cut_more (is_white_space x) x xs (trim_end is_white_space xs) refl (cut_off xs)

-- a line without the white space at its end
pub words-trimmed : (line : List ℕ) → words (trim_end is_white_space line) ≡ words line
words-trimmed line =
    let h = cut_off line in
    sym (ap words h.2 ∙ words-behind (trim_end is_white_space line) h.0 h.1)
