-- A piece without exponents is read as before.
use Rattle.std.proofs.Common.{◌≡◌, ℕ, ◌*◌, ◌^◌, ℤ, pos, Bool, true, false, cond, not, ◌||◌, ◌&&◌, List, [], ◌∷◌, ◌++◌, length, take, drop, refl, sym, ap, ◌∙◌, Option, Some, None, Result, Ok, Err, ok_or, unwrap_or, arith}
use Rattle.std.specs.List.{list_any, position_or_len, before_first, after_first}
use Rattle.std.specs.Str.Parse.{digits_value}
use Rattle.std.specs.Prelude.{nat_lt, ◌==◌}
use Rattle.std.proofs.Math.Bool.{or-false}
use Rattle.std.proofs.Math.Seq.{take-length}
use Rattle.std.proofs.Math.ListN.{drop_of_length-le}
use Rattle.sd_model_text.specs.Lists.{split, cut_at, Cut, ◌>>=◌}
use Rattle.sd_model_text.specs.Names.{Kind, Counter, Timer, Gauge, Set, clean}
use Rattle.sd_model_text.specs.Numbers.{NumberFlaw, BadShape, rounded, is_mark, is_digits, within_range, magnitude_of_sides, magnitude_by, exponent_of, decimal_magnitude, decimal_value, has_minus, has_sign, without_sign, with_sign}
use Rattle.sd_law_text.specs.Bytes.{HasNoMark, has_byte}
use Rattle.sd_model_text.specs.Lines.{Sample, Flaw, BadRate, NegativeTimer, LongMember, ExtraField, typed, unless_so, field, timer_value, value_of, within_rate, rate_of, sample, is_below_zero, is_long_member, reading_behind, reading}
use Rattle.sd_law_text.specs.Grammar.{IsPiece, fields_of}
use Rattle.sd_law_text.specs.Before.{sides_before, value_before, number_before, rate_before, is_over_before, behind_before, cut_before, reading_before}
use Rattle.sd_model_text.proofs.Short.{reading_cut, named, valued, is_over, is_point}

-- the exponent 0 leaves the exact fraction
sides_stay : (whole fraction : List ℕ) → magnitude_of_sides whole fraction (pos 0) ≡ sides_before whole fraction
sides_stay whole fraction =
    let up : digits_value 10 (whole ++ fraction) * 1000000 * 1 ≡ digits_value 10 (whole ++ fraction) * 1000000 = omega arith in
    let down : 10 ^ length fraction * 1 ≡ 10 ^ length fraction = omega arith in
    ap (λ n. cond (is_digits (whole ++ fraction)) (within_range (rounded n (10 ^ length fraction * 1))) (Err BadShape)) up
    ∙ ap (λ n. cond (is_digits (whole ++ fraction)) (within_range (rounded (digits_value 10 (whole ++ fraction) * 1000000) n)) (Err BadShape)) down

no_place : (b : Bool) (p : ℕ → Bool) (x : ℕ) (xs : List ℕ) → (b || list_any p xs) ≡ false → (list_any p xs ≡ false → position_or_len p xs ≡ length xs) → p x ≡ b → position_or_len p (x ∷ xs) ≡ length (x ∷ xs)
no_place true p x xs none inner is = absurd (cc)
no_place false p x xs none inner is = rw is (omega (arith, inner none))

-- what no element of a list passes stands behind it
nowhere : (p : ℕ → Bool) (xs : List ℕ) → list_any p xs ≡ false → position_or_len p xs ≡ length xs
nowhere p [] none = refl
nowhere p (x ∷ xs) none = no_place (p x) p x xs none (nowhere p xs) refl

magnitude_stays : (text : List ℕ) → HasNoMark text → decimal_magnitude text ≡ sides_before (before_first is_point text) (after_first is_point text)
magnitude_stays text none =
    let end = nowhere is_mark text none in
    let whole : take (position_or_len is_mark text) text ≡ text = ap (λ n. take n text) end ∙ take-length text in
    let rest : drop (position_or_len is_mark text) text ≡ [] = ap (λ n. drop n text) end ∙ drop_of_length-le text (omega arith) in
    ap (λ xs. magnitude_by xs (exponent_of (drop (position_or_len is_mark text) text))) whole
    ∙ ap (λ xs. magnitude_by text (exponent_of xs)) rest
    ∙ sides_stay (before_first is_point text) (after_first is_point text)

by_sign : (b : Bool) (x : ℕ) (xs : List ℕ) → HasNoMark (x ∷ xs) → HasNoMark (cond b xs (x ∷ xs))
by_sign false x xs none = none
by_sign true x xs none = behind (is_mark x) none
  where
    behind : (b : Bool) → (b || list_any is_mark xs) ≡ false → list_any is_mark xs ≡ false
    behind true h = absurd (cc)
    behind false h = h

unsigned_lacks : (text : List ℕ) → HasNoMark text → HasNoMark (without_sign text)
unsigned_lacks [] none = none
unsigned_lacks (x ∷ xs) none = by_sign (x == 45 || x == 43) x xs none

pub value_stays : (text : List ℕ) → HasNoMark text → decimal_value text ≡ value_before text
value_stays text none = ap (with_sign (has_minus text)) (magnitude_stays (without_sign text) (unsigned_lacks text none))

number_stays : (kind : Kind) (text : List ℕ) → HasNoMark text → value_of kind text ≡ number_before kind text
number_stays Counter text none = value_stays text none
number_stays Timer text none = ap timer_value (value_stays text none)
number_stays Gauge text none = value_stays text none
number_stays Set text none = refl

later : (b : Bool) (xs : List ℕ) → (b || list_any is_mark xs) ≡ false → list_any is_mark xs ≡ false
later true xs h = absurd (cc)
later false xs h = h

rate_stays : (text : List ℕ) → HasNoMark text → rate_of text ≡ rate_before text
rate_stays [] none = refl
rate_stays (b ∷ text) none =
    ap (λ v. cond (b == 64 && not (has_sign text)) (within_rate v) None) (value_stays text (later (is_mark b) text none))

-- without a further colon a piece is over where it has a fourth field
over_stays : (fields : List (List ℕ)) (rest : List ℕ) → has_byte 58 rest ≡ false → is_over fields ≡ is_over_before fields rest
over_stays fields rest alone = sym (ap (λ b. nat_lt 3 (length fields) || b) alone ∙ or-false (nat_lt 3 (length fields)))

-- what is read once the kind is known
abbrev steps : List ℕ → List ℕ → Kind → Result ℤ NumberFlaw → Option ℕ → Bool → Result Sample Flaw
steps name text kind number rate over = (valued number) >>= (λ v. (ok_or rate BadRate) >>= (λ r. (unless_so (is_below_zero kind v) NegativeTimer) >>= (λ above. (named (clean name)) >>= (λ key. (unless_so (is_long_member kind text) LongMember) >>= (λ short. (unless_so over ExtraField) >>= (λ whole. Ok (sample kind key text v r)))))))

by_kind : (name rest : List ℕ) (fields : List (List ℕ)) (k : Result Kind Flaw) → has_byte 58 rest ≡ false → HasNoMark (field 0 fields) → HasNoMark (field 2 fields)
    → (k >>= (λ kind. steps name (field 0 fields) kind (value_of kind (field 0 fields)) (rate_of (field 2 fields)) (is_over fields))) ≡ (k >>= (λ kind. steps name (field 0 fields) kind (number_before kind (field 0 fields)) (rate_before (field 2 fields)) (is_over_before fields rest)))
by_kind name rest fields (Err flaw) alone value rate = refl
by_kind name rest fields (Ok kind) alone value rate =
    ap (λ n. steps name (field 0 fields) kind n (rate_of (field 2 fields)) (is_over fields)) (number_stays kind (field 0 fields) value)
    ∙ ap (λ r. steps name (field 0 fields) kind (number_before kind (field 0 fields)) r (is_over fields)) (rate_stays (field 2 fields) rate)
    ∙ ap (λ o. steps name (field 0 fields) kind (number_before kind (field 0 fields)) (rate_before (field 2 fields)) o) (over_stays fields rest alone)

behind_stays : (name rest : List ℕ) (fields : List (List ℕ)) → has_byte 58 rest ≡ false → HasNoMark (field 0 fields) → HasNoMark (field 2 fields) → reading_behind name fields ≡ behind_before name rest fields
unfolding reading_behind behind_before
behind_stays name rest fields alone value rate = by_kind name rest fields (typed (field 1 fields)) alone value rate

by_cut : (line : List ℕ) (c : Option Cut) → has_byte 58 (unwrap_or c (record { part = line; rest = [] })).rest ≡ false → HasNoMark (field 0 (split 124 (unwrap_or c (record { part = line; rest = [] })).rest)) → HasNoMark (field 2 (split 124 (unwrap_or c (record { part = line; rest = [] })).rest)) → reading_cut c ≡ cut_before c
by_cut line None alone value rate = refl
by_cut line (Some c) alone value rate = behind_stays c.part c.rest (split 124 c.rest) alone value rate

pub reading_stays : (line : List ℕ) → IsPiece line → HasNoMark (field 0 (fields_of line)) → HasNoMark (field 2 (fields_of line)) → reading line ≡ reading_before line
reading_stays line alone value rate = by_cut line (cut_at 58 line) alone value rate
