-- The two sides of the point in a number text, by the digits that the text begins with.
use Rattle.std.proofs.Common.{◌≡◌, ◌≢◌, ℕ, ℤ, ◌+◌, ◌*◌, ◌^◌, ◌<◌, ◌≤◌, Bool, true, false, cond, List, [], ◌∷◌, ◌++◌, length, take, drop, get_or, Some, Err, refl, sym, ap, ◌∙◌, ⊎_elim, eq-eqb, arith, length-append}
use Rattle.std.specs.Prelude.{not}
use Rattle.std.specs.Char.{is_ascii_digit}
use Rattle.std.specs.List.{list_all, prefix_len, position_or_len, before_first, after_first}
use Rattle.std.specs.Str.Parse.{digits_value, digits_value_after}
use Rattle.std.proofs.Math.ListN.{drop_of_length-le}
use Rattle.std.proofs.Math.Numerals.{one-add}
use Rattle.std.proofs.lemmas.Bool.{and_from, and_left, and_right, both_ways, cond-true, cond-false, cases_lt, eqb-true, lt-ltb, le-ltb, not-false}
use Rattle.std.proofs.lemmas.List.{get_or-take, length-take-le}
use Rattle.std.proofs.lemmas.List.Folds.{list_all-append, list_all_at}
use Rattle.std.proofs.lemmas.List.Sums.{position_or_len_is, prefix_len_passes, prefix_len_stops, prefix_len-le-length}
use Rattle.sd_model_text.specs.Numbers.{rounded, raised, lowered, BadShape, within_range, magnitude_of_sides, magnitude_by}
use Rattle.sd_decimal.proofs.Digits.{digits_value-append}
use Rattle.sd_model_text.proofs.Short.{is_point}

digit_no_point : (b : ℕ) → is_ascii_digit b ≡ true → is_point b ≡ false
digit_no_point b digit = grind arith

-- a byte that no digit is
sides_bad_byte : (whole fraction : List ℕ) (e : ℤ) → list_all is_ascii_digit (whole ++ fraction) ≡ false → magnitude_of_sides whole fraction e ≡ Err BadShape
sides_bad_byte whole fraction e bad = cond-false _ _ _ (and_left _ _ bad)

pub sides_bad : (whole fraction : List ℕ) (e : ℤ) → list_all is_ascii_digit fraction ≡ false → magnitude_of_sides whole fraction e ≡ Err BadShape
sides_bad whole fraction e bad =
    sides_bad_byte whole fraction e (list_all-append is_ascii_digit whole fraction ∙ and_right _ _ bad)

pub sides_none : (whole fraction : List ℕ) (e : ℤ) → length whole + length fraction ≡ 0 → magnitude_of_sides whole fraction e ≡ Err BadShape
sides_none whole fraction e empty =
    cond-false _ _ _ (and_right _ _ (le-ltb 0 (length (whole ++ fraction)) (omega (arith, length-append whole fraction))))

leading_by_test : (b : ℕ) (bs : List ℕ) (t : Bool) → is_ascii_digit b ≡ t → list_all is_ascii_digit (take (prefix_len is_ascii_digit bs) bs) ≡ true → list_all is_ascii_digit (take (cond t (1 + prefix_len is_ascii_digit bs) 0) (b ∷ bs)) ≡ true
leading_by_test b bs true digit rest = rw one-add (and_from _ _ digit rest)
leading_by_test b bs false other rest = refl

leading_all : (text : List ℕ) → list_all is_ascii_digit (take (prefix_len is_ascii_digit text) text) ≡ true
leading_all [] = refl
leading_all (b ∷ bs) = leading_by_test b bs (is_ascii_digit b) refl (leading_all bs)

pub leading_digits : (text : List ℕ) (n : ℕ) → n ≡ prefix_len is_ascii_digit text → list_all is_ascii_digit (take n text) ≡ true
leading_digits text n digits = ap (λ k. list_all is_ascii_digit (take k text)) digits ∙ leading_all text

pub length-leading_digits : (text : List ℕ) (n : ℕ) → n ≡ prefix_len is_ascii_digit text → length (take n text) ≡ n
length-leading_digits text n digits =
    length-take-le n text (omega (arith, prefix_len-le-length is_ascii_digit text))

-- the digits that a text begins with
module _ (text : List ℕ) (n : ℕ) (digits : n ≡ prefix_len is_ascii_digit text) (e : ℤ) where
  within : n ≤ length text
  within = omega (arith, prefix_len-le-length is_ascii_digit text)

  no_point : (k : ℕ) → k < n → is_point (get_or text k 0) ≡ false
  no_point k h = digit_no_point _ (prefix_len_passes is_ascii_digit text k 0 (omega arith))

  -- the first point stands behind these digits, where a point or nothing follows them
  point_place : (n < length text → get_or text n 0 ≡ 46) → position_or_len is_point text ≡ n
  point_place follows = position_or_len_is is_point text n 0 within no_point (λ h. eq-eqb _ 46 (follows h))

  pub sides_end : length text ≤ n → magnitude_by text (Some e) ≡ magnitude_of_sides (take n text) [] e
  sides_end end =
      ap (λ p. magnitude_of_sides (take p text) (drop (p + 1) text) e) (point_place (λ h. absurd (omega arith)))
      ∙ ap (λ back. magnitude_of_sides (take n text) back e) (drop_of_length-le text (omega arith))

  pub sides_point : get_or text n 0 ≡ 46 → magnitude_by text (Some e) ≡ magnitude_of_sides (take n text) (drop (n + 1) text) e
  sides_point point = ap (λ p. magnitude_of_sides (take p text) (drop (p + 1) text) e) (point_place (λ h. point))

  -- where another byte follows them, it stands before the first point
  before_point : n < length text → get_or text n 0 ≢ 46 → n < position_or_len is_point text
  before_point inside other =
      let place = position_or_len is_point text in
      ⊎_elim (λ h. h)
      (λ early.
      let point : is_point (get_or text place 0) ≡ true =
      not-false _ (prefix_len_stops (λ b. not (is_point b)) text 0 (omega arith)) in
      ⊎_elim (λ sooner. absurd (both_ways _ (no_point place sooner) point))
      (λ later.
      let here : place ≡ n = omega arith in
      absurd (other (eqb-true _ 46 (ap (λ k. is_point (get_or text k 0)) (sym here) ∙ point))))
      (cases_lt place n))
      (cases_lt n place)

  pub sides_other : n < length text → get_or text n 0 ≢ 46 → magnitude_by text (Some e) ≡ Err BadShape
  sides_other inside other =
      let place = position_or_len is_point text in
      let prefix = before_first is_point text in
      let back = after_first is_point text in
      let before : n < place = before_point inside other in
      let long : length prefix ≡ place = length-take-le place text (prefix_len-le-length (λ b. not (is_point b)) text) in
      let bad : is_ascii_digit (get_or prefix n 0) ≡ false =
      ap is_ascii_digit (get_or-take place text n 0 before) ∙ ap (λ k. is_ascii_digit (get_or text k 0)) digits
      ∙ prefix_len_stops is_ascii_digit text 0 (omega arith) in
      sides_bad_byte prefix back e
      (list_all-append is_ascii_digit prefix back ∙ and_left _ _ (list_all_at is_ascii_digit prefix n 0 (omega arith) bad))

-- digits on both sides, of which some stand there
pub sides_digits : (whole fraction : List ℕ) (e : ℤ) → list_all is_ascii_digit whole ≡ true → list_all is_ascii_digit fraction ≡ true → 0 < length whole + length fraction → magnitude_of_sides whole fraction e ≡ within_range (rounded (digits_value_after 10 (digits_value 10 whole) fraction * 1000000 * raised e) (10 ^ length fraction * lowered e))
sides_digits whole fraction e left right some =
    cond-true _ _ _
    (and_from _ _ (list_all-append is_ascii_digit whole fraction ∙ and_from _ _ left right)
    (lt-ltb 0 (length (whole ++ fraction)) (omega (arith, length-append whole fraction))))
    ∙ ap (λ n. within_range (rounded (n * 1000000 * raised e) (10 ^ length fraction * lowered e))) (digits_value-append whole fraction)
