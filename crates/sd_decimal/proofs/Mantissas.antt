-- The digits of a number text with the point among them, and what stands behind them.
use Rattle.std.proofs.Common.{◌≡◌, ◌≢◌, ℕ, ℤ, suc, ◌+◌, ◌-◌, ◌<◌, ◌≤◌, true, false, List, [], ◌∷◌, length, take, drop, get_or, Option, Some, None, Result, Err, refl, sym, ap, ◌∙◌, ⊎_elim, arith, length-drop}
use Rattle.std.specs.Prelude.{not}
use Rattle.std.specs.Char.{is_ascii_digit}
use Rattle.std.specs.List.{prefix_len, position_or_len}
use Rattle.std.specs.Str.Parse.{digits_value, digits_value_after}
use Rattle.std.proofs.Math.ListN.{drop_of_length-le}
use Rattle.std.proofs.Math.Seq.{drop-cons}
use Rattle.std.proofs.lemmas.Bool.{both_ways, cond-true, cond-false, cases_Bool, cases_lt}
use Rattle.std.proofs.lemmas.List.{get_or-take, get_or-drop, take-take, drop-take, length-take-le}
use Rattle.std.proofs.lemmas.List.Folds.{list_all_at}
use Rattle.std.proofs.lemmas.List.Sums.{position_or_len_is, passes_at_first, prefix_len_is, prefix_len_passes, prefix_len_stops, prefix_len-le-length}
use Rattle.sd_model_text.specs.Numbers.{NumberFlaw, BadShape, is_mark, exponent_of, magnitude_of_sides, magnitude_by, decimal_magnitude}
use Rattle.sd_decimal.specs.Exponent.{exponent_at, placed}
use Rattle.sd_decimal.proofs.Sides.{leading_digits, length-leading_digits, sides_end, sides_point, sides_other, sides_bad, sides_none, sides_digits}

digit_no_mark : (b : ℕ) → is_ascii_digit b ≡ true → is_mark b ≡ false
digit_no_mark b digit = grind arith

by_exponent : (text : List ℕ) (g : Option ℤ → Result ℕ NumberFlaw) → Err BadShape ≡ g None → ((e : ℤ) → magnitude_by text (Some e) ≡ g (Some e)) → (o : Option ℤ) → magnitude_by text o ≡ g o
by_exponent text g none some None = none
by_exponent text g none some (Some e) = some e

-- Some first bytes of a text, none of which is a mark. What stands behind them is an exponent or not; and where it isn't, a
-- text that goes on is no number.
module _ (text : List ℕ) (n : ℕ) (within : n ≤ length text) (no_mark : (k : ℕ) → k < n → is_mark (get_or text k 0) ≡ false) (g : Option ℤ → Result ℕ NumberFlaw) (none : Err BadShape ≡ g None) (value : (e : ℤ) → magnitude_by (take n text) (Some e) ≡ g (Some e)) (longer : (p : ℕ) → n < p → p ≤ length text → (e : ℤ) → magnitude_by (take p text) (Some e) ≡ Err BadShape) where
  mark_here : position_or_len is_mark text ≡ n → exponent_of (drop n text) ≡ exponent_at (drop n text) → decimal_magnitude text ≡ g (exponent_at (drop n text))
  mark_here here same =
      ap (λ k. magnitude_by (take k text) (exponent_of (drop k text))) here
      ∙ ap (magnitude_by (take n text)) same
      ∙ by_exponent (take n text) g none value (exponent_at (drop n text))

  at_end : length text ≤ n → decimal_magnitude text ≡ g (exponent_at (drop n text))
  at_end end =
      let rest : drop n text ≡ [] = drop_of_length-le text end in
      mark_here (position_or_len_is is_mark text n 0 within no_mark (λ h. absurd (omega arith)))
      (ap exponent_of rest ∙ sym (ap exponent_at rest))

  at_mark : n < length text → is_mark (get_or text n 0) ≡ true → decimal_magnitude text ≡ g (exponent_at (drop n text))
  at_mark inside mark =
      let rest : drop n text ≡ get_or text n 0 ∷ drop (suc n) text = drop-cons text n 0 inside in
      mark_here (position_or_len_is is_mark text n 0 within no_mark (λ h. mark))
      (ap exponent_of rest ∙ sym (ap exponent_at rest ∙ cond-true _ _ _ mark))

  mark_later : is_mark (get_or text n 0) ≡ false → n < length text → n < position_or_len is_mark text
  mark_later other inside =
      let place = position_or_len is_mark text in
      ⊎_elim (λ h. h)
      (λ early.
      let mark : is_mark (get_or text place 0) ≡ true = passes_at_first is_mark text 0 (omega arith) in
      ⊎_elim (λ sooner. absurd (both_ways _ (no_mark place sooner) mark))
      (λ later.
      let here : place ≡ n = omega arith in
      absurd (both_ways _ (ap (λ k. is_mark (get_or text k 0)) here ∙ other) mark))
      (cases_lt place n))
      (cases_lt n place)

  at_other : n < length text → is_mark (get_or text n 0) ≡ false → decimal_magnitude text ≡ g (exponent_at (drop n text))
  at_other inside other =
      let place = position_or_len is_mark text in
      let rest : drop n text ≡ get_or text n 0 ∷ drop (suc n) text = drop-cons text n 0 inside in
      let nothing : exponent_at (drop n text) ≡ None = ap exponent_at rest ∙ cond-false _ _ _ other in
      by_exponent (take place text) (λ o. Err BadShape) refl
      (longer place (mark_later other inside) (prefix_len-le-length (λ b. not (is_mark b)) text))
      (exponent_of (drop place text))
      ∙ none ∙ sym (ap g nothing)

  pub magnitude_read : decimal_magnitude text ≡ g (exponent_at (drop n text))
  magnitude_read =
      ⊎_elim (λ inside. ⊎_elim (at_mark inside) (at_other inside) (cases_Bool (is_mark (get_or text n 0)))) at_end (cases_lt n (length text))

-- the digits that a text begins with
module _ (text : List ℕ) (n : ℕ) (digits : n ≡ prefix_len is_ascii_digit text) where
  inside : n ≤ length text
  inside = omega (arith, prefix_len-le-length is_ascii_digit text)

  passes : (k : ℕ) → k < n → is_ascii_digit (get_or text k 0) ≡ true
  passes k h = prefix_len_passes is_ascii_digit text k 0 (omega arith)

  stops : n < length text → is_ascii_digit (get_or text n 0) ≡ false
  stops h = ap (λ k. is_ascii_digit (get_or text k 0)) digits ∙ prefix_len_stops is_ascii_digit text 0 (omega arith)

  no_mark_before : (k : ℕ) → k < n → is_mark (get_or text k 0) ≡ false
  no_mark_before k h = digit_no_mark (get_or text k 0) (passes k h)

  -- they begin each longer prefix of it as well
  digits_before : (p : ℕ) → n ≤ p → p ≤ length text → n ≡ prefix_len is_ascii_digit (take p text)
  digits_before p le fits =
      let long : length (take p text) ≡ p = length-take-le p text fits in
      sym (prefix_len_is is_ascii_digit (take p text) n 0 (omega arith)
      (λ k h. ap is_ascii_digit (get_or-take p text k 0 (omega arith)) ∙ passes k h)
      (λ h. ap is_ascii_digit (get_or-take p text n 0 (omega arith)) ∙ stops (omega arith)))

  -- no point behind them
  module _ (no_point : n < length text → get_or text n 0 ≢ 46) where
    whole_sides : (e : ℤ) → magnitude_by (take n text) (Some e) ≡ magnitude_of_sides (take n text) [] e
    whole_sides e =
        let long : length (take n text) ≡ n = length-take-le n text inside in
        sides_end (take n text) n (digits_before n (omega arith) inside) e (omega arith)
        ∙ ap (λ prefix. magnitude_of_sides prefix [] e) (take-take n n text (omega arith))

    whole_longer : (p : ℕ) → n < p → p ≤ length text → (e : ℤ) → magnitude_by (take p text) (Some e) ≡ Err BadShape
    whole_longer p more fits e =
        let long : length (take p text) ≡ p = length-take-le p text fits in
        sides_other (take p text) n (digits_before p (omega arith) fits) e (omega arith)
        (λ point. no_point (omega arith) (sym (get_or-take p text n 0 more) ∙ point))

    pub whole_read : 0 < n → decimal_magnitude text ≡ placed (digits_value 10 (take n text)) 0 (exponent_at (drop n text))
    whole_read some =
        magnitude_read text n inside no_mark_before (placed (digits_value 10 (take n text)) 0) refl
        (λ e. whole_sides e
        ∙ sides_digits (take n text) [] e (leading_digits text n digits) refl
        (omega (arith, length-leading_digits text n digits)))
        whole_longer

    pub whole_none : n ≡ 0 → decimal_magnitude text ≡ Err BadShape
    whole_none empty =
        magnitude_read text n inside no_mark_before (λ o. Err BadShape) refl
        (λ e. whole_sides e ∙ sides_none (take n text) [] e (omega (arith, length-leading_digits text n digits)))
        whole_longer

  -- a point behind them, and digits behind it
  module _ (more : n < length text) (point : get_or text n 0 ≡ 46) (f : ℕ) (fraction : f ≡ prefix_len is_ascii_digit (drop (n + 1) text)) where
    fits : n + 1 + f ≤ length text
    fits =
        omega (arith, prefix_len-le-length is_ascii_digit (drop (n + 1) text), length-drop (n + 1) text)

    no_mark_within : (k : ℕ) → k < n + 1 + f → is_mark (get_or text k 0) ≡ false
    no_mark_within k h =
        ⊎_elim (no_mark_before k)
        (λ le. ⊎_elim
        (λ behind.
        let parts : n + 1 + (k - (n + 1)) ≡ k = omega arith in
        digit_no_mark (get_or text k 0) (ap (λ i. is_ascii_digit (get_or text i 0)) (sym parts)
        ∙ ap is_ascii_digit (sym (get_or-drop (n + 1) text (k - (n + 1)) 0))
        ∙ prefix_len_passes is_ascii_digit (drop (n + 1) text) (k - (n + 1)) 0 (omega arith)))
        (λ here.
        let same : k ≡ n = omega arith in
        ap (λ i. is_mark (get_or text i 0)) same ∙ ap is_mark point)
        (cases_lt n k))
        (cases_lt k n)

    point_sides : (p : ℕ) → n + 1 ≤ p → p ≤ length text → (e : ℤ) → magnitude_by (take p text) (Some e) ≡ magnitude_of_sides (take n text) (drop (n + 1) (take p text)) e
    point_sides p le short e =
        sides_point (take p text) n (digits_before p (omega arith) short) e (get_or-take p text n 0 (omega arith) ∙ point)
        ∙ ap (λ prefix. magnitude_of_sides prefix (drop (n + 1) (take p text)) e) (take-take n p text (omega arith))

    point_longer : (p : ℕ) → n + 1 + f < p → p ≤ length text → (e : ℤ) → magnitude_by (take p text) (Some e) ≡ Err BadShape
    point_longer p beyond short e =
        let back = drop (n + 1) (take p text) in
        let long : length (take p text) ≡ p = length-take-le p text short in
        let other : is_ascii_digit (get_or back f 0) ≡ false =
        ap is_ascii_digit (get_or-drop (n + 1) (take p text) f 0 ∙ get_or-take p text (n + 1 + f) 0 beyond ∙ sym (get_or-drop (n + 1) text f 0))
        ∙ ap (λ k. is_ascii_digit (get_or (drop (n + 1) text) k 0)) fraction
        ∙ prefix_len_stops is_ascii_digit (drop (n + 1) text) 0 (omega (arith, length-drop (n + 1) text)) in
        point_sides p (omega arith) short e
        ∙ sides_bad (take n text) back e (list_all_at is_ascii_digit back f 0 (omega (arith, length-drop (n + 1) (take p text))) other)

    both_sides : (e : ℤ) → magnitude_by (take (n + 1 + f) text) (Some e) ≡ magnitude_of_sides (take n text) (take f (drop (n + 1) text)) e
    both_sides e =
        point_sides (n + 1 + f) (omega arith) fits e
        ∙ ap (λ back. magnitude_of_sides (take n text) back e) (drop-take (n + 1) f text)

    pub point_read : 0 < n + f → decimal_magnitude text ≡ placed (digits_value_after 10 (digits_value 10 (take n text)) (take f (drop (n + 1) text))) f (exponent_at (drop (n + 1 + f) text))
    point_read some =
        let back = take f (drop (n + 1) text) in
        let long = length-leading_digits (drop (n + 1) text) f fraction in
        magnitude_read text (n + 1 + f) fits no_mark_within
        (placed (digits_value_after 10 (digits_value 10 (take n text)) back) f) refl
        (λ e. both_sides e
        ∙ sides_digits (take n text) back e (leading_digits text n digits) (leading_digits (drop (n + 1) text) f fraction)
        (omega (arith, long, length-leading_digits text n digits))
        ∙ ap (λ k. placed (digits_value_after 10 (digits_value 10 (take n text)) back) k (Some e)) long)
        point_longer

    pub point_none : n + f ≡ 0 → decimal_magnitude text ≡ Err BadShape
    point_none empty =
        let back = take f (drop (n + 1) text) in
        let long = length-leading_digits (drop (n + 1) text) f fraction in
        magnitude_read text (n + 1 + f) fits no_mark_within (λ o. Err BadShape) refl
        (λ e. both_sides e ∙ sides_none (take n text) back e (omega (arith, long, length-leading_digits text n digits)))
        point_longer
