-- An exponent by its digits.
use Rattle.std.proofs.Common.{◌≡◌, ℕ, ℤ, ◌<◌, ◌≤◌, Bool, true, false, if◌then◌else◌, List, length, take, get_or, Some, None, sym, ap, subst, ⊎_elim, ◌∙◌, arith}
use Rattle.std.specs.Prelude.{◌&&◌, nat_le}
use Rattle.std.specs.Char.{is_ascii_digit}
use Rattle.std.specs.List.{list_all, prefix_len}
use Rattle.std.specs.Str.Parse.{digits_value, digits_value_after}
use Rattle.std.proofs.Math.Seq.{take-length}
use Rattle.std.proofs.lemmas.Bool.{and_from, and_left, and_right, cond-true, cond-false, cases_lt, lt-ltb, le-ltb, le-leb, lt-leb}
use Rattle.std.proofs.lemmas.List.Folds.{list_all_at}
use Rattle.std.proofs.lemmas.List.Sums.{prefix_len_stops, prefix_len-le-length}
use Rattle.sd_model_text.specs.Numbers.{is_digits, signed, has_minus, without_sign, exponent_behind}
use Rattle.sd_decimal.specs.Digits.{Keeps}
use Rattle.sd_decimal.specs.Exponent.{IsPower}
use Rattle.sd_decimal.proofs.Digits.{digits_value_small}
use Rattle.sd_decimal.proofs.Kept.{Keeps_none, Keeps_small}
use Rattle.sd_decimal.proofs.Powers.{power_of_signed}
use Rattle.sd_decimal.proofs.Sides.{leading_digits, length-leading_digits}

-- the digits that a text begins with, and what is kept of them
module _ (ds : List ℕ) (n : ℕ) (digits : n ≡ prefix_len is_ascii_digit ds) (kept more : ℕ) (keeps : (m : ℕ) → Keeps m 0 0 → Keeps (digits_value_after 10 m (take n ds)) kept more) where
  few_below : n ≤ 4 → digits_value 10 (take n ds) ≤ 9999
  few_below few =
      digits_value_small (take n ds) (leading_digits ds n digits) (omega (arith, length-leading_digits ds n digits))

  few_kept : n ≤ 4 → kept ≡ digits_value 10 (take n ds)
  few_kept few = Keeps_small (digits_value 10 (take n ds)) kept more (omega (arith, few_below few)) (keeps 0 Keeps_none)

  -- four digits write less than 10,000
  pub few_digits : n ≤ 4 → kept ≤ 9999
  few_digits few = omega (arith, few_kept few, few_below few)

  exponent_written : (text : List ℕ) → ds ≡ without_sign text → 0 < n → n ≤ 4 → length ds ≤ n → exponent_behind text ≡ Some (signed (has_minus text) kept)
  exponent_written text rest some few whole =
      let long : n ≡ length ds = omega (arith, prefix_len-le-length is_ascii_digit ds) in
      let prefix : take n ds ≡ ds = ap (λ k. take k ds) long ∙ take-length ds in
      let all : list_all is_ascii_digit ds ≡ true = ap (list_all is_ascii_digit) (sym prefix) ∙ leading_digits ds n digits in
      cond-true _ _ _
      (subst (λ (t : List ℕ). (is_digits t && nat_le (length t) 4) ≡ true) rest
      (and_from _ _ (and_from _ _ all (lt-ltb 0 (length ds) (omega arith))) (le-leb (length ds) 4 (omega arith))))
      ∙ ap Some (sym (ap (signed (has_minus text)) (few_kept few ∙ ap (digits_value 10) (prefix ∙ rest))))

  -- up to four digits write an exponent of either sign
  pub exponent_signed : (text : List ℕ) (is_negative : Bool) → ds ≡ without_sign text → is_negative ≡ has_minus text → 0 < n → n ≤ 4 → length ds ≤ n
      → (e : ℤ) × (exponent_behind text ≡ Some e) × IsPower e (if is_negative then 0 else kept) (if is_negative then kept else 0)
  exponent_signed text is_negative rest sign some few whole = (
    signed is_negative kept,
    exponent_written text rest some few whole ∙ ap (λ b. Some (signed b kept)) (sym sign),
    power_of_signed is_negative kept,
  )

-- no digit, more than four, or another byte
pub exponent_none : (text ds : List ℕ) (n : ℕ) → ds ≡ without_sign text → n ≡ prefix_len is_ascii_digit ds → (0 < n → n ≤ 4 → n < length ds) → exponent_behind text ≡ None
exponent_none text ds n rest digits flaw =
    let fits = prefix_len-le-length is_ascii_digit ds in
    cond-false _ _ _
    (subst (λ (t : List ℕ). (is_digits t && nat_le (length t) 4) ≡ false) rest
    (⊎_elim
    (λ other.
    let stops : is_ascii_digit (get_or ds n 0) ≡ false =
    ap (λ k. is_ascii_digit (get_or ds k 0)) digits ∙ prefix_len_stops is_ascii_digit ds 0 (omega arith) in
    and_left _ _ (and_left _ _ (list_all_at is_ascii_digit ds n 0 other stops)))
    (λ whole. ⊎_elim
    (λ many. and_right _ _ (lt-leb (length ds) 4 many))
    (λ few.
    let empty : length ds ≤ 0 =
    ⊎_elim (λ some. absurd (omega (arith, flaw some (omega arith)))) (λ h. omega arith) (cases_lt 0 n) in
    and_left _ _ (and_right _ _ (le-ltb 0 (length ds) empty)))
    (cases_lt 4 (length ds)))
    (cases_lt n (length ds))))
