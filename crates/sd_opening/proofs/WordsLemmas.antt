-- Too few words or too many, and a word that `parse` reads as a number of packets.
use Rattle.std.proofs.Common.{◌≡◌, ◌⊎◌, ℕ, ◌^◌, ◌<◌, ◌≤◌, Bool, true, false, List, [], ◌∷◌, length, map, get_or, Some, None, Result, Ok, Err, inl, inr, refl, sym, ap, ◌∙◌, arith}
use Rattle.std.specs.Prelude.{if◌then◌else◌, ◌&&◌, nat_le}
use Rattle.std.specs.Bool.{then_some}
use Rattle.std.specs.Result.{OkIff, result_ok}
use Rattle.std.specs.Str.Parse.{digits_value, ParsesUnsigned}
use Rattle.std.proofs.lemmas.Bool.{and_parts}
use Rattle.std.proofs.lemmas.Bool.Decides.{nat_tests}
use Rattle.std.proofs.lemmas.Str.Parse.{parse_plain}
use Rattle.sd_model_text.proofs.Digits.{AreDigits, numerals}
use Rattle.sd_model_call.specs.Call.{form, is_number_word, packets_in}
use Rattle.sd_model_call.proofs.WordsLemmas.{number_word}
use Rattle.sd_model_call.proofs.Short.{most_packets}

-- what `parse` says of a word, with a digit before it
abbrev IsParsed : {E : Type 0} → List ℕ → Result ℕ E → Type 0
IsParsed word r = OkIff r (AreDigits word × (0 < length word) × (digits_value 10 word < 2 ^ 32)) (digits_value 10 word)

some_where : (b : Bool) (n : ℕ) → (if b then Some n else None) ≡ then_some b n
some_where true n = refl
some_where false n = refl

none_where : (b : Bool) (n : ℕ) → (b ≡ true → ⊥) → (if b then Some n else None) ≡ None
none_where true n other = absurd (other refl)
none_where false n other = refl

-- a word that is a number begins with a digit, and all are digits
number_digits : (word : List ℕ) → is_number_word word ≡ true → AreDigits word
number_digits [] is = absurd (cc)
number_digits (b ∷ bytes) is = (and_parts _ _ is).1

module _ {E : Type 0} (word : List ℕ) (some : 0 < length word) (first : 48 < get_or word 0 0) where
  packets_parsed : (r : Result ℕ E) → IsParsed word r → (result_ok r ≡ None → packets_in word ≡ None) × ((n : ℕ) → result_ok r ≡ Some n → packets_in word ≡ then_some (nat_le n most_packets) n)
  packets_parsed (Ok value) parsed = (
    λ none. absurd (cc),
    λ n is.
        let same : digits_value 10 word ≡ n = let same_value : value ≡ n = cc in sym parsed.1 ∙ same_value in
        ap (λ b. if b && nat_le (digits_value 10 word) most_packets then Some (digits_value 10 word) else None) (number_word word parsed.0.0 first)
        ∙ ap (λ v. if nat_le v most_packets then Some v else None) same ∙ some_where (nat_le n most_packets) n,
  )
  packets_parsed (Err e) other = (
    λ none. none_where (is_number_word word && nat_le (digits_value 10 word) most_packets) (digits_value 10 word) (λ taken.
        let both = and_parts (is_number_word word) (nat_le (digits_value 10 word) most_packets) taken in
        let few : digits_value 10 word ≤ most_packets = grind (arith, nat_tests) in
        other (number_digits word both.0, some, omega (arith, few))),
    λ n is. absurd (cc),
  )

  plain : (r : Result ℕ E) → ParsesUnsigned 32 10 word r → IsParsed word r
  plain r parsed = parse_plain numerals 32 word r parsed (λ plus. omega (arith, first, plus))

  pub packets_none : (r : Result ℕ E) → ParsesUnsigned 32 10 word r → result_ok r ≡ None → packets_in word ≡ None
  packets_none r parsed is = (packets_parsed r (plain r parsed)).0 is

  pub packets_some : (r : Result ℕ E) → ParsesUnsigned 32 10 word r → (n : ℕ) → result_ok r ≡ Some n → packets_in word ≡ then_some (nat_le n most_packets) n
  packets_some r parsed n is = (packets_parsed r (plain r parsed)).1 n is

-- too few words are of no form, and too many
pub of_no_form : {X : Type 0} (bytes : X → List ℕ) (words : List X) → (length words < 2) ⊎ (4 ≤ length words) → None ≡ form (map bytes words)
of_no_form bytes [] many = refl
of_no_form bytes (a ∷ []) many = refl
of_no_form bytes (a ∷ b ∷ []) (inl few) = absurd (omega (arith, few))
of_no_form bytes (a ∷ b ∷ []) (inr many) = absurd (omega (arith, many))
of_no_form bytes (a ∷ b ∷ c ∷ []) (inl few) = absurd (omega (arith, few))
of_no_form bytes (a ∷ b ∷ c ∷ []) (inr many) = absurd (omega (arith, many))
of_no_form bytes (a ∷ b ∷ c ∷ d ∷ words) many = refl
