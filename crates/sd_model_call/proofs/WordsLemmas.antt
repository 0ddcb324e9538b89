-- The words that ask for a drill.
use Rattle.std.proofs.Common.{◌≡◌, ◌≢◌, ℕ, zero, suc, ◌^◌, ◌<◌, ◌≤◌, Bool, true, false, not, List, [], ◌∷◌, get_or, decimal, Option, Some, None, refl, sym, ap, subst, ◌∙◌, codes, arith}
use Rattle.std.specs.Prelude.{if◌then◌else◌, ◌==◌, ◌&&◌, nat_le, option_map}
use Rattle.std.specs.Char.{is_ascii_digit}
use Rattle.std.specs.Cmp.Lexicographic.{pointwise}
use Rattle.std.specs.List.{list_all}
use Rattle.std.specs.Str.Parse.{digits_value}
use Rattle.std.proofs.lemmas.Bool.{and_parts}
use Rattle.std.proofs.lemmas.Bool.Decides.{Decides-eqb, nat_tests}
use Rattle.std.proofs.lemmas.Fmt.{decimal-digits_value, decimal_digit, digits_decimal, digits_value-decimal, first_decimal}
use Rattle.std.proofs.lemmas.Slice.Eq.{slice_eq-Decides}
use Rattle.sd_model_text.proofs.Digits.{numerals}
use Rattle.sd_model_call.specs.Call.{Replay, Serve, Proxy, Drill, form, is_file_word, is_number_word, packets_in, run_form}
use Rattle.sd_model_call.proofs.Short.{drill_form, replay_form, most_packets}

-- a choice that gives something only where its test is passed
chosen : {A : Type 0} (b : Bool) (x : Option A) (y : A) → (if b then x else None) ≡ Some y → (b ≡ true) × (x ≡ Some y)
chosen true x y is = (refl, is)
chosen false x y is = absurd (cc)

pub number_word : (bs : List ℕ) → list_all is_ascii_digit bs ≡ true → 48 < get_or bs 0 0 → is_number_word bs ≡ true
number_word [] digits first = absurd (omega (arith, first))
number_word (b ∷ bs) digits first = let other : (b == 48) ≡ false = grind (arith, nat_tests) in ap (λ t. not t && list_all is_ascii_digit (b ∷ bs)) other ∙ digits

packets_decimal : (n : ℕ) → 0 < n → n ≤ most_packets → packets_in (decimal n) ≡ Some n
packets_decimal n some few =
    let small : n < 2 ^ 64 = omega (arith, few) in
    let is = number_word (decimal n) (digits_decimal numerals n small) (first_decimal n some small) in
    let fits : nat_le n most_packets ≡ true = grind (arith, nat_tests) in
    ap (λ v. if is_number_word (decimal n) && nat_le v most_packets then Some v else None) (digits_value-decimal numerals n small)
    ∙ ap (λ b. if b && nat_le n most_packets then Some n else None) is
    ∙ ap (λ b. if b then Some n else None) fits

-- `drill` and a number of packets ask for a drill
pub drill_written : (n : ℕ) → 0 < n → n ≤ most_packets → form (codes "drill" ∷ decimal n ∷ []) ≡ Some (Drill n)
drill_written n some few = ap (option_map Drill) (packets_decimal n some few)

-- a word that is a number is what `decimal` writes of its value, which isn't 0
number_decimal : (bs : List ℕ) → is_number_word bs ≡ true → digits_value 10 bs ≤ most_packets → (bs ≡ decimal (digits_value 10 bs)) × (0 < digits_value 10 bs)
number_decimal [] is few = absurd (cc)
number_decimal (b ∷ bs) is few =
    let both = and_parts (not (b == 48)) (list_all is_ascii_digit (b ∷ bs)) is in
    let other : b ≢ 48 = λ zero. let test : (b == 48) ≡ true = (Decides-eqb b 48).1 zero in absurd (cc) in
    let text = sym (decimal-digits_value numerals (b ∷ bs) both.1 (omega arith) (λ zero. absurd (other zero)) (omega (arith, few))) in (
      text,
      above (digits_value 10 (b ∷ bs)) (λ none. other (ap (λ ds. get_or ds 0 0) (text ∙ ap decimal none ∙ decimal_digit 0 (omega arith)))),
    ) where
      above : (v : ℕ) → (v ≡ 0 → ⊥) → 0 < v
      above zero some = absurd (some refl)
      above (suc v) some = omega arith

packets_read : (word : List ℕ) (n : ℕ) → packets_in word ≡ Some n → (word ≡ decimal n) × (0 < n) × (n ≤ most_packets)
packets_read word n is =
    let taken = chosen (is_number_word word && nat_le (digits_value 10 word) most_packets) (Some (digits_value 10 word)) n is in
    let both = and_parts (is_number_word word) (nat_le (digits_value 10 word) most_packets) taken.0 in
    let few : digits_value 10 word ≤ most_packets = grind (arith, nat_tests) in
    let value : digits_value 10 word ≡ n = cc in
    let text = number_decimal word both.0 few in (text.0 ∙ ap decimal value, subst (λ v. 0 < v) value text.1, subst (λ v. v ≤ most_packets) value few)

-- the words that ask for a drill of so many packets
abbrev pub AreDrill : List (List ℕ) → ℕ → Type 0
AreDrill words n = (words ≡ codes "drill" ∷ decimal n ∷ []) × (0 < n) × (n ≤ most_packets)

drill_packets : (o : Option ℕ) (n : ℕ) → option_map Drill o ≡ Some (Drill n) → o ≡ Some n
drill_packets None n is = absurd (cc)
drill_packets (Some m) n is = cc

no_replay : (settings script : List ℕ) (n : ℕ) → replay_form settings script ≡ Some (Drill n) → ⊥
no_replay settings script n is =
    let taken = chosen (is_file_word settings && is_file_word script) (Some (Replay settings script)) (Drill n) is in absurd (cc)

no_serve : (settings : List ℕ) (n : ℕ) → run_form Serve settings ≡ Some (Drill n) → ⊥
no_serve settings n is = let taken = chosen (is_file_word settings) (Some (Serve settings)) (Drill n) is in absurd (cc)

no_proxy : (settings : List ℕ) (n : ℕ) → run_form Proxy settings ≡ Some (Drill n) → ⊥
no_proxy settings n is = let taken = chosen (is_file_word settings) (Some (Proxy settings)) (Drill n) is in absurd (cc)

no_other : (b c : Bool) (settings : List ℕ) (n : ℕ) → (if b then run_form Serve settings else (if c then run_form Proxy settings else None)) ≡ Some (Drill n) → ⊥
no_other true c settings n is = no_serve settings n is
no_other false true settings n is = no_proxy settings n is
no_other false false settings n is = absurd (cc)

-- of two choices the first gave something that the second doesn't give
chosen_first : {A : Type 0} (b : Bool) (x z : Option A) (y : A) → (z ≡ Some y → ⊥) → (if b then x else z) ≡ Some y → (b ≡ true) × (x ≡ Some y)
chosen_first true x z y other is = (refl, is)
chosen_first false x z y other is = absurd (other is)

pub drill_read : (words : List (List ℕ)) (n : ℕ) → form words ≡ Some (Drill n) → AreDrill words n
drill_read [] n is = absurd (cc)
drill_read (name ∷ []) n is = absurd (cc)
drill_read (name ∷ packets ∷ []) n is =
    let taken = chosen_first (pointwise ◌==◌ name (codes "drill")) (drill_form packets) _ (Drill n) (no_other (pointwise ◌==◌ name (codes "serve")) (pointwise ◌==◌ name (codes "proxy")) packets n) is in
    let first : name ≡ codes "drill" = (slice_eq-Decides Decides-eqb name (codes "drill") _ refl).0 taken.0 in
    let read = packets_read packets n (drill_packets (packets_in packets) n taken.1) in (λ i. first i ∷ read.0 i ∷ [], read.1, read.2)
drill_read (name ∷ settings ∷ script ∷ []) n is =
    let taken = chosen (pointwise ◌==◌ name (codes "replay")) (replay_form settings script) (Drill n) is in absurd (no_replay settings script n taken.1)
drill_read (name ∷ settings ∷ script ∷ word ∷ words) n is = absurd (cc)
