-- How long the values of the reply to `config` are.
use Rattle.std.proofs.Common.{◌≡◌, ℕ, zero, suc, ◌+◌, ◌*◌, ◌≤◌, true, false, ℤ, pos, negsuc, List, [], ◌∷◌, length, map, All, ◌++◌, codes, refl, ap, inl, inr, arith, length-append}
use Rattle.std.specs.Str.{bytes_eq}
use Rattle.std.proofs.lemmas.Bool.{and_parts, or_cases, false≢true}
use Rattle.std.specs.Prelude.{nat_le}
use Rattle.std.specs.List.{AllPass, list_all, list_any}
use Rattle.std.proofs.lemmas.Bool.Decides.{nat_tests}
use Rattle.sd_model_text.specs.Numbers.{number_text, Limit, Below, Infinite}
use Rattle.sd_decimal.proofs.NumberTexts.{length-number_text}
use Rattle.sd_model_outside.specs.Backend.{backends, backend_name}
use Rattle.sd_model_settings.specs.Entries.{is_limit, is_backend, is_class_name}
use Rattle.sd_law_settings.specs.Ranges.{IsThreshold, AreThresholds, AreBackends, AreClassNames, AreLimits}
use Rattle.sd_law_settings.proofs.EntriesInRange.{length-class_name}
use Rattle.sd_model_settings.specs.ConfigText.{with_commas, limit_text}
use Rattle.sd_decimal.specs.declared.number.Micro.{Micro}
use Rattle.sd_decimal.specs.declared.number.Limit as code
use Rattle.sd_plan.specs.Values.{micros}
use Rattle.sd_plan.specs.Entries.{limit_of, limits_of}

-- a part more
length-joined : (n : ℕ) (t u : List ℕ) (ts : List (List ℕ)) → length t ≤ 41 → length (with_commas (u ∷ ts)) ≤ 42 * n → length (with_commas (t ∷ u ∷ ts)) ≤ 42 * (n + 1)
length-joined n t u ts short rest = omega (arith, short, rest, length-append t (44 ∷ with_commas (u ∷ ts)))

pub length-thresholds : (xs : List ℤ) → All IsThreshold xs → length (with_commas (map number_text xs)) ≤ 42 * length xs
length-thresholds [] h = omega arith
length-thresholds (x ∷ []) h =
    let range = h zero x (omega arith) in
    omega (arith, length-number_text x (omega (arith, range.0)))
length-thresholds (x ∷ y ∷ xs) h =
    let range = h zero x (omega arith) in
    let rest = length-thresholds (y ∷ xs) (λ k d l. h (suc k) d (omega arith)) in
    omega (arith, length-joined (length (y ∷ xs)) (number_text x) (number_text y) (map number_text xs) (length-number_text x (omega (arith, range.0))) rest)

length-limit_text : (l : Limit) → is_limit l ≡ true → length (limit_text l) ≤ 41
length-limit_text (Below (pos n)) e = length-number_text (pos n) (grind (arith, nat_tests))
length-limit_text (Below (negsuc n)) e = length-number_text (negsuc n) (grind (arith, nat_tests))
length-limit_text Infinite e = omega arith

pub length-limits : (ls : List Limit) → AllPass is_limit ls → length (with_commas (map limit_text ls)) ≤ 42 * length ls
length-limits [] h = omega arith
length-limits (x ∷ []) h = omega (arith, length-limit_text x (h zero x (omega arith)))
length-limits (x ∷ y ∷ xs) h =
    let rest = length-limits (y ∷ xs) (λ k d l. h (suc k) d (omega arith)) in
    omega (arith, length-joined (length (y ∷ xs)) (limit_text x) (limit_text y) (map limit_text xs) (length-limit_text x (h zero x (omega arith))) rest)

length-bytes_eq : (xs ys : List ℕ) → bytes_eq xs ys ≡ true → length xs ≡ length ys
length-bytes_eq [] [] e = refl
length-bytes_eq [] (y ∷ ys) e = absurd (false≢true e)
length-bytes_eq (x ∷ xs) [] e = absurd (false≢true e)
length-bytes_eq (x ∷ xs) (y ∷ ys) e = ap suc (length-bytes_eq xs ys (and_parts _ (bytes_eq xs ys) e).1)

length-among : (xs : List (List ℕ)) (s : List ℕ) → list_all (λ x. nat_le (length x) 8) xs ≡ true → list_any (bytes_eq s) xs ≡ true → length s ≤ 8
length-among [] s short e = absurd (false≢true e)
length-among (x ∷ xs) s short e =
    let parts = and_parts (nat_le (length x) 8) (list_all (λ y. nat_le (length y) 8) xs) short in
    elim (or_cases (bytes_eq s x) (list_any (bytes_eq s) xs) e) [
      | inl same ↦ let here : length x ≤ 8 = grind (arith, nat_tests) in omega (arith, here, length-bytes_eq s x same)
      | inr behind ↦ length-among xs s parts.1 behind
    ]

length-backend : (s : List ℕ) → is_backend s ≡ true → length s ≤ 8
length-backend s e = length-among (map backend_name backends ++ codes "repeater" ∷ []) s refl e

length-names : (ts : List (List ℕ)) → AllPass is_backend ts → length (with_commas ts) ≤ 9 * length ts
length-names [] h = omega arith
length-names (t ∷ []) h = omega (arith, length-backend t (h zero t (omega arith)))
length-names (t ∷ u ∷ ts) h =
    let rest = length-names (u ∷ ts) (λ k d l. h (suc k) d (omega arith)) in
    omega (arith, rest, length-backend t (h zero t (omega arith)), length-append t (44 ∷ with_commas (u ∷ ts)))

pub length-backends : (ts : List (List ℕ)) → AreBackends ts → length (with_commas ts) ≤ 9 * (length backends + 1)
length-backends ts h = omega (arith, h.few, length-names ts h.known)

length-class_names : (ts : List (List ℕ)) → AllPass is_class_name ts → length (with_commas ts) ≤ 20 * length ts
length-class_names [] h = omega arith
length-class_names (t ∷ []) h = omega (arith, length-class_name t (h zero t (omega arith)))
length-class_names (t ∷ u ∷ ts) h =
    let rest = length-class_names (u ∷ ts) (λ k d l. h (suc k) d (omega arith)) in
    omega (arith, rest, length-class_name t (h zero t (omega arith)), length-append t (44 ∷ with_commas (u ∷ ts)))

pub length-calculated : (ts : List (List ℕ)) → AreClassNames ts → length (with_commas ts) ≤ 320
length-calculated ts h = omega (arith, h.few, length-class_names ts h.known)

-- the texts of numbers and limits of the code
pub micro_texts : (xs : List Micro) → map (λ m. number_text m.0) xs ≡ map number_text (micros xs)
micro_texts [] = refl
micro_texts (x ∷ xs) = ap (λ ts. number_text x.0 ∷ ts) (micro_texts xs)

pub limit_texts : (ls : List code.Limit) → map (λ l. limit_text (limit_of l)) ls ≡ map limit_text (limits_of ls)
limit_texts [] = refl
limit_texts (l ∷ ls) = ap (λ ts. limit_text (limit_of l) ∷ ts) (limit_texts ls)

pub length-micros : (xs : List Micro) → AreThresholds (micros xs) → length (with_commas (map (λ m. number_text m.0) xs)) ≤ 672
length-micros xs h = omega (arith, ap (λ ts. length (with_commas ts)) (micro_texts xs), h.few, length-thresholds (micros xs) h.range)

pub length-bins : (ls : List code.Limit) → AreLimits (limits_of ls) → length (with_commas (map (λ l. limit_text (limit_of l)) ls)) ≤ 2688
length-bins ls h = omega (arith, ap (λ ts. length (with_commas ts)) (limit_texts ls), h.few, length-limits (limits_of ls) h.range)
