-- Where the first and the last newline of bytes stand.
use Rattle.std.proofs.Common.{◌≡◌, ℕ, ◌-◌, ◌++◌, zero, suc, ◌+◌, ◌<◌, ◌≤◌, Bool, true, false, cond, List, [], ◌∷◌, length, length-drop, take, drop, refl, sym, ap, ◌∙◌, arith}
use Rattle.std.specs.Prelude.{◌==◌, slice_index, Some, None}
use Rattle.memchr.specs.Find.{IsFirstByte, IsLastByte, is_byte}
use Rattle.std.proofs.lemmas.List.{take_all}
use Rattle.sd_edge.specs.Lines.{Held, behind_lines, first_line, from_newline, has_newline, held_of, whole_lines, with_bytes, with_rest}

-- a test that doesn't pass fails
fails : (b : Bool) → ¬ (b ≡ true) → b ≡ false
fails true not_true = absurd (not_true refl)
fails false not_true = refl

-- both ways the same
both_ways : (b c : Bool) → c ≡ true → cond b true c ≡ true
both_ways true c is = refl
both_ways false c is = is

-- one more
step : (i : ℕ) → suc i + 1 ≡ suc (i + 1)
step i = omega arith

-- bytes of which none is a newline
pub none_in : (bytes : List ℕ) → ((k : ℕ) → k < length bytes → ¬ ((slice_index bytes k == 10) ≡ true)) → has_newline bytes ≡ false
none_in [] none = refl
none_in (x ∷ xs) none =
    ap (λ b. cond b true (has_newline xs)) (fails (x == 10) (none 0 (omega arith)))
    ∙ none_in xs (λ k lt. none (suc k) (omega (arith, lt)))

-- the last newline of bytes
pub last_in : (bytes : List ℕ) (i : ℕ) → i < length bytes → (slice_index bytes i == 10) ≡ true → ((k : ℕ) → i + 1 ≤ k → k < length bytes → ¬ ((slice_index bytes k == 10) ≡ true)) → (has_newline bytes ≡ true) × (take (i + 1) bytes ≡ whole_lines bytes) × (drop (i + 1) bytes ≡ behind_lines bytes)
last_in [] i lt is after = absurd (omega (arith, lt))
last_in (x ∷ xs) zero lt is after =
    let none : has_newline xs ≡ false = none_in xs (λ k l. after (suc k) (omega arith) (omega (arith, l))) in (
      ap (λ b. cond b true (has_newline xs)) is,
      sym (ap (λ b. cond b (x ∷ whole_lines xs) (cond (x == 10) (x ∷ []) [])) none ∙ ap (λ b. cond b (x ∷ []) []) is),
      sym (ap (λ b. cond b (behind_lines xs) (cond (x == 10) xs (x ∷ xs))) none ∙ ap (λ b. cond b xs (x ∷ xs)) is),
    )
last_in (x ∷ xs) (suc i) lt is after =
    let later = last_in xs i (omega (arith, lt)) is (λ k low high. after (suc k) (omega (arith, low)) (omega (arith, high))) in (
      both_ways (x == 10) (has_newline xs) later.0,
      ap (λ n. take n (x ∷ xs)) (step i) ∙ ap (λ l. x ∷ l) later.1 ∙ sym (ap (λ b. cond b (x ∷ whole_lines xs) (cond (x == 10) (x ∷ []) [])) later.0),
      ap (λ n. drop n (x ∷ xs)) (step i) ∙ later.2 ∙ sym (ap (λ b. cond b (behind_lines xs) (cond (x == 10) xs (x ∷ xs))) later.0),
    )

-- the first newline of bytes
pub first_in : (bytes : List ℕ) (i : ℕ) → i < length bytes → (slice_index bytes i == 10) ≡ true → ((k : ℕ) → k < i → ¬ ((slice_index bytes k == 10) ≡ true)) → drop i bytes ≡ from_newline bytes
first_in [] i lt is before = absurd (omega (arith, lt))
first_in (x ∷ xs) zero lt is before = sym (ap (λ b. cond b (x ∷ xs) (from_newline xs)) is)
first_in (x ∷ xs) (suc i) lt is before =
    first_in xs i (omega (arith, lt)) is (λ k l. before (suc k) (omega (arith, l)))
    ∙ sym (ap (λ b. cond b (x ∷ xs) (from_newline xs)) (fails (x == 10) (before 0 (omega arith))))

-- the first line of bytes that have a newline
pub line_to : (bytes : List ℕ) (i : ℕ) → i < length bytes → (slice_index bytes i == 10) ≡ true → ((k : ℕ) → k < i → ¬ ((slice_index bytes k == 10) ≡ true)) → length (first_line bytes) ≡ i + 1
line_to [] i lt is before = absurd (omega (arith, lt))
line_to (x ∷ xs) zero lt is before = ap (λ b. length (cond b (x ∷ []) (x ∷ first_line xs))) is
line_to (x ∷ xs) (suc i) lt is before =
    ap (λ b. length (cond b (x ∷ []) (x ∷ first_line xs))) (fails (x == 10) (before 0 (omega arith)))
    ∙ ap (λ n. suc n) (line_to xs i (omega (arith, lt)) is (λ k l. before (suc k) (omega (arith, l))))
    ∙ sym (step i)

-- that of bytes without one is all of them
pub line_of_all : (bytes : List ℕ) → ((k : ℕ) → k < length bytes → ¬ ((slice_index bytes k == 10) ≡ true)) → length (first_line bytes) ≡ length bytes
line_of_all [] none = refl
line_of_all (x ∷ xs) none =
    ap (λ b. length (cond b (x ∷ []) (x ∷ first_line xs))) (fails (x == 10) (none 0 (omega arith)))
    ∙ ap (λ n. suc n) (line_of_all xs (λ k lt. none (suc k) (omega (arith, lt))))

-- bytes without a newline have nothing from the first one on
pub none_from : (bytes : List ℕ) → ((k : ℕ) → k < length bytes → ¬ ((slice_index bytes k == 10) ≡ true)) → [] ≡ from_newline bytes
none_from [] none = refl
none_from (x ∷ xs) none =
    none_from xs (λ k lt. none (suc k) (omega (arith, lt)))
    ∙ sym (ap (λ b. cond b (x ∷ xs) (from_newline xs)) (fails (x == 10) (none 0 (omega arith))))

-- the bytes from the first newline on, as they are sliced
pub sliced_from : (bytes : List ℕ) (i : ℕ) → IsFirstByte (is_byte 10) bytes (Some i) → take (length bytes - i) (drop i bytes) ≡ from_newline bytes
sliced_from bytes i first =
    take_all (length bytes - i) (drop i bytes) (omega (arith, length-drop i bytes))
    ∙ first_in bytes i first.0.high first.1 (λ k lt. first.0.before k (omega arith) lt)

-- none are
pub sliced_none : (bytes : List ℕ) → IsFirstByte (is_byte 10) bytes None → [] ≡ from_newline bytes
sliced_none bytes none = none_from bytes (λ k lt. none k (omega arith) lt)

-- bytes with a newline were put behind what is held
pub put_some : (ready rest bytes : List ℕ) (line : ℕ) (is_cut : Bool) (i : ℕ) (more none lines left : List ℕ) (after : Held)
    → IsLastByte (is_byte 10) bytes (Some i) → lines ≡ take (i + 1) bytes → left ≡ drop (i + 1) bytes → more ≡ ready ++ (rest ++ lines) → none ≡ []
    → after ≡ with_rest (held_of more none line is_cut) left → after ≡ with_bytes (held_of ready rest line is_cut) bytes
put_some ready rest bytes line is_cut i more none lines left after last lines_is left_is more_is none_is after_is =
    let found = last_in bytes i last.0.high last.1 last.0.after in
    let lines_are : lines ≡ whole_lines bytes = lines_is ∙ found.1 in
    let left_are : left ≡ behind_lines bytes = left_is ∙ found.2 in
    after_is
    ∙ ap (λ r. with_rest (held_of r none line is_cut) left) (more_is ∙ ap (λ l. ready ++ (rest ++ l)) lines_are)
    ∙ ap (λ r. with_rest (held_of (ready ++ (rest ++ whole_lines bytes)) r line is_cut) left) none_is
    ∙ ap (λ l. with_rest (held_of (ready ++ (rest ++ whole_lines bytes)) [] line is_cut) l) left_are
    ∙ sym (ap (λ b. cond b (with_rest (held_of (ready ++ (rest ++ whole_lines bytes)) [] line is_cut) (behind_lines bytes)) (with_rest (held_of ready rest line is_cut) bytes)) found.0)

-- bytes without one were
pub put_none : (ready rest bytes : List ℕ) (line : ℕ) (is_cut : Bool) (after : Held) → IsLastByte (is_byte 10) bytes None → after ≡ with_rest (held_of ready rest line is_cut) bytes → after ≡ with_bytes (held_of ready rest line is_cut) bytes
put_none ready rest bytes line is_cut after none after_is =
    let found : has_newline bytes ≡ false = none_in bytes (λ k lt. none k (omega arith) lt) in
    after_is
    ∙ sym (ap (λ b. cond b (with_rest (held_of (ready ++ (rest ++ whole_lines bytes)) [] line is_cut) (behind_lines bytes)) (with_rest (held_of ready rest line is_cut) bytes)) found)

-- how long the first line is
pub line_length : (bytes : List ℕ) (i : ℕ) → IsFirstByte (is_byte 10) bytes (Some i) → i + 1 ≡ length (first_line bytes)
line_length bytes i first = sym (line_to bytes i first.0.high first.1 (λ k lt. first.0.before k (omega arith) lt))

-- the same without a newline
pub all_length : (bytes : List ℕ) → IsFirstByte (is_byte 10) bytes None → length bytes ≡ length (first_line bytes)
all_length bytes none = sym (line_of_all bytes (λ k lt. none k (omega arith) lt))
