-- A search for the first separator, from place to place.
use Rattle.std.proofs.Common.{◌≡◌, ℕ, ◌+◌, ◌<◌, Bool, true, false, ◌||◌, ◌==◌, eqb, List, [], ◌∷◌, ◌++◌, length, get_or, take, drop, suc, refl, sym, ap, ◌∙◌, Option, Some, None, option_map, IfSome, eq-eqb, eqb-true, append_assoc, length-take, arith}
use Rattle.std.proofs.lemmas.List.{get_or-take}
use Rattle.std.proofs.Math.Seq.{split_at}
use Rattle.memchr.specs.Find.{IsFirstByte, is_byte}
use Rattle.sd_model_text.specs.Lists.{cut_at, Cut}
use Rattle.sd_law_text.specs.Bytes.{has_byte}
use Rattle.sd_law_text.proofs.CutLemmas.{cut-first, cut-none}
use Rattle.sd_model_text.proofs.Short.{before_part}

-- a cut of what stands behind the prefix
abbrev pub cut_behind : List ℕ → Option Cut → Option Cut
cut_behind prefix c = option_map (λ c. record { part = prefix ++ c.part; rest = c.rest }) c

pub at_separator : (separator x : ℕ) (prefix xs : List ℕ) → x ≡ separator → cut_behind prefix (cut_at separator (x ∷ xs)) ≡ Some (record { part = prefix ++ []; rest = xs })
at_separator separator x prefix xs h = rw (eq-eqb x separator h) refl

behind_part : (prefix : List ℕ) (x : ℕ) (c : Option Cut) → cut_behind prefix (option_map (before_part x) c) ≡ cut_behind (prefix ++ x ∷ []) c
behind_part prefix x None = refl
behind_part prefix x (Some c) = ap (λ part. Some (record { part = part; rest = c.rest })) (sym (append_assoc prefix (x ∷ []) c.part))

pub past_other : (separator x : ℕ) (prefix xs : List ℕ) → eqb x separator ≡ false → cut_behind prefix (cut_at separator (x ∷ xs)) ≡ cut_behind (prefix ++ x ∷ []) (cut_at separator xs)
past_other separator x prefix xs h = rw h (behind_part prefix x (cut_at separator xs))

-- no byte up to the end is the separator
lacks : (s : ℕ) (xs : List ℕ) → ((k : ℕ) → k < length xs → get_or xs k 0 == s ≡ true → ⊥) → has_byte s xs ≡ false
lacks s [] h = refl
lacks s (x ∷ xs) h =
    ap (λ b. b || has_byte s xs) (not_true (x == s) (h 0 (omega arith))) ∙ lacks s xs (λ k inside. h (suc k) (omega (arith, inside)))
  where
    not_true : (b : Bool) → (b ≡ true → ⊥) → b ≡ false
    not_true true never = absurd (never refl)
    not_true false never = refl

-- the cut at the place that a search finds
pub found_cut : (s : ℕ) (xs : List ℕ) (place : Option ℕ) → IsFirstByte (is_byte s) xs place → option_map (λ i. record { part = take i xs; rest = drop (i + 1) xs }) place ≡ cut_at s xs
found_cut s xs None none = sym (cut-none s xs (lacks s xs (λ k inside is. none k (omega arith) inside is)))
found_cut s xs (Some k) found =
    let first = found.0 in
    let inside : k < length xs = first.high in
    let next : suc k ≡ k + 1 = omega arith in
    let none : has_byte s (take k xs) ≡ false =
    lacks s (take k xs) (λ i below is.
    let near : i < k = omega (arith, below, length-take k xs) in
    first.before i (omega arith) near (ap (λ x. x == s) (sym (get_or-take k xs i 0 near)) ∙ is)) in
    sym (ap (cut_at s) (split_at xs k 0 inside ∙ ap (λ b. take k xs ++ b ∷ drop (suc k) xs) (eqb-true _ s found.1))
    ∙ cut-first s (take k xs) (drop (suc k) xs) none
    ∙ ap (λ n. Some (record { part = take k xs; rest = drop n xs })) next)

-- which is one of the list's
pub found_inside : (s : ℕ) (xs : List ℕ) (place : Option ℕ) → IsFirstByte (is_byte s) xs place → IfSome place (λ i. i < length xs)
found_inside s xs None none = tt
found_inside s xs (Some k) found = found.0.high
