-- How many pieces a datagram has at most.
use Rattle.std.proofs.Common.{◌≡◌, ℕ, suc, ◌+◌, ◌<◌, ◌≤◌, Bool, true, false, cond, not, eqb, List, [], ◌∷◌, ◌++◌, length, map, filter, refl, ap, Option, Some, None, arith, length-append}
use Rattle.std.specs.Prelude.{sum_by, flat_map}
use Rattle.std.proofs.lemmas.List.{length-map}
use Rattle.std.proofs.lemmas.List.Sums.{sum_by-cons}
use Rattle.sd_model_text.specs.Lists.{split, onto_first, cut_at, Cut, trim_end, is_white_space}
use Rattle.sd_model_text.specs.Lines.{pieces, pieces_in, is_empty}
use Rattle.sd_law_text.proofs.CutLemmas.{cut-leaves}
use Rattle.sd_model_text.proofs.Trims.{length-trim_end}
use Rattle.sd_model_text.proofs.Short.{pieces_cut}

length-onto : (x : ℕ) (parts : List (List ℕ)) (n : ℕ) → length parts ≤ n + 1 → length (onto_first x parts) ≤ suc n + 1
length-onto x [] n h = omega arith
length-onto x (p ∷ parts) n h = omega arith

by_test : (b : Bool) (x : ℕ) (parts : List (List ℕ)) (n : ℕ) → length parts ≤ n + 1 → length (cond b ([] ∷ parts) (onto_first x parts)) ≤ suc n + 1
by_test true x parts n h = omega arith
by_test false x parts n h = length-onto x parts n h

pub length-split : (separator : ℕ) (xs : List ℕ) → length (split separator xs) ≤ length xs + 1
length-split separator [] = omega arith
length-split separator (x ∷ xs) = by_test (eqb x separator) x (split separator xs) (length xs) (length-split separator xs)

of_cut : (line : List ℕ) (c : Option Cut) → cut_at 58 line ≡ c → 0 < length line → length (pieces_cut line c) ≤ length line
of_cut line None is some = omega arith
of_cut line (Some c) is some =
    omega (arith, length-map (split 58 c.rest) (λ part. c.part ++ 58 ∷ part), length-split 58 c.rest, ap length (cut-leaves 58 line c is).spelled, length-append c.part (58 ∷ c.rest))

-- a line has no more pieces than bytes
length-pieces_in : (line : List ℕ) → 0 < length line → length (pieces_in line) ≤ length line
length-pieces_in line some = of_cut line (cut_at 58 line) refl some

-- the bytes of parts
abbrev bytes_of : List (List ℕ) → ℕ
bytes_of parts = sum_by (λ (part : List ℕ). length part) parts

bytes-cons : (part : List ℕ) (parts : List (List ℕ)) → bytes_of (part ∷ parts) ≡ length part + bytes_of parts
bytes-cons part parts = sum_by-cons (λ (xs : List ℕ). length xs) part parts

bytes-onto : (x : ℕ) (parts : List (List ℕ)) → bytes_of (onto_first x parts) ≤ suc (bytes_of parts)
bytes-onto x [] = omega (arith, bytes-cons (x ∷ []) [])
bytes-onto x (part ∷ parts) = omega (arith, bytes-cons (x ∷ part) parts, bytes-cons part parts)

bytes_by_test : (b : Bool) (x : ℕ) (parts : List (List ℕ)) (n : ℕ) → bytes_of parts ≤ n → bytes_of (cond b ([] ∷ parts) (onto_first x parts)) ≤ suc n
bytes_by_test true x parts n h = omega (arith, h, bytes-cons [] parts)
bytes_by_test false x parts n h = omega (arith, h, bytes-onto x parts)

bytes-split : (separator : ℕ) (xs : List ℕ) → bytes_of (split separator xs) ≤ length xs
bytes-split separator [] = omega (arith, bytes-cons [] [])
bytes-split separator (x ∷ xs) = bytes_by_test (eqb x separator) x (split separator xs) (length xs) (bytes-split separator xs)

-- the lines that parts leave
abbrev kept : List (List ℕ) → List (List ℕ)
kept parts = filter (λ line. not (is_empty line)) (map (trim_end is_white_space) parts)

one_more : (line : List ℕ) (rest : List (List ℕ)) (n m : ℕ) → length line ≤ m → length (flat_map pieces_in rest) ≤ n → length (flat_map pieces_in (cond (not (is_empty line)) (line ∷ rest) rest)) ≤ m + n
one_more [] rest n m short h = omega (arith, h)
one_more (b ∷ bytes) rest n m short h =
    omega (arith, short, h, length-append (pieces_in (b ∷ bytes)) (flat_map pieces_in rest), length-pieces_in (b ∷ bytes) (omega arith))

length-kept : (parts : List (List ℕ)) → length (flat_map pieces_in (kept parts)) ≤ bytes_of parts
length-kept [] = omega arith
length-kept (part ∷ parts) =
    omega (arith, bytes-cons part parts, one_more (trim_end is_white_space part) (kept parts) (bytes_of parts) (length part) (length-trim_end is_white_space part) (length-kept parts))

pub length-pieces : (datagram : List ℕ) → length (pieces datagram) ≤ length datagram
length-pieces datagram = omega (arith, length-kept (split 10 datagram), bytes-split 10 datagram)
