-- The records of a made script are legal.
use Rattle.std.proofs.Common.{ℕ, zero, suc, ◌+◌, ◌*◌, ◌/◌, ◌%◌, ◌^◌, ◌<◌, ◌≤◌, Bool, true, false, List, [], ◌∷◌, ◌++◌, length, decimal, arith, length-append}
use Rattle.std.specs.Prelude.{if◌then◌else◌, flat_map, codes}
use Rattle.std.specs.List.{AllByRecursion, join_with_byte, range_with_len}
use Rattle.std.proofs.lemmas.Fmt.{length-decimal-le}
use Rattle.sd_model_replay.specs.Script.{ScriptCommand, Flush, IsLegal}
use Rattle.sd_model_replay.specs.MadeScript.{made_number, made_line, made_datagram, made_moment, made_packet, flush_behind, made_commands}

-- the texts of numbers below a thousand
length-decimal-rest : (n : ℕ) → length (decimal (n % 1000)) ≤ 3
length-decimal-rest n = length-decimal-le 3 (n % 1000) (omega arith) (omega arith) (omega arith)

length-line_of : (prefix letter key value kind : List ℕ) → length prefix ≤ 6 → length letter ≤ 1 → length key ≤ 3 → length value ≤ 3 → length kind ≤ 2 → length (prefix ++ letter ++ key ++ 58 ∷ value ++ 124 ∷ kind) ≤ 17
length-line_of prefix letter key value kind a b c d e = grind (arith, length-append)

length-made_line : (letter kind : List ℕ) (x : ℕ) → length letter ≤ 1 → length kind ≤ 2 → length (made_line letter kind x) ≤ 17
length-made_line letter kind x one two =
    length-line_of (codes "drill.") letter (decimal (x / 4 % 1000)) (decimal (x % 1000)) kind (omega arith) one (length-decimal-rest (x / 4)) (length-decimal-rest x) two

length-joined : (a b c d : List ℕ) → length a ≤ 17 → length b ≤ 17 → length c ≤ 17 → length d ≤ 17 → length (join_with_byte 10 (a ∷ b ∷ c ∷ d ∷ [])) ≤ 71
length-joined a b c d p q r s = grind (arith, length-append)

length-made_datagram : (j : ℕ) → length (made_datagram j) ≤ 71
unfolding made_datagram
length-made_datagram j =
    length-joined (made_line (codes "c") (codes "c") (made_number (4 * j + 1)))
    (made_line (codes "t") (codes "ms") (made_number (4 * j + 2)))
    (made_line (codes "g") (codes "g") (made_number (4 * j + 3)))
    (made_line (codes "s") (codes "s") (made_number (4 * j + 4)))
    (length-made_line (codes "c") (codes "c") _ (omega arith) (omega arith))
    (length-made_line (codes "t") (codes "ms") _ (omega arith) (omega arith))
    (length-made_line (codes "g") (codes "g") _ (omega arith) (omega arith))
    (length-made_line (codes "s") (codes "s") _ (omega arith) (omega arith))

legal_packet : (j : ℕ) → j < 2 ^ 32 → IsLegal 2 (made_packet j)
unfolding made_packet
legal_packet j few = ((omega arith, omega arith), omega arith, omega (arith, length-made_datagram j))

legal_flush_by : (b : Bool) (ts : ℕ) (behind : List ScriptCommand) → ts < 10 ^ 18 → AllByRecursion (IsLegal 2) behind → AllByRecursion (IsLegal 2) ((if b then Flush ts ∷ [] else []) ++ behind)
legal_flush_by true ts behind moment rest = (moment, rest)
legal_flush_by false ts behind moment rest = rest

legal_from : (n j k : ℕ) → j + k < 2 ^ 32 → AllByRecursion (IsLegal 2) (flat_map (λ i. made_packet i ∷ flush_behind n i) (range_with_len j k))
legal_from n j zero few = tt
legal_from n j (suc k) few =
    (legal_packet j (omega arith), legal_flush_by _ (made_moment (j / 1000 + 1)) _ (omega arith) (legal_from n (j + 1) k (omega arith)))

pub legal_commands : (n : ℕ) → n < 2 ^ 32 → AllByRecursion (IsLegal 2) (made_commands n)
unfolding made_commands
legal_commands n few = legal_from n 0 n (omega arith)
