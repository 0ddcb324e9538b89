-- Bytes up to a newline.
use Rattle.std.proofs.Common.{◌≡◌, ◌≢◌, ℕ, ◌+◌, ◌<◌, true, false, eqb, ne_eqb, List, [], ◌∷◌, ◌++◌, length, get_or, take, min, refl, ap, ◌∙◌, arith}
use Rattle.std.specs.Prelude.{All, Option, Some, None, IfSome}
use Rattle.std.proofs.lemmas.Bool.{or_right}
use Rattle.std.proofs.lemmas.List.{get_or_at, length-take-le, take_min, take_more}
use Rattle.std.proofs.lemmas.List.Elements.{All-weaker}
use Rattle.std.proofs.lemmas.List.Folds.{list_any-append, list_any_none}
use Rattle.sd_law_text.specs.Bytes.{has_byte}
use Rattle.sd_model_text.specs.Lines.{longest_datagram}

-- bytes of which none is a newline
pub lacks_newline : (bytes : List ℕ) → All (λ b. b ≢ 10) bytes → has_byte 10 bytes ≡ false
lacks_newline bytes all = list_any_none (λ b. eqb b 10) bytes (All-weaker (λ b. b ≢ 10) (λ b. eqb b 10 ≡ false) (λ b other. ne_eqb b 10 other) bytes all)

-- a newline stands in bytes
pub has_newline : (bytes prefix rest : List ℕ) → bytes ≡ prefix ++ 10 ∷ rest → has_byte 10 bytes ≡ true
has_newline bytes prefix rest cut =
    ap (has_byte 10) cut ∙ list_any-append (λ b. eqb b 10) prefix (10 ∷ rest) ∙ or_right (has_byte 10 prefix) (has_byte 10 (10 ∷ rest)) refl

-- bytes with the newline behind them
pub prefix_ended : (bytes : List ℕ) (n : ℕ) (rest : List ℕ) → n < length bytes → bytes ≡ take n bytes ++ 10 ∷ rest → take (n + 1) bytes ≡ take n bytes ++ 10 ∷ []
prefix_ended bytes n rest within cut =
    take_more bytes n 0 within
    ∙ ap (λ (b : ℕ). take n bytes ++ b ∷ []) (ap (λ (bs : List ℕ). get_or bs n 0) cut ∙ get_or_at (take n bytes) 10 rest 0 n (length-take-le n bytes (omega (arith, within))))

-- the start of bytes that may be a line with its newline
pub prefix_of : (bytes : List ℕ) (n : ℕ) → n ≡ min (length bytes) (longest_datagram + 1) → take n bytes ≡ take (longest_datagram + 1) bytes
prefix_of bytes n is =
    let other : n ≡ min (longest_datagram + 1) (length bytes) = omega (arith, is) in
    ap (λ (k : ℕ). take k bytes) other ∙ take_min (longest_datagram + 1) bytes

-- two facts about what an option has
pub both_of : {A : Type 0} (o : Option A) (P Q R : A → Type 0) → ((x : A) → P x → Q x → R x) → IfSome o P → IfSome o Q → IfSome o R
both_of None P Q R f p q = tt
both_of (Some x) P Q R f p q = f x p q
