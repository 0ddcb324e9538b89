-- The first line of a reply.
use Rattle.std.proofs.Common.{◌≡◌, ℕ, ◌==◌, ◌≤◌, Bool, not, List, length, take, min, sym, ap, ◌∙◌, arith}
use Rattle.std.specs.List.{prefix_len}
use Rattle.std.proofs.lemmas.List.{take-take, take_min, length-take-le}
use Rattle.sd_model_outside.proofs.Short.{first_line_of}

-- a byte before the end of the line
abbrev pub is_inside : ℕ → Bool
is_inside byte = not (byte == 10)

-- the start of a reply up to the end of its first line, cut
pub cut_line : (reply : List ℕ) (len n : ℕ) → len ≤ length reply → n ≡ min len 1024 → prefix_len is_inside reply ≡ len → take n reply ≡ first_line_of reply
cut_line reply len n within is inside =
    let size : n ≡ min 1024 (length (take len reply)) = omega (arith, is, length-take-le len reply within) in
    sym (take-take n len reply (omega (arith, is)))
    ∙ ap (λ k. take k (take len reply)) size
    ∙ take_min 1024 (take len reply)
    ∙ ap (λ k. take 1024 (take k reply)) (sym inside)
