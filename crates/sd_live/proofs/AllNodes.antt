-- The first set has all nodes.
use Rattle.std.proofs.Common.{◌≡◌, ℕ, ◌+◌, ◌-◌, ◌*◌, ◌/◌, ◌^◌, ◌≤◌, sym, ap, ◌∙◌, arith}
use Rattle.std.proofs.lemmas.Nat.{div-mul-add, pow-add, pow_pos}
use Rattle.sd_model_live.specs.Proxy.{all_of}
use Rattle.sd_model_live.proofs.Bits.{less_one}

shifted : (n k : ℕ) → n + k ≡ 64 → 18446744073709551615 / 2 ^ k ≡ 2 ^ n - 1
shifted n k e =
    let p : 2 ^ n * 2 ^ k ≡ 18446744073709551616 = sym (pow-add 2 n k) ∙ ap (λ m. 2 ^ m) e in
    let a : 18446744073709551615 ≡ (2 ^ n - 1) * 2 ^ k + (2 ^ k - 1) = omega (arith, less_one (2 ^ n) (2 ^ k) (pow_pos n) (pow_pos k), p) in
    ap (λ m. m / 2 ^ k) a ∙ div-mul-add (2 ^ n - 1) (2 ^ k) (2 ^ k - 1) (omega (arith, pow_pos k))

-- all bits but the highest, of which there are as many as nodes are lacking
pub is_all : (nodes : ℕ) → nodes ≤ 64 → 18446744073709551615 / 2 ^ (64 - nodes) ≡ all_of nodes
is_all nodes few = shifted nodes (64 - nodes) (omega arith)
