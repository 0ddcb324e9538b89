-- The bits of a number.
use Rattle.std.proofs.Common.{Bool, true, zero, suc, ◌+◌, ◌≡◌, ℕ, ◌<◌, ◌≤◌, false, inl, inr, arith, refl, sym, ap, ◌∙◌}
use Rattle.std.specs.Prelude.{◌^◌, ◌/◌, ◌%◌, ◌==◌, ◌&&◌}
use Rattle.std.proofs.Math.Nat.{div-eq_of_lt}
use Rattle.std.proofs.Math.Pow.{pow_mono}
use Rattle.sd_model_ring.specs.Ring.{is_up}
use Rattle.sd_ring.specs.RingInside.{all_up}
use Rattle.std.proofs.lemmas.Bool.{cases_order}
use Rattle.std.specs.List.{list_all, range_with_len}

-- a number of 64 bits has no bit from 64 on
pub is_up-far : (up node : ℕ) → up < 2 ^ 64 → 64 ≤ node → is_up up node ≡ false
is_up-far up node fits far =
    let most : 2 ^ 64 ≤ 2 ^ node = pow_mono far in
    let none : up / 2 ^ node ≡ 0 = div-eq_of_lt (omega arith) in
    ap (λ n. n % 2 == 1) none

both_parts : (a b : Bool) → (a && b) ≡ true → (a ≡ true) × (b ≡ true)
both_parts true b h = (refl, h)
both_parts false b h = cc

each_passes : (t : ℕ → Bool) (a n : ℕ) → list_all t (range_with_len a n) ≡ true → (i : ℕ) → i < n → t (a + i) ≡ true
each_passes t a zero all i lt = absurd (let never : ⊥ = omega arith in never)
each_passes t a (suc n) all zero lt = ap t (let same : a + 0 ≡ a = omega arith in same) ∙ (both_parts (t a) (list_all t (range_with_len (a + 1) n)) all).0
each_passes t a (suc n) all (suc i) lt =
    ap t (let same : a + suc i ≡ a + 1 + i = omega arith in same) ∙ each_passes t (a + 1) n (both_parts (t a) (list_all t (range_with_len (a + 1) n)) all).1 i (omega arith)

-- where all bits are 1, each node that is up by some bits is up
pub is_up-all : (up : ℕ) → up < 2 ^ 64 → (node : ℕ) → is_up up node ≡ true → is_up all_up node ≡ true
is_up-all up fits node is = elim (cases_order node 64) [
  | inl same ↦ absurd (let both : true ≡ false = sym is ∙ is_up-far up node fits (omega arith) in cc)
  | inr (inl less) ↦ ap (is_up all_up) (let same : node ≡ 0 + node = omega arith in same) ∙ each_passes (is_up all_up) 0 64 refl node less
  | inr (inr more) ↦ absurd (let both : true ≡ false = sym is ∙ is_up-far up node fits (omega arith) in cc)
]
