-- The set of what came of questions, with one more.
use Rattle.std.proofs.Common.{◌≡◌, ℕ, zero, suc, ◌+◌, ◌^◌, ◌<◌, ◌≤◌, cond, Bool, true, false, List, [], ◌∷◌, ◌++◌, length, length-append, Option, Some, None, inl, inr, refl, sym, ap, ◌∙◌, arith, zero-le}
use Rattle.std.specs.Prelude.{slice_get}
use Rattle.std.specs.Option.{option_map_or}
use Rattle.std.proofs.lemmas.Bool.{cases_order}
use Rattle.sd_model_ring.specs.Ring.{is_up}
use Rattle.sd_model_live.specs.Proxy.{tells_up}
use Rattle.sd_model_live.proofs.Bits.{is_up-beyond, is_up-below, is_up-here, with_bit-small}
use Rattle.sd_model_live.proofs.Short.{IsSetOf}

module _ {A : Type 0} where
  get_below : (xs ys : List A) (i : ℕ) → i < length xs → slice_get (xs ++ ys) i ≡ slice_get xs i
  get_below [] ys i lt = absurd (omega arith)
  get_below (x ∷ xs) ys zero lt = refl
  get_below (x ∷ xs) ys (suc i) lt = get_below xs ys i (omega arith)

  get_at : (xs : List A) (x : A) (i : ℕ) → i ≡ length xs → slice_get (xs ++ x ∷ []) i ≡ Some x
  get_at [] x zero e = refl
  get_at [] x (suc i) e = absurd (omega arith)
  get_at (y ∷ xs) x zero e = absurd (omega arith)
  get_at (y ∷ xs) x (suc i) e = get_at xs x i (omega arith)

  get_beyond : (xs : List A) (i : ℕ) → length xs ≤ i → slice_get xs i ≡ None
  get_beyond [] i le = refl
  get_beyond (x ∷ xs) zero le = absurd (omega arith)
  get_beyond (x ∷ xs) (suc i) le = get_beyond xs i (omega arith)

-- whether what stands in a place says that its node is up
abbrev said : Option (Option (List ℕ)) → Bool
said o = option_map_or tells_up o false

-- no node was asked
pub set_none : IsSetOf 0 []
set_none node = is_up-beyond 0 0 node (omega arith) zero-le

set_up : (up n : ℕ) (answers : List (Option (List ℕ))) (answer : Option (List ℕ)) → length answers ≡ n → up < 2 ^ n → IsSetOf up answers → tells_up answer ≡ true → IsSetOf (up + 2 ^ n) (answers ++ answer ∷ [])
set_up up n answers answer len small set is node = elim (cases_order node n) [
  | inl same ↦ ap (is_up (up + 2 ^ n)) same ∙ is_up-here up n small ∙ sym is ∙ sym (ap said (get_at answers answer node (same ∙ sym len)))
  | inr (inl less) ↦ is_up-below up n node less ∙ set node ∙ sym (ap said (get_below answers (answer ∷ []) node (omega arith)))
  | inr (inr more) ↦ is_up-beyond (up + 2 ^ n) (n + 1) node (with_bit-small up n small) (omega arith) ∙ sym (ap said (get_beyond (answers ++ answer ∷ []) node (omega (arith, length-append answers (answer ∷ [])))))
]

set_down : (up n : ℕ) (answers : List (Option (List ℕ))) (answer : Option (List ℕ)) → length answers ≡ n → up < 2 ^ n → IsSetOf up answers → tells_up answer ≡ false → IsSetOf up (answers ++ answer ∷ [])
set_down up n answers answer len small set is node = elim (cases_order node n) [
  | inl same ↦ is_up-beyond up n node small (omega arith) ∙ sym is ∙ sym (ap said (get_at answers answer node (same ∙ sym len)))
  | inr (inl less) ↦ set node ∙ sym (ap said (get_below answers (answer ∷ []) node (omega arith)))
  | inr (inr more) ↦ is_up-beyond up n node small (omega arith) ∙ sym (ap said (get_beyond (answers ++ answer ∷ []) node (omega (arith, length-append answers (answer ∷ [])))))
]

-- the node behind those that were asked was asked too
pub set_more : (up n : ℕ) (answers : List (Option (List ℕ))) (answer : Option (List ℕ)) → length answers ≡ n → up < 2 ^ n → IsSetOf up answers
    → IsSetOf (cond (tells_up answer) (up + 2 ^ n) up) (answers ++ answer ∷ []) × (cond (tells_up answer) (up + 2 ^ n) up < 2 ^ (n + 1))
set_more up n answers answer len small set = go (tells_up answer) refl
  where
    go : (b : Bool) → tells_up answer ≡ b → IsSetOf (cond b (up + 2 ^ n) up) (answers ++ answer ∷ []) × (cond b (up + 2 ^ n) up < 2 ^ (n + 1))
    go true is = (set_up up n answers answer len small set is, with_bit-small up n small)
    go false is = (set_down up n answers answer len small set is, omega (arith, with_bit-small up n small))
