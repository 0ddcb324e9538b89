-- A stream is its parts, put together.
use Rattle.std.proofs.Common.{◌≡◌, ℕ, ◌<◌, Bool, true, false, cond, eqb, eqb-true, List, [], ◌∷◌, ◌++◌, length, refl, sym, ap, ◌∙◌, arith}
use Rattle.std.specs.Prelude.{flat_map, All}
use Rattle.std.proofs.lemmas.Bool.{or_from}
use Rattle.std.proofs.lemmas.List.Elements.{All-nil, All-cons, All-head, All-tail}
use Rattle.sd_model_text.specs.Lists.{split, onto_first}
use Rattle.sd_law_text.specs.Bytes.{has_byte}
use Rattle.sd_model_stream.specs.Streams.{but_last}
use Rattle.sd_tcp.specs.Cutting.{last_part}
use Rattle.sd_tcp.proofs.SplitLemmas.{some_parts}

-- parts with newlines between them
abbrev joined : List (List ℕ) → List ℕ
joined ps = flat_map (λ (part : List ℕ). part ++ 10 ∷ []) (but_last ps) ++ last_part ps

joined-begun : (ps : List (List ℕ)) → 0 < length ps → joined ([] ∷ ps) ≡ 10 ∷ joined ps
joined-begun [] some = absurd (omega (arith, some))
joined-begun (p ∷ ps) some = refl

joined-first : (x : ℕ) (ps : List (List ℕ)) → 0 < length ps → joined (onto_first x ps) ≡ x ∷ joined ps
joined-first x [] some = absurd (omega (arith, some))
joined-first x (p ∷ []) some = refl
joined-first x (p ∷ q ∷ ps) some = refl

joined_by_test : (b : Bool) (x : ℕ) (xs : List ℕ) → eqb x 10 ≡ b → joined (split 10 xs) ≡ xs → joined (cond b ([] ∷ split 10 xs) (onto_first x (split 10 xs))) ≡ x ∷ xs
joined_by_test true x xs is h = joined-begun (split 10 xs) (some_parts xs) ∙ ap (λ (bytes : List ℕ). 10 ∷ bytes) h ∙ ap (λ (y : ℕ). y ∷ xs) (sym (eqb-true x 10 is))
joined_by_test false x xs is h = joined-first x (split 10 xs) (some_parts xs) ∙ ap (λ (bytes : List ℕ). x ∷ bytes) h

joined-split : (xs : List ℕ) → joined (split 10 xs) ≡ xs
joined-split [] = refl
joined-split (x ∷ xs) = joined_by_test (eqb x 10) x xs refl (joined-split xs)

pub parts_together : (xs : List ℕ) → flat_map (λ (part : List ℕ). part ++ 10 ∷ []) (but_last (split 10 xs)) ++ last_part (split 10 xs) ≡ xs
parts_together xs = joined-split xs

-- a part without a newline
abbrev Lacks : List ℕ → Type 0
Lacks part = has_byte 10 part ≡ false

lacks_first : (x : ℕ) (ps : List (List ℕ)) → eqb x 10 ≡ false → 0 < length ps → All Lacks ps → All Lacks (onto_first x ps)
lacks_first x [] other some all = absurd (omega (arith, some))
lacks_first x (p ∷ ps) other some all = All-cons Lacks (x ∷ p) ps (or_from (eqb x 10) (has_byte 10 p) other (All-head Lacks p ps all)) (All-tail Lacks p ps all)

lacks_by_test : (b : Bool) (x : ℕ) (xs : List ℕ) → eqb x 10 ≡ b → All Lacks (split 10 xs) → All Lacks (cond b ([] ∷ split 10 xs) (onto_first x (split 10 xs)))
lacks_by_test true x xs is all = All-cons Lacks [] (split 10 xs) refl all
lacks_by_test false x xs is all = lacks_first x (split 10 xs) is (some_parts xs) all

pub parts_lack : (xs : List ℕ) → All Lacks (split 10 xs)
parts_lack [] = All-cons Lacks [] [] refl (All-nil Lacks)
parts_lack (x ∷ xs) = lacks_by_test (eqb x 10) x xs refl (parts_lack xs)
