-- A name that is a key as it stands ends at the first byte that no key has.
use Rattle.std.proofs.Common.{◌≡◌, ℕ, ◌+◌, ◌<◌, ◌≤◌, true, false, ◌||◌, eqb, List, [], ◌∷◌, ◌++◌, length, get_or, take, drop, suc, refl, sym, ap, ◌∙◌, Option, Some, Ok, arith, subst}
use Rattle.std.proofs.lemmas.Bool.Decides.{nat_tests}
use Rattle.std.proofs.lemmas.List.Elements.{All-head, All-tail, All-from_get_or}
use Rattle.std.proofs.lemmas.List.Folds.{length-prefix_len}
use Rattle.std.proofs.lemmas.List.{get_or-take}
use Rattle.std.proofs.lemmas.List.Sums.{prefix_len_passes}
use Rattle.std.proofs.Math.Seq.{split_at}
use Rattle.std.specs.List.{prefix_len, AllPass}
use Rattle.sd_model_text.specs.Lists.{cut_at, Cut}
use Rattle.sd_model_text.specs.Names.{is_name_byte, as_key, clean}
use Rattle.sd_law_text.specs.Bytes.{has_byte}
use Rattle.sd_model_text.proofs.NamesLemmas.{as_key-fits, cleaned-names}
use Rattle.sd_law_text.proofs.CutLemmas.{cut-first}

-- the bytes that pass from the start on are bytes of names
prefix_passes : (xs : List ℕ) → AllPass is_name_byte (take (prefix_len is_name_byte xs) xs)
prefix_passes xs =
    All-from_get_or (λ y. is_name_byte y ≡ true) (take (prefix_len is_name_byte xs) xs) 0 (λ i h.
    let inside : i < prefix_len is_name_byte xs = omega (arith, h, length-prefix_len is_name_byte xs) in
    ap is_name_byte (get_or-take (prefix_len is_name_byte xs) xs i 0 inside) ∙ prefix_len_passes is_name_byte xs i 0 inside)

no_colon : (x : ℕ) → is_name_byte x ≡ true → eqb x 58 ≡ false
no_colon x h = grind (arith, nat_tests)

names_lack : (xs : List ℕ) → AllPass is_name_byte xs → has_byte 58 xs ≡ false
names_lack [] h = refl
names_lack (x ∷ xs) h =
    ap (λ b. b || has_byte 58 xs) (no_colon x (All-head (λ y. is_name_byte y ≡ true) x xs h)) ∙ names_lack xs (All-tail (λ y. is_name_byte y ≡ true) x xs h)

-- the cut at a colon that follows them
cut-plain : (xs : List ℕ) (k d : ℕ) → k ≡ prefix_len is_name_byte xs → k < length xs → get_or xs k d ≡ 58 → cut_at 58 xs ≡ Some (record { part = take k xs; rest = drop (k + 1) xs })
cut-plain xs k d is inside colon =
    let next : suc k ≡ k + 1 = omega arith in
    let lacks = subst (λ n. has_byte 58 (take n xs) ≡ false) (sym is) (names_lack (take (prefix_len is_name_byte xs) xs) (prefix_passes xs)) in
    ap (cut_at 58) (split_at xs k d inside ∙ ap (λ b. take k xs ++ b ∷ drop (suc k) xs) colon)
    ∙ cut-first 58 (take k xs) (drop (suc k) xs) lacks
    ∙ ap (λ n. Some (record { part = take k xs; rest = drop n xs })) next

-- the same, of the parts by themselves
pub cuts-plain : (xs part rest : List ℕ) (k d : ℕ) → k ≡ prefix_len is_name_byte xs → k < length xs → get_or xs k d ≡ 58 → part ≡ take k xs → rest ≡ drop (k + 1) xs → Some (record { part = part; rest = rest }) ≡ cut_at 58 xs
cuts-plain xs part rest k d is inside colon part-is rest-is =
    let made : List ℕ → List ℕ → Option Cut = λ a b. Some (record { part = a; rest = b }) in
    ap (λ a. made a rest) part-is ∙ ap (made (take k xs)) rest-is ∙ sym (cut-plain xs k d is inside colon)

-- their key
pub key-plain : (xs : List ℕ) (k : ℕ) → k ≡ prefix_len is_name_byte xs → 0 < k → k ≤ 255 → clean (take k xs) ≡ Ok (take k xs)
key-plain xs k is some short =
    let names : AllPass is_name_byte (take k xs) = subst (λ n. AllPass is_name_byte (take n xs)) (sym is) (prefix_passes xs) in
    let long : length (take k xs) ≡ k = subst (λ n. length (take n xs) ≡ n) (sym is) (length-prefix_len is_name_byte xs) in
    ap as_key (cleaned-names (take k xs) names) ∙ as_key-fits (take k xs) (omega (arith, long)) (omega (arith, long))
