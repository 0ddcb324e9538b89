-- The two kinds of patterns, by what `ends_with` and `starts_with` say.
use Rattle.std.proofs.Common.{◌≡◌, ◌≢◌, ◌-◌, ℕ, List, [], ◌∷◌, ◌++◌, length, take, true, nat_eq, cond, arith, append_assoc, length-append, refl, sym, ap, ◌∙◌, inl, inr}
use Rattle.std.proofs.lemmas.Bool.{cases_Bool}
use Rattle.std.proofs.lemmas.Bool.Decides.{Decides-eqb}
use Rattle.std.proofs.lemmas.List.{take_at}
use Rattle.std.proofs.lemmas.Slice.Eq.{ends_is, starts_is, bytes_eq-Decides}
use Rattle.std.specs.List.{starts_with, ends_with}
use Rattle.std.specs.Str.{bytes_eq}
use Rattle.sd_model_text.specs.Names.{matches}
use Rattle.sd_model_text.proofs.names.matches_families.Goals as goal

-- the text up to the last point
take-family : (prefix : List ℕ) → take (length (prefix ++ 46 ∷ 42 ∷ []) - 1) (prefix ++ 46 ∷ 42 ∷ []) ≡ prefix ++ 46 ∷ []
take-family prefix =
    rw (← append_assoc prefix (46 ∷ []) (42 ∷ []))
    (take_at (prefix ++ 46 ∷ []) (42 ∷ []) _ (omega (arith, length-append {A = ℕ})))

-- a pattern of the first kind
matches-family : (prefix key : List ℕ) → matches (prefix ++ 46 ∷ 42 ∷ []) key ≡ starts_with nat_eq key (prefix ++ 46 ∷ [])
matches-family prefix key =
    let pattern = prefix ++ 46 ∷ 42 ∷ [] in
    let ends : ends_with nat_eq pattern (46 ∷ 42 ∷ []) ≡ true = (ends_is Decides-eqb pattern (46 ∷ 42 ∷ []) _ refl).1 prefix refl in
    ap (λ b. cond b (starts_with nat_eq key (take (length pattern - 1) pattern)) (bytes_eq key pattern)) ends
    ∙ ap (starts_with nat_eq key) (take-family prefix)

-- and one of the second
matches-alone :
    (pattern key : List ℕ) → ((prefix : List ℕ) → pattern ≢ prefix ++ 46 ∷ 42 ∷ []) → matches pattern key ≡ bytes_eq key pattern
matches-alone pattern key other =
    elim (cases_Bool (ends_with nat_eq pattern (46 ∷ 42 ∷ []))) [
      | inl ends ↦ absurd (other _ ((ends_is Decides-eqb pattern (46 ∷ 42 ∷ []) _ refl).0 ends))
      | inr apart ↦ ap (λ b. cond b (starts_with nat_eq key (take (length pattern - 1) pattern)) (bytes_eq key pattern)) apart
    ]

pub returns-clause-family : goal.returns-clause-family
returns-clause-family c prefix key =
    let starts = starts_is Decides-eqb key (prefix ++ 46 ∷ []) _ refl in (
      λ is. (_, starts.0 (sym (matches-family prefix key) ∙ is) ∙ append_assoc prefix (46 ∷ []) _),
      λ (rest, is). matches-family prefix key ∙ starts.1 rest (is ∙ sym (append_assoc prefix (46 ∷ []) rest)),
    )

pub returns-clause-alone : goal.returns-clause-alone
returns-clause-alone c pattern key other =
    let same = bytes_eq-Decides key pattern in (
      λ is. same.0 (sym (matches-alone pattern key other) ∙ is),
      λ is. matches-alone pattern key other ∙ same.1 is,
    )
