-- A list is cut at its first separator in one way.
use Rattle.std.proofs.Common.{◌≡◌, ℕ, ◌<◌, List, ◌∷◌, ◌++◌, length, get_or, take, drop, refl, sym, ap, ◌∙◌, ⊎_elim, arith}
use Rattle.std.proofs.lemmas.Bool.{cases_lt}
use Rattle.std.proofs.lemmas.List.{take_at, drop_at, get_or_at, get_or_append_left}
use Rattle.sd_model_text.specs.Lists.{Lacks}

-- the separator is after the part
pub at_cut : (s : ℕ) (part rest : List ℕ) → get_or (part ++ s ∷ rest) (length part) 0 ≡ s
at_cut s part rest = get_or_at part s rest 0 (length part) refl

-- the first separator doesn't are within a part that lacks it
not_before : (s : ℕ) (a b c d : List ℕ) → Lacks s c → a ++ s ∷ b ≡ c ++ s ∷ d → length a < length c → ⊥
not_before s a b c d lacks same less =
    lacks (length a) less
    (sym (get_or_append_left c (s ∷ d) 0 (length a) less) ∙ ap (λ xs. get_or xs (length a) 0) (sym same) ∙ at_cut s a b)

same_length : (s : ℕ) (a b c d : List ℕ) → Lacks s a → Lacks s c → a ++ s ∷ b ≡ c ++ s ∷ d → length a ≡ length c
same_length s a b c d first other same =
    ⊎_elim
    (λ less. absurd (not_before s a b c d other same less))
    (λ most. ⊎_elim
    (λ less. absurd (not_before s c d a b first (sym same) less))
    (λ least. omega arith)
    (cases_lt (length c) (length a)))
    (cases_lt (length a) (length c))

-- two lists with prefixes of one length have one prefix, and one rest
pub same_parts : (a b c d : List ℕ) → length a ≡ length c → a ++ b ≡ c ++ d → (a ≡ c) × (b ≡ d)
same_parts a b c d long same = (
  sym (take_at a b (length a) refl) ∙ ap (take (length a)) same ∙ take_at c d (length a) (sym long),
  sym (drop_at a b (length a) refl) ∙ ap (drop (length a)) same ∙ drop_at c d (length a) (sym long),
)

pub same_cut : (s : ℕ) (a b c d : List ℕ) → Lacks s a → Lacks s c → a ++ s ∷ b ≡ c ++ s ∷ d → (a ≡ c) × (b ≡ d)
same_cut s a b c d first other same =
    let parts = same_parts a (s ∷ b) c (s ∷ d) (same_length s a b c d first other same) same in
    let behind : s ∷ b ≡ s ∷ d = parts.1 in
    (parts.0, cc)
