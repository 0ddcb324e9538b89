-- Streams, read by read and one after another.
use Rattle.std.proofs.Common.{◌≡◌, ℕ, List, [], ◌∷◌, ◌++◌, sym, ap, ◌∙◌, append-nil, append_assoc}
use Rattle.std.specs.List.{concat}

-- one read more
pub concat-push : (reads : List (List ℕ)) (bytes : List ℕ) → concat (reads ++ bytes ∷ []) ≡ concat reads ++ bytes
concat-push [] bytes = append-nil bytes
concat-push (r ∷ reads) bytes = ap (λ (bs : List ℕ). r ++ bs) (concat-push reads bytes) ∙ sym (append_assoc r (concat reads) bytes)
