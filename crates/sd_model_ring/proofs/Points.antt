-- The points of nodes, one text and one node after another.
use Rattle.std.proofs.Common.{◌≡◌, ℕ, suc, ◌+◌, List, [], ◌∷◌, ◌++◌, length, map, arith, refl, sym, ap, ◌∙◌, append_assoc, append-nil}
use Rattle.std.specs.List.{concat, range_with_len}
use Rattle.std.proofs.lemmas.List.Folds.{concat-append}
use Rattle.std.proofs.lemmas.List.FromFn.{map-range_with_len_more}
use Rattle.sd_model_settings.specs.Entries.{Node}
use Rattle.sd_model_ring.specs.Ring.{numbers_of_node, points_from}
use Rattle.sd_model_ring.proofs.Short.{numbers_of, numbers_of_texts, points_of, points_at, node_text}

-- the numbers of one text more
pub numbers_of_texts-more : (node : Node) (texts : ℕ) → numbers_of_texts node (texts + 1) ≡ numbers_of_texts node texts ++ numbers_of (node_text node texts)
numbers_of_texts-more node texts =
    let numbers : ℕ → List ℕ = λ i. numbers_of (node_text node i) in
    ap concat (map-range_with_len_more numbers 0 texts texts (let same : 0 + texts ≡ texts = omega arith in same)) ∙ concat-append (map numbers (range_with_len 0 texts)) (numbers texts ∷ [])
    ∙ ap (λ last. numbers_of_texts node texts ++ last) (append-nil (numbers texts))

pub points_of-is : (place : ℕ) (node : Node) → points_of place node ≡ points_at place (numbers_of_texts node 40)
unfolding numbers_of_node
points_of-is place node = refl

-- the points of one node more
pub points_from-more : (place : ℕ) (nodes : List Node) (node : Node) → points_from place (nodes ++ node ∷ []) ≡ points_from place nodes ++ points_of (place + length nodes) node
points_from-more place [] node = append-nil (points_of place node) ∙ ap (λ p. points_of p node) (let same : place ≡ place + 0 = omega arith in same)
points_from-more place (first ∷ nodes) node =
    ap (λ ps. points_of place first ++ ps) (points_from-more (place + 1) nodes node)
    ∙ sym (append_assoc (points_of place first) (points_from (place + 1) nodes) (points_of (place + 1 + length nodes) node))
    ∙ ap (λ p. points_of place first ++ points_from (place + 1) nodes ++ points_of p node) (let same : place + 1 + length nodes ≡ place + suc (length nodes) = omega arith in same)
