-- The owner in points that stand in another order.
use Rattle.std.proofs.Common.{◌≡◌, ℕ, List, option_map, ap}
use Rattle.std.specs.List.Sorted.{IsPermutation}
use Rattle.std.proofs.lemmas.List.Sorted.{Contains-permutation, IsPermutation-sym}
use Rattle.sd_model_settings.specs.Entries.{Node}
use Rattle.sd_model_ring.specs.Ring.{Point, next_point, is_up, owner}
use Rattle.sd_model_ring.proofs.Least.{Among}
use Rattle.sd_model_ring.proofs.Owners.{among-filter, next-same}
use Rattle.sd_model_ring.proofs.Short.{points, points_up, number_of_key}

-- the owner may be found in the points in any order
pub owner-permuted : (key : List ℕ) (nodes : List Node) (up : ℕ) (ps : List Point) → IsPermutation (points nodes) ps
    → owner key nodes up ≡ option_map (λ p. p.node) (next_point (number_of_key key) (points_up up ps))
owner-permuted key nodes up ps same =
    let to : Among (points nodes) ps = λ p c. Contains-permutation (points nodes) ps p same c in
    let from : Among ps (points nodes) = λ p c. Contains-permutation ps (points nodes) p (IsPermutation-sym (points nodes) ps same) c in
    ap (option_map (λ p. p.node))
    (next-same (number_of_key key) (points_up up (points nodes)) (points_up up ps)
    (among-filter (λ p. is_up up p.node) (points nodes) ps to) (among-filter (λ p. is_up up p.node) ps (points nodes) from))
