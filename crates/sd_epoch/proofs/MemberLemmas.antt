-- How many members differ, one after another.
use Rattle.std.proofs.Common.{◌≡◌, ℕ, ◌+◌, Bool, cond, List, [], ◌∷◌, ◌++◌, ap, ◌∙◌}
use Rattle.std.specs.List.{list_any}
use Rattle.std.specs.Ordering.{nat_cmp, is_eq}
use Rattle.std.specs.Cmp.Lexicographic.{slice_cmp, nat_list_cmp_total}
use Rattle.std.specs.FinMap.{slice_cmp-IsAntisymmetric, nat_cmp-IsAntisymmetric}
use Rattle.std.specs.FinSet.{from_list, from_list_push, len, len-insert, len-empty, contains-from_list}
use Rattle.sd_model_shard.specs.Values.{distinct}

-- whether a member is among others
abbrev pub among : List ℕ → List (List ℕ) → Bool
among member others = list_any (λ other. is_eq (slice_cmp nat_cmp member other)) others

pub distinct-push : (members : List (List ℕ)) (m : List ℕ) → distinct (members ++ m ∷ []) ≡ cond (among m members) (distinct members) (distinct members + 1)
distinct-push members m =
    ap len (from_list_push nat_list_cmp_total (slice_cmp-IsAntisymmetric nat_cmp-IsAntisymmetric) members m)
    ∙ len-insert nat_list_cmp_total (from_list members) m
    ∙ ap (λ b. cond b (distinct members) (distinct members + 1)) (contains-from_list nat_list_cmp_total members m)

-- of no entries no member differs
pub distinct-none : distinct [] ≡ 0
distinct-none = len-empty (slice_cmp nat_cmp)
