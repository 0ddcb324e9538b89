use Rattle.std.proofs.Common.{◌≡◌, ◌∙◌, map, Contains, ap, sym, subst}
use Rattle.std.specs.List.Sorted.{IsPermutation}
use Rattle.sd_plan.specs.Entries.{node_view}
use Rattle.sd_model_ring.proofs.Least.{Contains-none}
use Rattle.sd_ring.proofs.Ascending.{Ascends-from_sorted, compared}
use Rattle.sd_ring.proofs.ring.Ring.open.Goals as goal
use Rattle.sd_model_ring.proofs.Short.{points}

pub invariant_of-result : goal.invariant_of-result
invariant_of-result c =
    let taken : c.in_ok-points.points.items ≡ points (map node_view c.in_ok-copies_of.field-0.items) =
    c.in_ok-points.ensures ∙ ap (λ nodes. points (map node_view nodes)) (sym c.in_ok-copies_of.ensures)
    in record {
      points = subst (λ ps. IsPermutation ps c.sort_unstable.new.self.items) taken c.sort_unstable.ensures.permutation;
      ascends = Ascends-from_sorted _ compared c.sort_unstable.new.self.items c.sort_unstable.ensures.sorted;
      homes = λ key home there. absurd (Contains-none (key, home) (subst (λ cache. Contains cache.entries (key, home)) c.in_ok-new.ensures there));
      recent = λ name home known. absurd (c.in_ok-open.ensures name home known);
    }
