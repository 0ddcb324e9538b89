use Rattle.std.proofs.Common.{map, ◌∙◌}
use Rattle.std.proofs.lemmas.List.Sorted.{IsPermutation-map}
use Rattle.sd_stats.proofs.RunLemmas.{distinct-permutation}
use Rattle.sd_stats.proofs.members.distinct.Goals as goal

pub returns-clause-count : goal.returns-clause-count
returns-clause-count c =
    c.count_runs.ensures ∙ distinct-permutation (map (λ m. m.items) c.args.members.now) (map (λ m. m.items) c.sort_unstable.new.self)
    (IsPermutation-map (λ m. m.items) c.args.members.now c.sort_unstable.new.self c.sort_unstable.ensures.permutation)
