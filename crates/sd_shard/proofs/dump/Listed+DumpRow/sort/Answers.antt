use Rattle.std.proofs.Common.{map, subst, IsPermutation}
use Rattle.std.proofs.lemmas.List.Sorted.{IsPermutation-map}
use Rattle.sd_shard.specs.Dump.{DumpList, dump_row_of, rows_of}
use Rattle.sd_shard.proofs.DumpLemmas.{sorted_by_key}
use Rattle.sd_shard.proofs.dump.Listed+DumpRow.sort.Goals as goal

pub returns-clause-permutation : goal.returns-clause-permutation
returns-clause-permutation c =
    let sorted = c.sort_unstable.new.self.items in
    subst (λ (d : DumpList). IsPermutation (rows_of d) (map dump_row_of sorted)) c.self.view_is (IsPermutation-map dump_row_of c.self.inside.items.items sorted c.sort_unstable.ensures.permutation)

pub returns-clause-sorted : goal.returns-clause-sorted
returns-clause-sorted c = sorted_by_key c.sort_unstable.new.self.items c.sort_unstable.ensures.sorted
