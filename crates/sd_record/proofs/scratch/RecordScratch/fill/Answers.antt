use Rattle.std.proofs.Common.{map, subst, rules}
use Rattle.std.specs.Prelude.{IsPermutation}
use Rattle.std.specs.Ordering.{is_lt}
use Rattle.std.proofs.lemmas.Fn.{always_returns_same}
use Rattle.std.proofs.lemmas.List.Sorted.{IsPermutation-map, ranks_by}
use Rattle.sd_model_shard.specs.Rows.{row_cmp}
use Rattle.sd_model_shard.proofs.RowLemmas.{rows_total}
use Rattle.sd_record.specs.Placed.{row_at, id_at}
use Rattle.sd_record.proofs.scratch.RecordScratch.fill.Goals as goal

pub returns-clause-rows : goal.returns-clause-rows
returns-clause-rows c =
    let at = row_at c.args.tables.now in
    subst (λ es. IsPermutation es (map at c.sort_unstable_by.new.self.items)) c.place_all.ensures.rows (IsPermutation-map at _ c.sort_unstable_by.new.self.items c.sort_unstable_by.ensures.permutation)

pub returns-clause-order : goal.returns-clause-order
returns-clause-order c =
    let id = id_at c.args.tables.now in
    c.sort_unstable_by.ensures.sorted (λ a b. is_lt (row_cmp (id a) (id b))) (ranks_by rows_total id) (always_returns_same _ _ _ (λ a r f' k. search rules))
