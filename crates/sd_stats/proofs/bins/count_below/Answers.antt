use Rattle.std.proofs.Common.{rules, ap, sym, ◌∙◌}
use Rattle.std.specs.Prelude.{count_by, int_lt}
use Rattle.std.proofs.lemmas.List.Sorted.{IsPartitionPoint-from_clause}
use Rattle.sd_decimal.specs.declared.number.Micro.{Micro}
use Rattle.sd_decimal.specs.declared.number.Limit.{Limit}
use Rattle.sd_model_shard.specs.Values.{is_below}
use Rattle.sd_stats.specs.Timer.{limit_of}
use Rattle.sd_stats.proofs.BinLemmas.{count_by-point, below_first, count_by-all}
use Rattle.sd_stats.proofs.bins.count_below.Goals as goal

pub returns-in-Below : goal.returns-in-Below
returns-in-Below c =
    let xs = c.args.values.now in
    let point = IsPartitionPoint-from_clause (λ (v : Micro). int_lt v.0 c.in-Below.limit.0) xs c.partition_point.result c.partition_point.ensures.partitioned
    (below_first c.in-Below.limit.0 xs c.requires) (search rules) in
    let counted = count_by-point (λ (v : Micro). int_lt v.0 c.in-Below.limit.0) xs c.partition_point.result c.partition_point.ensures.bound point in
    sym counted ∙ ap (λ (l : Limit). count_by (λ (v : Micro). is_below v.0 (limit_of l)) xs) (sym c.in-Below.is)

pub returns-in-Infinite : goal.returns-in-Infinite
returns-in-Infinite c =
    let xs = c.args.values.now in
    sym (count_by-all xs) ∙ ap (λ (l : Limit). count_by (λ (v : Micro). is_below v.0 (limit_of l)) xs) (sym c.in-Infinite.is)
