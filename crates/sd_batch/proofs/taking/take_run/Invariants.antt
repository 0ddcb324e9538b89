use Rattle.std.proofs.Common.{◌≡◌, ℕ, ◌+◌, length}
use Rattle.sd_model_shard.specs.History.{after_all, dropped_in, summed_by}
use Rattle.sd_law_shard.specs.Sums.{taken_in}
use Rattle.sd_shard.specs.Shard.{state_of}
use Rattle.sd_batch.specs.Runs.{submitted}
use Rattle.sd_batch.proofs.taking.take_run.Given as goal

-- what is left does to the shard as it stands, and counts behind what was counted, as all does to the shard as it stood
abbrev pub invariant-loop-sample : goal.invariant-loop-sample
invariant-loop-sample l = record {
  limits : l.shard.table.limits ≡ l.initial.shard.table.limits;
  policy : l.shard.policy ≡ l.initial.shard.policy;
  state : (who : ℕ)
      → after_all l.shard.table.limits l.shard.policy (state_of l.shard) (submitted l.shard.table.limits l.shard.policy (state_of l.shard) who l.left)
      ≡ after_all l.initial.shard.table.limits l.initial.shard.policy (state_of l.initial.shard) (submitted l.initial.shard.table.limits l.initial.shard.policy (state_of l.initial.shard) who l.fn.run);
  taken : (who : ℕ)
      → l.counts.taken + summed_by taken_in (submitted l.shard.table.limits l.shard.policy (state_of l.shard) who l.left)
      ≡ summed_by taken_in (submitted l.initial.shard.table.limits l.initial.shard.policy (state_of l.initial.shard) who l.fn.run);
  dropped : (who : ℕ)
      → l.counts.dropped + summed_by dropped_in (submitted l.shard.table.limits l.shard.policy (state_of l.shard) who l.left)
      ≡ summed_by dropped_in (submitted l.initial.shard.table.limits l.initial.shard.policy (state_of l.initial.shard) who l.fn.run);
  whole : l.counts.taken + l.counts.dropped + length l.left ≡ length l.fn.run;
}

abbrev pub decreases-loop-sample : goal.decreases-loop-sample
decreases-loop-sample l = length l.left
