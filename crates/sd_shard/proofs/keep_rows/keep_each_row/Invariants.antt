use Rattle.std.proofs.Common.{◌≡◌, ℕ, ◌+◌, ◌<◌, ◌≤◌, sum_by}
use Rattle.std.specs.List.{range_with_len}
use Rattle.sd_rows.specs.Rows.{row_at}
use Rattle.sd_rows.specs.RowMap.{copy_steps}
use Rattle.sd_epoch.specs.Table.{live_of, HasPlaces}
use Rattle.sd_shard.specs.Policy.{policy_of}
use Rattle.sd_shard.specs.Swap.{row_left}
use Rattle.sd_shard.proofs.keep_rows.keep_each_row.Given as goal

-- the places so far have the rows that are left, and the others are as they were
abbrev pub invariant-loop-at : goal.invariant-loop-at
invariant-loop-at g l = record {
  done : (p : ℕ) → p < l.at → row_at l.into.places p ≡ row_left (policy_of l.policy) (live_of l.table) (row_at l.table.places p);
  rest : (p : ℕ) → l.at ≤ p → row_at l.into.places p ≡ row_at l.fn.into.places p;
  listing : HasPlaces l.into;
  limits : l.into.limits ≡ l.fn.into.limits;
  held : l.into.held ≡ 0;
  entries : l.into.entries ≡ 0;
  steps : l.steps ≤ l.fn.steps + sum_by (λ at. copy_steps (row_left (policy_of l.policy) (live_of l.table) (row_at l.table.places at)) (row_at l.fn.into.places at)) (range_with_len 0 l.at);
}
