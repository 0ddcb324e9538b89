use Rattle.std.proofs.Common.{◌≡◌, ℕ, ◌<◌, ◌≤◌}
use Rattle.sd_rows.specs.Rows.{row_at}
use Rattle.sd_epoch.specs.Table.{live_of, HasPlaces}
use Rattle.sd_shard.specs.Policy.{policy_of}
use Rattle.sd_shard.specs.Swap.{row_left, staying}
use Rattle.sd_shard.proofs.keep_rows.empty_others.Given as goal

-- in the places so far there is only what stays
abbrev pub invariant-loop-at : goal.invariant-loop-at
invariant-loop-at l = record {
  done : (p : ℕ) → p < l.at → row_at l.into.places p ≡ staying (row_left (policy_of l.policy) (live_of l.table) (row_at l.table.places p)) (row_at l.fn.into.places p);
  rest : (p : ℕ) → l.at ≤ p → row_at l.into.places p ≡ row_at l.fn.into.places p;
  listing : HasPlaces l.into;
  limits : l.into.limits ≡ l.fn.into.limits;
  held : l.into.held ≡ 0;
  entries : l.into.entries ≡ 0;
  all : l.at-end ≡ l.table.limits.rows;
}
