use Rattle.std.proofs.Common.{◌≡◌, ℕ, ◌<◌, ◌≤◌, length}
use Rattle.sd_model_shard.specs.Rows.{is_hit}
use Rattle.sd_key.specs.Kind.{kind_of}
use Rattle.sd_rows.specs.Rows.{row_at}
use Rattle.sd_epoch.specs.Places.{left_by}
use Rattle.sd_epoch.proofs.forget.drop_hits.Given as goal

-- the rows of the places so far that are hit are gone
abbrev pub invariant-loop-place : goal.invariant-loop-place
invariant-loop-place l = record {
  done : (p : ℕ) → p < l.place → row_at l.rows.rows p ≡ left_by (is_hit (kind_of l.kind) l.pattern) (row_at l.fn.rows.rows p);
  rest : (p : ℕ) → l.place ≤ p → row_at l.rows.rows p ≡ row_at l.fn.rows.rows p;
  len : length l.rows.rows ≡ length l.fn.rows.rows;
  tallies : l.rows.tallies ≡ l.fn.rows.tallies;
  all : l.place-end ≡ length l.fn.rows.rows;
}
