use Rattle.std.proofs.Common.{◌≡◌, ◌*◌, ◌≤◌, length, take}
use Rattle.sd_model_record.specs.Totals.{totals_text as lines_of}
use Rattle.sd_admin.specs.Totals.{totals_view}
use Rattle.sd_admin.proofs.totals.totals_text.Given as goal

-- the lines so far
abbrev pub invariant-loop-place : goal.invariant-loop-place
invariant-loop-place l = record {
  text : l.line.items ≡ lines_of (take l.place (totals_view l.totals));
  len : length l.line.items ≤ l.place * 56;
}
