use Rattle.std.proofs.Common.{◌≡◌, ◌+◌, ◌*◌, ◌≤◌, ◌++◌, length, take}
use Rattle.std.specs.Prelude.{Some}
use Rattle.sd_model_record.specs.Totals.{totals_text}
use Rattle.sd_admin.specs.Totals.{totals_view}
use Rattle.sd_admin.specs.declared.totals.TheConstants.{TOTALS}
use Rattle.sd_top.specs.Serving.{skips_in}
use Rattle.sd_top.proofs.server_end.lines_of.Given as goal

-- the lines so far
abbrev pub invariant-loop-kind : goal.invariant-loop-kind
invariant-loop-kind l = record {
  text : l.line.items ≡ totals_text (totals_view l.totals) ++ totals_text (take l.kind-index (skips_in (Some l.outs)));
  len : length l.line.items ≤ 56 * TOTALS + l.kind-index * 57;
}
