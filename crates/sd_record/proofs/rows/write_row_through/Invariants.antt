use Rattle.std.proofs.Common.{◌≡◌, ◌-◌, ◌<◌, length, take, slice_get, Some}
use Rattle.std.specs.List.{concat}
use Rattle.sd_model_outside.specs.Outside.{given}
use Rattle.sd_record.specs.Row.{row_view}
use Rattle.sd_record.proofs.rows.write_row_through.Given as goal

abbrev pub invariant-loop-place : goal.invariant-loop-place
invariant-loop-place g l = record {
  written : g.K.Faulty.seen l.sink ≡ given (concat (take l.place (g.T.RowText.lines_of l.form (row_view l.row)))) (g.K.Faulty.seen l.initial.sink);
  all : l.place-end ≡ length (g.T.RowText.lines_of l.form (row_view l.row));
  before : 0 < l.place → slice_get (g.T.RowText.lines_of l.form (row_view l.row)) (l.place - 1) ≡ Some l.line.items;
}
