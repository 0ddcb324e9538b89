use Rattle.std.proofs.Common.{◌≡◌, length, take}
use Rattle.sd_model_outside.specs.Outside.{given}
use Rattle.sd_record.specs.Record.{record_view, room_of, SameScratch}
use Rattle.sd_record.specs.RowTexts.{rows_text}
use Rattle.sd_record.proofs.rows.write_rows.Given as goal

abbrev pub invariant-loop-i : goal.invariant-loop-i
invariant-loop-i g l = record {
  written : g.K.Faulty.seen l.sink ≡ given (rows_text (g.T.RowText.lines_of l.form) (take l.i (record_view l.initial.rec).rows)) (g.K.Faulty.seen l.initial.sink);
  all : l.i-end ≡ length (record_view l.initial.rec).rows;
  same : record_view l.rec ≡ record_view l.initial.rec;
  room : room_of l.rec ≡ room_of l.initial.rec;
  scratch : SameScratch l.rec l.initial.rec;
}
