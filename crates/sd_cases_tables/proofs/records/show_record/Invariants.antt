use Rattle.std.proofs.Common.{◌≡◌, length}
use Rattle.sd_record.specs.Record.{record_view, room_of, SameScratch}
use Rattle.sd_cases_tables.proofs.records.show_record.Given as goal

abbrev pub invariant-loop-i : goal.invariant-loop-i
invariant-loop-i l = record {
  all : l.i-end ≡ length (record_view l.initial.record).rows;
  same : record_view l.record ≡ record_view l.initial.record;
  room : room_of l.record ≡ room_of l.initial.record;
  scratch : SameScratch l.record l.initial.record;
}
