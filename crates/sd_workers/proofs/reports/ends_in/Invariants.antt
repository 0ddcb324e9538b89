use Rattle.std.proofs.Common.{◌≡◌, map, take, vec_capacity}
use Rattle.sd_workers.proofs.reports.ends_in.Given as goal

abbrev pub invariant-loop-worker : goal.invariant-loop-worker
invariant-loop-worker g l = record {
  items : l.room.items ≡ map g.W.Reports.ended_in (take l.worker-index l.workers);
  room : vec_capacity l.room ≡ vec_capacity l.initial.room;
}
