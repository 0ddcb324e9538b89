use Rattle.std.proofs.Common.{sym, subst, rules}
use Rattle.sd_workers.proofs.reports.ends_in.Goals as goal

pub end-requires : goal.end-requires
end-requires g c = subst g.W.Reports.was_run (sym c.worker-item.is) (c.requires.run c.loop-worker.worker-index c.worker-item.result (search rules))
