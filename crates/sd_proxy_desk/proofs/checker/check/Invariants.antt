use Rattle.std.proofs.Common.{◌≡◌, map}
use Rattle.sd_plan.specs.Entries.{node_view}
use Rattle.sd_live.specs.Live.{IsCheckerOf}
use Rattle.sd_proxy_desk.specs.Shared.{IsSeatOf, number_of_seat}
use Rattle.sd_proxy_desk.specs.Checking.{check_seen}
use Rattle.sd_proxy_desk.proofs.Run.{Ran}
use Rattle.sd_proxy_desk.proofs.checker.check.Given as goal

abbrev pub invariant-loop-made : goal.invariant-loop-made
invariant-loop-made g l = record {
  pass : IsCheckerOf l.hub.cell.now l.own.pass;
  seat : IsSeatOf l.hub.desk.now l.own.seat × (number_of_seat l.own.seat ≡ number_of_seat l.fn.own.seat);
  ran : Ran (map node_view l.nodes) (check_seen l.fn.own (g.P.Faulty.seen l.fn.beat) (g.Q.Faulty.seen l.fn.probe)) (check_seen l.own (g.P.Faulty.seen l.beat) (g.Q.Faulty.seen l.probe)) l.made l.probe_faults;
}
