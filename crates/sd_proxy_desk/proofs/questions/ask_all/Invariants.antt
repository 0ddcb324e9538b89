use Rattle.std.proofs.Common.{take, map}
use Rattle.sd_plan.specs.Entries.{node_view}
use Rattle.sd_proxy_desk.proofs.Asking.{Stands}
use Rattle.sd_proxy_desk.proofs.questions.ask_all.Given as goal

abbrev pub invariant-loop-place : goal.invariant-loop-place
invariant-loop-place g l = Stands (map node_view (take l.place l.nodes)) (g.Q.Faulty.seen l.fn.probe) (g.Q.Faulty.seen l.probe) l.found
