use Rattle.std.proofs.Common.{map}
use Rattle.sd_proxy_desk.specs.Views.{totals_view}
use Rattle.sd_proxy.proofs.ForwardLemmas.{TakesLines-long}
use Rattle.sd_proxy.proofs.lines.take_cut.Goals as goal

pub returns-in-Line-clause-takes : goal.returns-in-Line-clause-takes
returns-in-Line-clause-takes g c = rw c.in-Line.is c.forward_lines.ensures.takes

pub returns-in-Long-clause-takes : goal.returns-in-Long-clause-takes
returns-in-Long-clause-takes g c = rw c.in-Long.is (TakesLines-long c.args.ring.now c.args.up c.args.waiting.now
    (map g.L.Faulty.seen c.args.wires.now) c.args.totals.now (totals_view c.add_long.new.self) c.add_long.ensures)
