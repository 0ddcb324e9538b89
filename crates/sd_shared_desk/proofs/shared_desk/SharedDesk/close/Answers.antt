use Rattle.std.proofs.Common.{sym, subst}
use Rattle.sd_shared_desk.specs.Shared.{History, IsConserved}
use Rattle.sd_shared_desk.proofs.CloseLemmas.{conserved, history, sees, started, sums}
use Rattle.sd_shared_desk.proofs.shared_desk.SharedDesk.close.Goals as goal

pub returns-clause-history : goal.returns-clause-history
returns-clause-history c = subst (History c.args.self c.args.seats.items) (sym c.into_desk.ensures) (history c.args.self c.args.seats.items c.close.result c.close.ensures.history c.close.ensures.fixed)

pub returns-clause-start : goal.returns-clause-start
returns-clause-start c = rw c.into_desk.ensures (started c.args.self c.args.seats.items c.close.result c.close.ensures.history c.close.ensures.fixed)

pub returns-clause-sums : goal.returns-clause-sums
returns-clause-sums c = rw c.into_desk.ensures (sums c.args.self c.args.seats.items c.close.result c.close.ensures.history c.close.ensures.fixed)

pub returns-clause-seen : goal.returns-clause-seen
returns-clause-seen c = rw c.into_desk.ensures (sees c.args.self c.args.seats.items c.close.result c.close.ensures.history c.close.ensures.fixed)

pub returns-clause-conserved : goal.returns-clause-conserved
returns-clause-conserved c = subst (IsConserved c.args.seats.items) (sym c.into_desk.ensures) (conserved c.args.self c.args.seats.items c.close.result c.close.ensures.history c.close.ensures.fixed)
