use Rattle.std.proofs.Common.{sym, subst}
use Rattle.sd_proxy_desk.specs.Shared.{History}
use Rattle.sd_proxy_desk.proofs.HistoryLemmas.{history}
use Rattle.sd_proxy_desk.proofs.desk.ProxyDesk.close.Goals as goal

pub returns : goal.returns
returns c = subst (History c.args.self c.args.seats.items) (sym c.into_facts.ensures) (history c.args.self c.args.seats.items c.close.result c.close.ensures.history)
