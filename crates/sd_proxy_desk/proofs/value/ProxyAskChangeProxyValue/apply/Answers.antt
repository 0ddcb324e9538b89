use Rattle.sd_proxy_desk.proofs.HistoryLemmas.{Stands-push}
use Rattle.sd_proxy_desk.proofs.value.ProxyAskChangeProxyValue.apply.Goals as goal

pub returns-clause-stands : goal.returns-clause-stands
returns-clause-stands c = λ log stands. Stands-push c.args.value.now c.act.new.self log c.args.number c.args.self.now c.act.result stands c.act.ensures.does
