use Rattle.sd_proxy_desk.proofs.HistoryLemmas.{events_more}
use Rattle.sd_proxy_desk.proofs.desk.ProxyDesk.ask.Goals as goal

pub returns-clause-did : goal.returns-clause-did
returns-clause-did g c = events_more c.args.own.now c.with_turn.new.seat c.args.ask c.with_turn.result c.with_turn.ensures.own
