use Rattle.sd_law_call.proofs.ProxyEnds.{proxy_answer_cause, proxy_blocked, relays, relays_whole, unfit}
use Rattle.sd_law_call.proofs.completeness.unhindered_proxies_relay.Goals as goal

pub returns-clause-relays : goal.returns-clause-relays
returns-clause-relays c words values old new bytes answer asks accepted fits steady h = relays words bytes old new asks values accepted fits steady answer h

pub returns-clause-whole : goal.returns-clause-whole
returns-clause-whole c words values old new bytes answer asks accepted fits steady none h = relays_whole words bytes old new asks values accepted fits steady none answer h

pub returns-clause-blocked : goal.returns-clause-blocked
returns-clause-blocked c words flaw old new bytes answer asks refused h = proxy_blocked words bytes old new asks flaw refused answer h

pub returns-clause-unfit : goal.returns-clause-unfit
returns-clause-unfit c words values flaw old new bytes answer asks accepted found h = unfit words bytes old new asks values accepted flaw found answer h

pub returns-clause-causes : goal.returns-clause-causes
returns-clause-causes c name old new answer h = proxy_answer_cause name old new answer h
