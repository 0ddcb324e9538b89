-- From any state on.
use Rattle.sd_model_shard.specs.Shard.{empty_state}
use Rattle.sd_model_shard.proofs.HistoryLemmas.{LegalFrom-push, LegalFrom-last, LegalFrom-answered}
use Rattle.sd_law_shard.proofs.HistoryLemmas.{LegalFrom-prefix, StandsAt-push}
use Rattle.sd_model_shard.proofs.AnsweredLemmas.{answered-append, arrivals-answered}
use Rattle.sd_law_shard.proofs.history.histories_grow.Goals as goal

pub returns-clause-prefix : goal.returns-clause-prefix
returns-clause-prefix c limits policy prefix back h = LegalFrom-prefix limits policy empty_state prefix back h

pub returns-clause-one_more : goal.returns-clause-one_more
returns-clause-one_more c limits policy acts a h is = LegalFrom-push limits policy empty_state acts a h is

pub returns-clause-last : goal.returns-clause-last
returns-clause-last c limits policy acts a h = LegalFrom-last limits policy empty_state acts a h

pub returns-clause-answered : goal.returns-clause-answered
returns-clause-answered c limits policy asked = LegalFrom-answered limits policy empty_state asked

pub returns-clause-joined : goal.returns-clause-joined
returns-clause-joined c limits policy state xs ys = answered-append limits policy state xs ys

pub returns-clause-arrivals : goal.returns-clause-arrivals
returns-clause-arrivals c limits policy state asked = arrivals-answered limits policy state asked

pub returns-clause-stands : goal.returns-clause-stands
returns-clause-stands c limits policy acts state who event h = StandsAt-push limits policy acts state who event h
