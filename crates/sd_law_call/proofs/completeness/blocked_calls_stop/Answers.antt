use Rattle.sd_law_call.proofs.CallEnds.{blocked_answer, blocked_whole}
use Rattle.sd_law_call.proofs.completeness.blocked_calls_stop.Goals as goal

pub returns-clause-answer : goal.returns-clause-answer
returns-clause-answer c words old new bytes refused answer asks is h = blocked_answer words old new bytes refused asks is answer h

pub returns-clause-whole : goal.returns-clause-whole
returns-clause-whole c words old new bytes refused answer asks is steady h = blocked_whole words old new bytes refused asks is answer steady h
