use Rattle.sd_tcp.proofs.PartLemmas.{parts_together, parts_lack}
use Rattle.sd_law_run.proofs.streams.streams_are_their_parts.Goals as goal

pub returns-clause-whole : goal.returns-clause-whole
returns-clause-whole c = parts_together

pub returns-clause-lacks : goal.returns-clause-lacks
returns-clause-lacks c = parts_lack
