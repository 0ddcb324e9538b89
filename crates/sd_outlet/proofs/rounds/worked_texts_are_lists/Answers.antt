use Rattle.sd_outlet.proofs.ListLemmas.{lists, whole}
use Rattle.sd_outlet.proofs.rounds.worked_texts_are_lists.Goals as goal

pub returns-clause-lists : goal.returns-clause-lists
returns-clause-lists c = lists

pub returns-clause-whole : goal.returns-clause-whole
returns-clause-whole c = whole
