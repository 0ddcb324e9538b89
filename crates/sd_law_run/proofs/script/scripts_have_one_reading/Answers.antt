use Rattle.sd_law_call.proofs.ReadingLemmas.{one_record, ended_script, cut_script, same_script}
use Rattle.sd_law_run.proofs.script.scripts_have_one_reading.Goals as goal

pub returns-clause-record : goal.returns-clause-record
returns-clause-record c receivers d e r s a b same = one_record receivers d e r s a b same

pub returns-clause-prefix : goal.returns-clause-prefix
returns-clause-prefix c receivers commands prefix rest left legal other same =
    let h = ended_script receivers commands prefix rest left legal other same in (h.behind, h.whole, h.stands)

pub returns-clause-cut : goal.returns-clause-cut
returns-clause-cut c receivers commands prefix bytes left none legal other same =
    let h = cut_script receivers commands prefix bytes left none legal other same in (h.behind, h.whole, h.stands)

pub returns-clause-whole : goal.returns-clause-whole
returns-clause-whole c receivers commands others rest left legal other same = same_script receivers commands others rest left legal other same
