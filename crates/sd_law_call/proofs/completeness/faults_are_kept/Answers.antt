use Rattle.sd_law_call.proofs.KeptFaults.{kept}
use Rattle.sd_law_call.proofs.completeness.faults_are_kept.Goals as goal

pub returns-clause-settings : goal.returns-clause-settings
returns-clause-settings c words old new answer asks h = (kept words old new answer asks h).settings

pub returns-clause-script : goal.returns-clause-script
returns-clause-script c words old new answer asks h = (kept words old new answer asks h).script

pub returns-clause-backs : goal.returns-clause-backs
returns-clause-backs c words old new answer b asks h = (kept words old new answer asks h).backs b

pub returns-clause-output : goal.returns-clause-output
returns-clause-output c words old new answer asks h = (kept words old new answer asks h).output

pub returns-clause-wires : goal.returns-clause-wires
returns-clause-wires c words old new answer i asks h = (kept words old new answer asks h).wires i
