use Rattle.sd_law_record.proofs.SendLemmas.{sends_count, sends_content}
use Rattle.sd_law_record.proofs.wires.sends_are_packets.Goals as goal

pub returns-clause-packets : goal.returns-clause-packets
returns-clause-packets c = sends_content

pub returns-clause-used : goal.returns-clause-used
returns-clause-used c sends old new after = (sends_count sends old new after).used

pub returns-clause-faults : goal.returns-clause-faults
returns-clause-faults c sends old new after = (sends_count sends old new after).rose

pub returns-clause-steady : goal.returns-clause-steady
returns-clause-steady c sends old new after none = (sends_count sends old new after).steady none
