use Rattle.std.proofs.Common.{[]}
use Rattle.sd_law_run.proofs.EndedLemmas.{all_ended}
use Rattle.sd_law_run.proofs.streams.reads_end_each_line.Goals as goal

pub returns : goal.returns
returns c = all_ended []
