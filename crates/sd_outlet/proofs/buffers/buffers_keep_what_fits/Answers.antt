use Rattle.sd_outlet.proofs.OutBufLemmas.{size, full, whole}
use Rattle.sd_outlet.proofs.buffers.buffers_keep_what_fits.Goals as goal

pub returns-clause-size : goal.returns-clause-size
returns-clause-size c = size

pub returns-clause-full : goal.returns-clause-full
returns-clause-full c = full

pub returns-clause-whole : goal.returns-clause-whole
returns-clause-whole c = whole
