use Rattle.sd_receive.proofs.LineLemmas.{line_read, long_read}
use Rattle.sd_receive.proofs.lines.read_line.Goals as goal

pub returns-in-Line-clause-files : goal.returns-in-Line-clause-files
returns-in-Line-clause-files g c = rw c.in-Line.is (line_read _ _ _ _ _ _ _ c.read_datagram-filed.ensures.reads)

pub returns-in-Long-clause-files : goal.returns-in-Long-clause-files
returns-in-Long-clause-files g c = rw c.in-Long.is (long_read _ _)
