use Rattle.std.proofs.Common.{take, arith}
use Rattle.sd_outside.proofs.ReadLemmas.{take-filled}
use Rattle.sd_talk.proofs.sessions.read_on.Goals as goal

pub returns-in-Ok-clause-on : goal.returns-in-Ok-clause-on
returns-in-Ok-clause-on g c = (
  take c.in-Ok.count c.read.new.buf,
  c.in-Ok.ensures.next,
  take-filled c.args.buf.now c.read.new.buf _ c.args.len.now c.in-Ok.count (omega (arith, c.requires)) c.in-Ok.ensures.within,
)
