use Rattle.sd_edge.proofs.NewlineLemmas.{sliced_from, sliced_none}
use Rattle.sd_edge.proofs.line_buffer.from_newline.Goals as goal

pub returns-in-Some-clause-rest : goal.returns-in-Some-clause-rest
returns-in-Some-clause-rest c = sliced_from c.args.bytes.now c.in-Some.at c.in-Some.ensures

pub returns-in-None-clause-rest : goal.returns-in-None-clause-rest
returns-in-None-clause-rest c = sliced_none c.args.bytes.now c.in-None.ensures
