use Rattle.sd_edge.proofs.NewlineLemmas.{all_length, line_length}
use Rattle.sd_edge.proofs.line_buffer.first_line.Goals as goal

pub returns-in-Some : goal.returns-in-Some
returns-in-Some c = line_length c.args.bytes.now c.in-Some.at c.in-Some.ensures

pub returns-in-None : goal.returns-in-None
returns-in-None c = all_length c.args.bytes.now c.in-None.ensures
