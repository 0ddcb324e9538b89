use Rattle.sd_line.proofs.CutLemmas.{found_cut, found_inside}
use Rattle.sd_line.proofs.cut.far_place_of.Goals as goal

pub returns-clause-cut : goal.returns-clause-cut
returns-clause-cut c = found_cut c.args.separator c.args.bytes.now c.memchr.result c.memchr.ensures

pub returns-clause-inside : goal.returns-clause-inside
returns-clause-inside c = found_inside c.args.separator c.args.bytes.now c.memchr.result c.memchr.ensures
