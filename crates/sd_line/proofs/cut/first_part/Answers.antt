use Rattle.sd_line.specs.Cut.{cut_view}
use Rattle.std.proofs.Common.{Some, None}
use Rattle.sd_line.proofs.FieldLemmas.{parts-cut}
use Rattle.sd_line.proofs.cut.first_part.Goals as goal

pub returns-in-Some : goal.returns-in-Some
returns-in-Some c = parts-cut c.args.separator c.args.bytes.now (Some (cut_view c.in-Some.cut)) c.in-Some.ensures.cut

pub returns-in-None : goal.returns-in-None
returns-in-None c = parts-cut c.args.separator c.args.bytes.now None c.in-None.ensures.cut
