use Rattle.std.proofs.Common.{sym, ◌∙◌}
use Rattle.sd_rows.proofs.HeadLemmas.{seen_count}
use Rattle.sd_rows.proofs.rows.Rows.live.Goals as goal

pub returns : goal.returns
returns c = c.self.invariant.live ∙ sym (seen_count c.self.inside c.args.self.now c.self.view_is)
