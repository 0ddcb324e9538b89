use Rattle.std.proofs.Common.{◌<◌, length, sym, ap, ◌∙◌, arith}
use Rattle.std.proofs.lemmas.List.{get_or_read}
use Rattle.sd_rows.specs.Heads.{no_head}
use Rattle.sd_rows.specs.declared.head.Head.{Head}
use Rattle.sd_rows.proofs.HeadLemmas.{seen_used, seen_tally}
use Rattle.sd_rows.proofs.rows.Rows.tally.Goals as goal

pub returns-then-at-used : goal.returns-then-at-used
returns-then-at-used c = sym (c.used.ensures.unknown c.args.at (omega (arith, c.used.ensures.used, c.if-at-used.true)))

pub returns : goal.returns
returns c =
    let x = c.self.inside in
    let lt : c.args.at < length x.heads.items = omega (arith, c.used.ensures.used, c.if-at-used.false, seen_used x c.args.self.now c.self.view_is) in
    ap (λ (h : Head). h.tally) (get_or_read x.heads.items c.args.at c.index.result.now lt c.index.ensures no_head) ∙ sym (seen_tally x c.args.self.now c.self.view_is c.args.at)
