use Rattle.std.proofs.Common.{◌<◌, length, sym, subst, arith}
use Rattle.sd_rows.specs.Rows.{Holds}
use Rattle.sd_rows.proofs.HeadLemmas.{seen_used, read_with}
use Rattle.sd_rows.proofs.rows.Rows.is_at.Goals as goal

pub returns : goal.returns
returns c =
    let x = c.self.inside in
    let lt : c.args.place < length x.heads.items = omega (arith, c.requires, seen_used x c.args.self.now c.self.view_is) in
    let read = read_with x c.args.self.now c.self.view_is c.args.place c.index.result.now c.index-2.result.now lt c.self.invariant.keys_len c.index.ensures c.index-2.ensures in (
      λ found. (c.if-not-is_hash.false, subst (Holds c.args.kind c.args.key.now) read (c.is_row.ensures.0 found)),
      λ both. c.is_row.ensures.1 (subst (Holds c.args.kind c.args.key.now) (sym read) both.1),
    )
