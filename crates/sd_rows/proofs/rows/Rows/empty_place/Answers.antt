use Rattle.std.proofs.Common.{◌≡◌, ◌<◌, length, get_or, arith, subst, sym, ap, ◌∙◌}
use Rattle.std.proofs.lemmas.List.{get_or_read}
use Rattle.sd_rows.proofs.HeadLemmas.{seen_row, seen_len, seen_count, seen_used, length-rows_with}
use Rattle.sd_rows.proofs.rows.Rows.empty_place.Goals as goal

pub index-requires : goal.index-requires
index-requires c =
    let x = c.self.inside in
    let w = c.self.invariant in
    omega (arith, c.if-self-used.true, c.used.ensures.used, seen_used x c.args.self.now c.self.view_is, length-rows_with x.heads.items x.keys.items, w.ranking.len, w.divided.len, x.ranking.order.ok.0)

-- the place of the first rank behind those in use
pub returns-then-self-used : goal.returns-then-self-used
returns-then-self-used c =
    let x = c.self.inside in
    let w = c.self.invariant in
    let lr = length-rows_with x.heads.items x.keys.items in
    let lt : x.live < length x.ranking.order.items = omega (arith, c.if-self-used.true, c.used.ensures.used, seen_used x c.args.self.now c.self.view_is, lr, w.ranking.len, w.divided.len) in
    let is = get_or_read x.ranking.order.items x.live c.index.result.now lt c.index.ensures 0 in
    let within : c.index.result.now < length x.ranking.order.items = subst (λ p. p < length x.ranking.order.items) (sym is) (w.ranking.order_in x.live lt) in
    let rank : get_or x.ranking.rank.items c.index.result.now 0 ≡ x.live = ap (λ p. get_or x.ranking.rank.items p 0) is ∙ w.ranking.forth x.live lt in record {
      within = omega (arith, within, w.ranking.len, w.divided.len, lr, w.within, seen_len x c.args.self.now c.self.view_is w.within);
      empty = seen_row x c.args.self.now c.self.view_is c.index.result.now ∙ w.divided.spare c.index.result.now (omega (arith, within, w.ranking.len)) (omega (arith, rank));
    }

-- all places that were in use have a row, so the next one comes into use
pub returns-else-self-used : goal.returns-else-self-used
returns-else-self-used c =
    let x = c.self.inside in
    let w = c.self.invariant in record {
      within = omega (arith, c.requires, w.live, seen_count x c.args.self.now c.self.view_is);
      empty = c.used.ensures.empty x.live (omega (arith, c.used.ensures.used, c.if-self-used.false));
    }
