use Rattle.std.proofs.Common.{length, is_some, sym, subst, ◌∙◌}
use Rattle.sd_rows.specs.Rows.{row_at}
use Rattle.sd_epoch.specs.Order.{AreWithin, AreDifferent}
use Rattle.sd_epoch.proofs.OrderLemmas.{ranked_different, different_picked, within_picked}
use Rattle.sd_epoch.proofs.order.Order.retain_live.Goals as goal

pub rank_anew-requires-clause-within : goal.rank_anew-requires-clause-within
rank_anew-requires-clause-within c =
    let s = c.args.self.now in
    subst (AreWithin (length s.rank.items)) (sym (c.deref.ensures.value ∙ c.drop_places.ensures.places))
    (within_picked (λ place. is_some (row_at c.args.rows.now.rows place)) (length s.rank.items) s.places.items c.requires.within)

pub rank_anew-requires-clause-different : goal.rank_anew-requires-clause-different
rank_anew-requires-clause-different c =
    let s = c.args.self.now in
    subst AreDifferent (sym (c.deref.ensures.value ∙ c.drop_places.ensures.places))
    (different_picked (λ place. is_some (row_at c.args.rows.now.rows place)) s.places.items (ranked_different s.places.items s.rank.items c.requires))
