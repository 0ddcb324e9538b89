use Rattle.std.proofs.Common.{◌-◌, subst, arith}
use Rattle.sd_epoch.specs.Order.{IsWithout}
use Rattle.sd_epoch.proofs.OrderLemmas.{rank_within, rank_there, ranked_different, without_at}
use Rattle.sd_epoch.proofs.order.Order.remove.Goals as goal

pub index-at-requires : goal.index-at-requires
index-at-requires c = omega (arith, rank_within c.args.self.now.places.items c.args.self.now.rank.items c.args.place c.requires.ranked c.requires.there)

pub swap_remove-requires : goal.swap_remove-requires
swap_remove-requires c =
    let s = c.args.self.now in
    let there = rank_there s.places.items s.rank.items c.args.place c.index-at.result.now c.requires.ranked c.requires.there c.index-at.ensures in
    omega (arith, there.0, s.places.ok.0)

pub returns-then-at-len-clause-without : goal.returns-then-at-len-clause-without
returns-then-at-len-clause-without c =
    let s = c.args.self.now in
    let there = rank_there s.places.items s.rank.items c.args.place c.index-at.result.now c.requires.ranked c.requires.there c.index-at.ensures in
    subst (λ p. IsWithout p s.places.items c.swap_remove.new.self.items) there.1
    (without_at s.places.items c.swap_remove.new.self.items c.index-at.result.now (s.places.len - 1) (ranked_different s.places.items s.rank.items c.requires.ranked) (omega (arith, there.0, s.places.ok.0)) (omega (arith, there.0, s.places.ok.0))
    (omega (arith, c.swap_remove.ensures.len, c.swap_remove.new.self.ok.0))
    (λ lt. c.swap_remove.ensures.by_index.0 0 (omega (arith, lt)))
    (λ k ne lt. c.swap_remove.ensures.by_index.1 k 0 ne (omega (arith, lt))))

pub returns-else-at-len-clause-without : goal.returns-else-at-len-clause-without
returns-else-at-len-clause-without c =
    let s = c.args.self.now in
    let there = rank_there s.places.items s.rank.items c.args.place c.index-at.result.now c.requires.ranked c.requires.there c.index-at.ensures in
    subst (λ p. IsWithout p s.places.items c.swap_remove.new.self.items) there.1
    (without_at s.places.items c.swap_remove.new.self.items c.index-at.result.now (s.places.len - 1) (ranked_different s.places.items s.rank.items c.requires.ranked) (omega (arith, there.0, s.places.ok.0)) (omega (arith, there.0, s.places.ok.0))
    (omega (arith, c.swap_remove.ensures.len, c.swap_remove.new.self.ok.0))
    (λ lt. c.swap_remove.ensures.by_index.0 0 (omega (arith, lt)))
    (λ k ne lt. c.swap_remove.ensures.by_index.1 k 0 ne (omega (arith, lt))))
