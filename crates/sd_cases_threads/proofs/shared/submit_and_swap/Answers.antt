use Rattle.std.proofs.Common.{rules, ◌∷◌, [], length, sym, ap, subst, ◌∙◌, arith}
use Rattle.std.specs.List.{AllByRecursion}
use Rattle.std.proofs.lemmas.List.{length-map, length-append, length_push}
use Rattle.sd_pool.specs.Pool.{IsSeatOf, seats_in, who_is}
use Rattle.sd_pool.proofs.AlongLemmas.{AllByRecursion-prefix, AllByRecursion-back, AllByRecursion-append, span_long}
use Rattle.sd_pool.proofs.DealLemmas.{AllByRecursion-seats}
use Rattle.sd_cases_threads.proofs.shared.submit_and_swap.Goals as goal

pub join-one-requires-after_bounds : goal.join-one-requires-after_bounds
join-one-requires-after_bounds g c κs within =
    let seats = c.in_ok-pool.seats in
    let Is = IsSeatOf c.in_ok-pool.pool in
    let all = AllByRecursion-seats c.in_ok-pool.pool (seats_in seats) c.in_ok-pool.ensures.seats in
    let behind = AllByRecursion-back Is seats.receivers.items (seats.flusher ∷ seats.admin ∷ []) all in
    let both = subst (AllByRecursion Is) c.in-Some.ensures.items (AllByRecursion-prefix Is seats.receivers.items (seats.flusher ∷ seats.admin ∷ []) all) in
    let two = (AllByRecursion-back Is c.pop.new.self.items (c.in-Some.two ∷ []) both).0 in
    let first = subst (AllByRecursion Is) c.in-Some-pop.ensures.items (AllByRecursion-prefix Is c.pop.new.self.items (c.in-Some.two ∷ []) both) in
    let one = (AllByRecursion-back Is c.pop-2.new.self.items (c.in-Some-pop.one ∷ []) first).0 in
    ((((one, two), search rules), search rules), (behind.0, omega (arith, c.in_ok-pool.ensures.shards), record { limits = c.in_ok-spare.ensures.limits ∙ sym c.in_ok-pool.ensures.limits; no_samples = c.in_ok-spare.ensures.held; no_entries = c.in_ok-spare.ensures.entries }))

pub close-books-requires-clause-all : goal.close-books-requires-clause-all
close-books-requires-clause-all g c =
    let seats = c.in_ok-pool.seats in
    let few = sym (length-map seats.receivers.items who_is) ∙ ap length c.in_ok-pool.ensures.callers.0 ∙ span_long 0 2 in
    let less = ap length c.in-Some.ensures.items ∙ length_push c.pop.new.self.items c.in-Some.two in
    let least = ap length c.in-Some-pop.ensures.items ∙ length_push c.pop-2.new.self.items c.in-Some-pop.one in
    let more = ap length c.in_ok-push.ensures.items ∙ length_push c.pop-2.new.self.items c.join-one.result.0.0 in
    let most = ap length c.in_ok-push-2.ensures.items ∙ length_push c.push.new.self.items c.join-one.result.0.1 in
    let all = length-append c.push-2.new.self.items (c.join-one.result.1 ∷ seats.admin ∷ []) in
    omega (arith, few, less, least, more, most, all, c.in_ok-pool.ensures.receivers)

pub close-books-requires-clause-seats : goal.close-books-requires-clause-seats
close-books-requires-clause-seats g c =
    let seats = c.in_ok-pool.seats in
    let Is = IsSeatOf c.in_ok-pool.pool in
    let all = AllByRecursion-seats c.in_ok-pool.pool (seats_in seats) c.in_ok-pool.ensures.seats in
    let behind = AllByRecursion-back Is seats.receivers.items (seats.flusher ∷ seats.admin ∷ []) all in
    let both = subst (AllByRecursion Is) c.in-Some.ensures.items (AllByRecursion-prefix Is seats.receivers.items (seats.flusher ∷ seats.admin ∷ []) all) in
    let first = subst (AllByRecursion Is) c.in-Some-pop.ensures.items (AllByRecursion-prefix Is c.pop.new.self.items (c.in-Some.two ∷ []) both) in
    let rest = AllByRecursion-prefix Is c.pop-2.new.self.items (c.in-Some-pop.one ∷ []) first in
    let back = c.join-one.ensures in
    let some = subst (AllByRecursion Is) (sym c.in_ok-push.ensures.items) (AllByRecursion-append Is c.pop-2.new.self.items (c.join-one.result.0.0 ∷ []) rest (back.first.0, tt)) in
    let more = subst (AllByRecursion Is) (sym c.in_ok-push-2.ensures.items) (AllByRecursion-append Is c.push.new.self.items (c.join-one.result.0.1 ∷ []) some (back.first.1, tt)) in
    AllByRecursion-append Is c.push-2.new.self.items (c.join-one.result.1 ∷ seats.admin ∷ []) more (back.second, (behind.1.0, tt))
