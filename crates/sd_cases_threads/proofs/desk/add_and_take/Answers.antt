use Rattle.std.proofs.Common.{rules, IfSome, subst}
use Rattle.std.proofs.lemmas.List.Elements.{All-pop}
use Rattle.sd_shared_desk.specs.Shared.{IsNewSeatOf}
use Rattle.sd_cases_threads.proofs.desk.add_and_take.Goals as goal

pub join-adders-requires-after_bounds : goal.join-adders-requires-after_bounds
join-adders-requires-after_bounds g c κs within =
    let new = IsNewSeatOf c.in_ok-desk.desk in
    let first_pop = All-pop new _ _ _ c.pop.ensures.items c.in_ok-desk.ensures.seats in
    let second_pop = All-pop new _ _ _ c.pop-2.ensures.items first_pop.0 in
    let third_pop = All-pop new _ _ _ c.pop-3.ensures.items second_pop.0 in
    let own = subst (λ o. IfSome o new) c.in-Some.is first_pop.1 in
    let two = subst (λ o. IfSome o new) c.in-Some-pop.is second_pop.1 in
    let one = subst (λ o. IfSome o new) c.in-Some-pop-2.is third_pop.1 in
    (((one.seat_is, two.seat_is), search rules), own.seat_is)
