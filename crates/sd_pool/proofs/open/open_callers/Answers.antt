use Rattle.std.proofs.Common.{◌+◌, List, [], length, sym, ap, subst, ◌∙◌, arith}
use Rattle.std.specs.List.{AllByRecursion}
use Rattle.std.proofs.lemmas.List.{length_push}
use Rattle.sd_pool.specs.TurnSeats.{AreSeatsOf}
use Rattle.sd_pool.specs.Dealing.{AreDealt, IsDealt, IsNew}
use Rattle.sd_pool.specs.Pool.{OwnSeat, turns_in}
use Rattle.sd_pool.specs.declared.seat.Seat.{Seat}
use Rattle.sd_pool.proofs.DealLemmas.{AreDealt-push}
use Rattle.sd_pool.proofs.open.open_callers.Goals as goal

pub loop-number-preserved : goal.loop-number-preserved
loop-number-preserved c =
    let all = c.loop-number.all.items in
    let inv = c.loop-number.invariant in
    let s : Seat = record { who = c.caller.result; seats = c.new.result } in
    let is : IsDealt [] c.args.receivers c.loop-number.number s = record {
      who = c.caller.ensures;
      seats = subst (λ (ss : List OwnSeat). AreSeatsOf (turns_in []) ss c.loop-number.number) (sym c.new.ensures.items) tt;
      new = subst (AllByRecursion IsNew) (sym c.new.ensures.items) tt;
    } in (
      ap length c.in_ok-push.ensures.items ∙ length_push all s ∙ ap (λ n. n + 1) inv.0,
      subst (AreDealt [] c.args.receivers 0) (sym c.in_ok-push.ensures.items) (AreDealt-push [] c.args.receivers 0 all s c.loop-number.number inv.1 (omega (arith, inv.0)) is),
    )
