use Rattle.std.proofs.Common.{◌<◌, length, arith, sym, subst}
use Rattle.sd_model_outside.specs.Uses.{HasSent}
use Rattle.sd_repeater.proofs.RepeatLemmas.{HasRepeated-more, drop-next, at_most_one}
use Rattle.sd_repeater.proofs.repeat.Goals as goal

pub loop-wire-preserved : goal.loop-wire-preserved
loop-wire-preserved g c =
    let i = c.loop-wire.wire-index in
    let inside : i < length c.loop-wire.wire-items = omega arith in
    let sent = subst (λ w. HasSent c.args.packet.now c.has_failed.result (g.L.Faulty.seen w) (g.L.Faulty.seen c.has_failed.new.wire)) (sym c.wire-item.is) c.has_failed.ensures in
    record {
      sent = HasRepeated-more g.L.Faulty.seen _ _ _ i _ _ _ _ _ inside c.loop-wire-test.true c.wire-item.is c.loop-wire.invariant.rest c.loop-wire.invariant.sent sent c.from-failed.ensures;
      rest = drop-next _ _ i c.wire-item.result c.has_failed.new.wire inside c.loop-wire-test.true c.loop-wire.invariant.rest;
      few = omega (arith, at_most_one _ _ c.from-failed.ensures);
    }
