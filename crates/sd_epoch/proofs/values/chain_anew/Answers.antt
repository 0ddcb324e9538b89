use Rattle.std.proofs.Common.{◌<◌, length, arith}
use Rattle.sd_epoch.specs.declared.values.TimerValue.{TimerValue}
use Rattle.sd_epoch.proofs.PlacedLemmas.{same_length, place_same}
use Rattle.sd_epoch.proofs.values.chain_anew.Goals as goal

pub chain_at-requires-clause-place : goal.chain_at-requires-clause-place
chain_at-requires-clause-place c d =
    let inv = c.loop-at.invariant in
    let here : c.loop-at.at < length c.args.values.now = omega (arith, inv.all, c.loop-at-test.true, same_length (λ (v : TimerValue). v.place) (λ (v : TimerValue). v.value.0) _ _ inv.items) in
    omega (arith, place_same (λ (v : TimerValue). v.place) (λ (v : TimerValue). v.value.0) _ _ inv.items c.loop-at.at d, c.requires.within c.loop-at.at d here, inv.places)
