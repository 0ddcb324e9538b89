use Rattle.std.proofs.Common.{◌≡◌, ℕ, ◌+◌, get_or, refl, ap, arith}
use Rattle.sd_rows.specs.declared.tally.Tally.{Tally}
use Rattle.sd_epoch.specs.Since.{no_tally}
use Rattle.sd_epoch.proofs.SumLemmas.{sum_taken, sum_few}
use Rattle.sd_epoch.proofs.forget.samples_at.Goals as goal

pub overflow_add-samples : goal.overflow_add-samples
overflow_add-samples c =
    let f = λ (p : ℕ). (get_or c.args.rows.now.tallies p no_tally).samples in
    let is : c.tally-samples.result.samples ≡ f (get_or c.args.places.now c.loop-at.at 0) = ap (λ (x : Tally). x.samples) c.tally-samples.ensures in
    omega (arith, is, c.loop-at.invariant.so_far, sum_taken f c.args.places.now c.loop-at.at c.loop-at-test.true, sum_few f c.args.places.now (c.loop-at.at + 1), c.requires.few)

pub loop-at-preserved : goal.loop-at-preserved
loop-at-preserved c =
    let f = λ (p : ℕ). (get_or c.args.rows.now.tallies p no_tally).samples in
    let is : c.tally-samples.result.samples ≡ f (get_or c.args.places.now c.loop-at.at 0) = ap (λ (x : Tally). x.samples) c.tally-samples.ensures in
    record { so_far = omega (arith, is, c.loop-at.invariant.so_far, sum_taken f c.args.places.now c.loop-at.at c.loop-at-test.true); all = refl }
