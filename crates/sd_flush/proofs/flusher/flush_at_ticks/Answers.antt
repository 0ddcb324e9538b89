use Rattle.std.proofs.Common.{refl, ◌∙◌, arith}
use Rattle.sd_flush.proofs.RoundLemmas.{no_rounds, SoFar-next}
use Rattle.sd_flush.proofs.flusher.flush_at_ticks.Goals as goal

pub loop-rounds-init : goal.loop-rounds-init
loop-rounds-init g c = record {
  post = c.requires.post;
  number = refl;
  ready = c.requires.ready;
  few = λ some. omega arith;
  so_far = no_rounds _ _ _ _ _ _;
}

pub loop-rounds-preserved : goal.loop-rounds-preserved
loop-rounds-preserved g c =
    let inv = c.loop-rounds.invariant in
    let made = c.round.ensures in
    record {
      post = made.post;
      number = made.number ∙ inv.number;
      ready = made.ready;
      few = λ some. let before = inv.few some in omega (arith, before, some);
      so_far = SoFar-next _ _ _ _ _ _ _ _ _ _ _ _ _ _ _ _ _ _ _ (omega (arith, c.requires.turns, c.loop-rounds-test.true)) inv.so_far c.in-At.ensures made.round;
    }
