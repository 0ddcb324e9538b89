use Rattle.std.proofs.Common.{◌≡◌, ◌∙◌, ap, sym, Some, inl, inr}
use Rattle.sd_model_ring.specs.Ring.{owner}
use Rattle.sd_ring.specs.RingInside.{all_up, nodes_in}
use Rattle.sd_ring.proofs.ring.Ring.home.Goals as goal

pub invariant_of-self : goal.invariant_of-self
invariant_of-self c =
    record {
      points = c.self.invariant.points;
      ascends = c.self.invariant.ascends;
      homes = λ key home there. c.self.invariant.homes key home (c.recall.ensures.homes key home there);
      recent = c.self.invariant.recent;
    }

pub returns-in-Some-clause-home : goal.returns-in-Some-clause-home
returns-in-Some-clause-home c =
    sym (c.self.invariant.homes c.args.key.now c.in-Some.home c.in-Some.ensures.home) ∙ ap (λ nodes. owner c.args.key.now nodes all_up) c.self.view_is

pub invariant_of-self-in_err-home : goal.invariant_of-self-in_err-home
invariant_of-self-in_err-home c =
    record {
      points = c.self.invariant.points;
      ascends = c.self.invariant.ascends;
      homes = λ key home there. c.self.invariant.homes key home (c.recall.ensures.homes key home there);
      recent = c.self.invariant.recent;
    }

pub invariant_of-self-2 : goal.invariant_of-self-2
invariant_of-self-2 c =
    record {
      points = c.self.invariant.points;
      ascends = c.self.invariant.ascends;
      homes = λ key home there. c.self.invariant.homes key home (c.recall.ensures.homes key home there);
      recent = c.self.invariant.recent;
    }

pub invariant_of-self-3 : goal.invariant_of-self-3
invariant_of-self-3 c =
    let was = c.self.invariant.homes in
    record {
      points = c.self.invariant.points;
      ascends = c.self.invariant.ascends;
      homes = λ key home there. elim (c.remember.ensures key home there) [
        | inl before ↦ was key home (c.recall.ensures.homes key home before)
        | inr (is, same) ↦
            let found : owner c.args.key.now (nodes_in c.self.inside) all_up ≡ Some c.in_ok-home.home =
            ap (λ bytes. owner bytes (nodes_in c.self.inside) all_up) (sym c.as_slice.ensures.bytes) ∙ sym c.in_ok-home.ensures
            in ap (λ k. owner k (nodes_in c.self.inside) all_up) is ∙ found ∙ ap Some (sym same)
      ];
      recent = c.self.invariant.recent;
    }
