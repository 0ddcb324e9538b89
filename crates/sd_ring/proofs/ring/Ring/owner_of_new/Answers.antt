use Rattle.std.proofs.Common.{◌≡◌, ◌∙◌, ap, sym, subst, Some, Ok, inl, inr}
use Rattle.std.proofs.lemmas.Slice.Eq.{bytes_eq-Decides}
use Rattle.sd_model_text.specs.Names.{clean}
use Rattle.sd_model_ring.specs.Ring.{owner}
use Rattle.sd_model_ring.proofs.Owners.{no_owner}
use Rattle.sd_ring.specs.RingInside.{all_up, nodes_in}
use Rattle.sd_ring.proofs.Bits.{is_up-all}
use Rattle.sd_ring.proofs.ring.Ring.owner_of_new.Goals as goal

pub returns-in_default-clause-ok : goal.returns-in_default-clause-ok
returns-in_default-clause-ok c =
    let key = c.in_ok-key.key in (
      key,
      c.in_ok-key.ensures.ok,
      sym (no_owner key c.args.self.now all_up c.args.up (is_up-all c.args.up c.ranges.up.fits) (sym c.in_default.ensures.home)),
    )

pub invariant_of-self : goal.invariant_of-self
invariant_of-self c =
    let key = c.in_ok-key.key in
    let own : key ≡ c.args.name.now =
    sym c.as_slice-2.ensures.bytes ∙ (bytes_eq-Decides c.as_slice-2.result.now c.args.name.now).0 (sym c.eq.ensures ∙ c.if-eq.true)
    in
    record {
      points = c.self.invariant.points;
      ascends = c.self.invariant.ascends;
      homes = c.self.invariant.homes;
      recent = λ name home known. elim (c.keep.ensures name home known) [
        | inl was ↦ c.self.invariant.recent name home was
        | inr (is, same) ↦
            let from_key : key ≡ name = own ∙ sym is in
            let cleaned : clean key ≡ Ok key = ap clean own ∙ c.in_ok-key.ensures.ok in
            let home_of : owner key (nodes_in c.self.inside) all_up ≡ Some c.in-Some.home =
            ap (λ nodes. owner key nodes all_up) (c.self.view_is ∙ c.home.ensures.ring) ∙ sym c.in-Some.ensures.home
            in (
              subst (λ name. clean name ≡ Ok name) from_key cleaned,
              ap (λ name. owner name (nodes_in c.self.inside) all_up) (sym from_key) ∙ home_of ∙ ap Some (sym same),
            )
      ];
    }
