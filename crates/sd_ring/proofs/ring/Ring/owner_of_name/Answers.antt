use Rattle.std.proofs.Common.{◌∙◌, ap, sym}
use Rattle.sd_model_ring.specs.Ring.{owner}
use Rattle.sd_ring.specs.RingInside.{all_up}
use Rattle.sd_ring.proofs.OwnerFacts.{node_reported, up_reported, none_reported, node_of_name, up_of_name, none_of_name}
use Rattle.sd_ring.proofs.ring.Ring.owner_of_name.Goals as goal

pub owner_from-requires : goal.owner_from-requires
owner_from-requires c =
    let known = c.self.invariant.recent c.args.name.now c.in-Some.home c.in-Some.ensures in
    ap (λ nodes. owner c.args.name.now nodes all_up) (sym c.self.view_is) ∙ known.1

pub returns-in-Some-clause-ok : goal.returns-in-Some-clause-ok
returns-in-Some-clause-ok c =
    let known = c.self.invariant.recent c.args.name.now c.in-Some.home c.in-Some.ensures in
    (c.args.name.now, known.0, c.owner_from.ensures)

pub returns-in-Some-clause-none : goal.returns-in-Some-clause-none
returns-in-Some-clause-none c = none_reported c.args.name.now c.args.self.now c.args.up c.owner_from.result c.owner_from.ensures

pub returns-in-Some-clause-up : goal.returns-in-Some-clause-up
returns-in-Some-clause-up c = up_reported c.args.name.now c.args.self.now c.args.up c.owner_from.result c.owner_from.ensures

pub returns-in-Some-clause-node : goal.returns-in-Some-clause-node
returns-in-Some-clause-node c = node_reported c.args.name.now c.args.self.now c.args.up c.owner_from.result c.owner_from.ensures

pub returns-in-None-clause-none : goal.returns-in-None-clause-none
returns-in-None-clause-none c = none_of_name c.args.name.now c.args.self.now c.args.up c.owner_of_new.result c.owner_of_new.ensures.ok

pub returns-in-None-clause-up : goal.returns-in-None-clause-up
returns-in-None-clause-up c = up_of_name c.args.name.now c.args.self.now c.args.up c.owner_of_new.result c.owner_of_new.ensures.ok

pub returns-in-None-clause-node : goal.returns-in-None-clause-node
returns-in-None-clause-node c = node_of_name c.args.name.now c.args.self.now c.args.up c.owner_of_new.result c.owner_of_new.ensures.ok
