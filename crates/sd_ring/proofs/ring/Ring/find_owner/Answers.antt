use Rattle.std.proofs.Common.{◌≡◌, ◌∙◌, ap, sym, option_map}
use Rattle.sd_model_ring.specs.Ring.{owner, next_point}
use Rattle.sd_ring.specs.RingInside.{nodes_in}
use Rattle.sd_ring.proofs.Permuted.{owner-permuted}
use Rattle.sd_ring.proofs.ring.Ring.find_owner.Goals as goal
use Rattle.sd_model_ring.proofs.Short.{points_up, number_of_key}

pub returns : goal.returns
returns c =
    let ring = c.self.inside in
    let number : c.number_of_key.result ≡ number_of_key c.args.key.now = c.number_of_key.ensures in
    let next : c.next_node.result ≡ option_map (λ p. p.node) (next_point (number_of_key c.args.key.now) (points_up c.args.up ring.points.items)) =
    c.next_node.ensures ∙ ap (λ n. option_map (λ p. p.node) (next_point n (points_up c.args.up c.deref.result.now))) number
    ∙ ap (λ ps. option_map (λ p. p.node) (next_point (number_of_key c.args.key.now) (points_up c.args.up ps))) c.deref.ensures.value
    in
    let found : c.next_node.result ≡ owner c.args.key.now (nodes_in ring) c.args.up =
    next ∙ sym (owner-permuted c.args.key.now (nodes_in ring) c.args.up ring.points.items c.self.invariant.points)
    in
    found ∙ ap (λ nodes. owner c.args.key.now nodes c.args.up) c.self.view_is
