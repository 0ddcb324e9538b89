use Rattle.std.proofs.Common.{subst, arith}
use Rattle.std.specs.Prelude.{IfSome}
use Rattle.std.proofs.lemmas.List.Elements.{All-pop}
use Rattle.sd_epoch.specs.Limits.{limits_of}
use Rattle.sd_shard.specs.Spares.{Stock}
use Rattle.sd_shard.specs.Tables.{IsSpare}
use Rattle.sd_shard.proofs.spares.Spares.next.Goals as goal

pub invariant_of-self : goal.invariant_of-self
invariant_of-self c =
    let s = c.self.inside in
    let are = c.self.invariant in
    let popped = All-pop (IsSpare (limits_of s.limits)) s.spares.items c.pop.new.self.items c.pop.result c.pop.ensures.items are.spares_are in
    record {
      spares_are = popped.0;
      swapped_are = are.swapped_are;
      few = omega arith;
      spare_room = omega (arith, c.pop.ensures.capacity, are.spare_room);
      swapped_room = are.swapped_room;
    }

pub returns-clause-spare : goal.returns-clause-spare
returns-clause-spare c =
    let s = c.self.inside in
    let popped = All-pop (IsSpare (limits_of s.limits)) s.spares.items c.pop.new.self.items c.pop.result c.pop.ensures.items c.self.invariant.spares_are in
    subst (λ (g : Stock). IsSpare g.limits c.unwrap.result) c.self.view_is
    (subst (λ (o : _). IfSome o (IsSpare (limits_of s.limits))) c.unwrap.ensures popped.1)
