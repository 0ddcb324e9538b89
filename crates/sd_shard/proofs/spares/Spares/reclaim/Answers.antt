use Rattle.std.proofs.Common.{sym, subst, arith}
use Rattle.std.specs.Prelude.{All}
use Rattle.std.proofs.lemmas.List.Elements.{All-nil}
use Rattle.sd_epoch.specs.Limits.{limits_of}
use Rattle.sd_shard.specs.Tables.{IsWithin}
use Rattle.sd_shard.proofs.spares.Spares.reclaim.Goals as goal

pub invariant_of-self : goal.invariant_of-self
invariant_of-self c =
    let s = c.self.inside in
    let are = c.self.invariant in
    record {
      spares_are = c.move_back.ensures.spares (limits_of s.limits) are.spares_are are.swapped_are;
      swapped_are = subst (All (IsWithin (limits_of s.limits))) (sym c.move_back.ensures.swapped) (All-nil (IsWithin (limits_of s.limits)));
      few = omega (arith, are.few, c.move_back.ensures.len, c.move_back.ensures.none_left);
      spare_room = omega (arith, are.spare_room, c.move_back.ensures.room);
      swapped_room = omega (arith, are.swapped_room, c.move_back.ensures.swapped_room);
    }
