use Rattle.std.proofs.Common.{◌≡◌, ◌+◌, ◌<◌, length, sym, subst, ◌∙◌, arith, map}
use Rattle.std.specs.Prelude.{All}
use Rattle.std.proofs.lemmas.List.Elements.{All-push}
use Rattle.std.proofs.lemmas.List.{length-map, length-reverse}
use Rattle.sd_epoch.specs.Limits.{limits_of}
use Rattle.sd_epoch.specs.Table.{Listing}
use Rattle.sd_shard.specs.Spares.{Stock}
use Rattle.sd_shard.specs.Inside.{stock_of}
use Rattle.sd_shard.specs.Tables.{IsWithin}
use Rattle.sd_shard.proofs.spares.Spares.keep.Goals as goal

pub invariant_of-self : goal.invariant_of-self
invariant_of-self c =
    let s = c.self.inside in
    let are = c.self.invariant in
    let within = subst (λ (g : Stock). IsWithin g.limits c.args.table) (sym c.self.view_is) c.requires.within in
    let room : length (stock_of s).waiting + length s.swapped.items < s.room = subst (λ (g : Stock). length g.waiting + length g.swapped < g.room) (sym c.self.view_is) c.requires.room in
    let waiting : length (stock_of s).waiting ≡ length s.spares.items = length-reverse (map (λ (t : Listing). t.places) s.spares.items) ∙ length-map s.spares.items (λ (t : Listing). t.places) in
    record {
      spares_are = are.spares_are;
      swapped_are = subst (All (IsWithin (limits_of s.limits))) (sym c.push_reserved.ensures.items)
          (All-push (IsWithin (limits_of s.limits)) s.swapped.items c.args.table are.swapped_are within);
      few = omega (arith, room, waiting, c.push_reserved.ensures.len);
      spare_room = are.spare_room;
      swapped_room = omega (arith, c.push_reserved.ensures.capacity, are.swapped_room);
    }
