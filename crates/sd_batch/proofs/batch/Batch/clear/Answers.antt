use Rattle.std.proofs.Common.{length, refl, sym, ap, subst, ◌∙◌}
use Rattle.std.proofs.lemmas.List.{with_items_is}
use Rattle.sd_batch.specs.Places.{AreEmpty, HaveRoom}
use Rattle.sd_batch.proofs.PlaceLemmas.{cleared}
use Rattle.sd_batch.proofs.batch.Batch.clear.Goals as goal

pub invariant_of-self : goal.invariant_of-self
invariant_of-self c =
    let b = c.self.inside in
    let lists = c.clear_lists.new.lists in
    let same = with_items_is b.places lists (c.clear_lists.ensures.len ∙ c.deref_mut.ensures.len) in
    let was = c.deref_mut.ensures.value in
    cleared b _ c.self.invariant refl refl refl (let long = c.clear_lists.ensures.len in rw same (long ∙ ap length was))
    (subst AreEmpty (sym same) c.clear_lists.ensures.empty)
    (subst (HaveRoom (length b.samples.items)) (sym same) (c.clear_lists.ensures.room (length b.samples.items) (subst (HaveRoom (length b.samples.items)) (sym was) c.self.invariant.rooms)))
