use Rattle.std.proofs.Common.{List, length, map, refl, sym, ap, subst, ◌∙◌, arith}
use Rattle.std.specs.Prelude.{flat_map}
use Rattle.std.specs.Vec.{with_items}
use Rattle.sd_model_shard.specs.Shard.{State, after_delete, deletion_of}
use Rattle.sd_model_record.specs.Replies.{keys_in}
use Rattle.sd_law_shards.specs.Shards.{AtHome}
use Rattle.sd_law_shards.proofs.HomeLemmas.{AtHome-delete}
use Rattle.sd_key.specs.Kind.{kind_of}
use Rattle.sd_shard.specs.Shard.{Standing, state_of, Appends}
use Rattle.sd_shards.specs.Shards.{Group}
use Rattle.sd_shards.specs.Standings.{state_in}
use Rattle.sd_shards.proofs.EachLemmas.{map-group}
use Rattle.sd_shards.proofs.InsideLemmas.{AreAlike-kept, AreKept-within, AreShards-kept}
use Rattle.sd_shards.proofs.ReportedLemmas.{keys_sorted}
use Rattle.sd_shards.proofs.shards.Shards.delete.Goals as goal
use Rattle.sd_model_record.proofs.Short.{keys_reported}

pub invariant_of-self : goal.invariant_of-self
invariant_of-self c =
    let s = c.self.inside in
    let old = c.deref_mut.result.now in
    let new = c.delete_all.new.shards in
    let kind = kind_of c.args.kind in
    let name = c.args.name.now in
    AreShards-kept s (record s { shards = with_items s.shards new }) c.self.invariant
    (AreKept-within s c.self.invariant old new c.deref_mut.ensures.value (omega arith) (omega arith) c.delete_all.ensures.bounds
    (λ i. after_delete kind name (state_in old i)) c.delete_all.ensures.states (AtHome-delete kind name (length old) (state_in old))) refl

pub returns-clause-alike : goal.returns-clause-alike
returns-clause-alike c =
    let s = c.self.inside in
    let old = c.deref_mut.result.now in
    let new = c.delete_all.new.shards in
    let kind = kind_of c.args.kind in
    let name = c.args.name.now in
    AreAlike-kept c.args.self.now s (record s { shards = with_items s.shards new }) c.self.view_is
    (AreKept-within s c.self.invariant old new c.deref_mut.ensures.value (omega arith) (omega arith) c.delete_all.ensures.bounds
    (λ i. after_delete kind name (state_in old i)) c.delete_all.ensures.states (AtHome-delete kind name (length old) (state_in old)))

pub returns-clause-keys : goal.returns-clause-keys
returns-clause-keys c =
    let old = c.deref_mut.result.now in
    let kind = kind_of c.args.kind in
    let name = c.args.name.now in
    let home : AtHome (length old) (state_in old) = subst (λ xs. AtHome (length xs) (state_in xs)) (sym c.deref_mut.ensures.value) c.self.invariant.home in
    let reported = flat_map (λ (s : Standing). keys_in (deletion_of kind name (state_of s))) old in
    keys_sorted old home kind name c.delete_all.new.keys.items c.sort.new.self.items (subst (λ (ks : List (List _)). Appends reported ks c.delete_all.new.keys.items) c.clear.ensures.items c.delete_all.ensures.keys) c.sort.ensures.permutation c.sort.ensures.sorted
    ∙ ap keys_reported (sym (map-group c.args.self.now old (ap (λ (g : Group). g.states) (sym c.self.view_is) ∙ ap (map state_of) (sym c.deref_mut.ensures.value)) (λ (s : State). deletion_of kind name s)))
