use Rattle.std.proofs.Common.{◌<◌, refl, ap, ◌∙◌, arith}
use Rattle.sd_model_text.specs.Names.{shard}
use Rattle.sd_model_text.specs.Lines.{Sample}
use Rattle.sd_batch.proofs.PlaceLemmas.{is_free, joined, list_free, list_is, list_room}
use Rattle.sd_batch.proofs.batch.Batch.read.Goals as goal

pub push_reserved-requires : goal.push_reserved-requires
push_reserved-requires c =
    let b = c.self.inside in
    let free = is_free b c.self.invariant c.args.self.now c.self.view_is c.requires in
    let below = c.shard_of-home.ensures.below in
    let room = list_free b c.self.invariant c.from.result (omega (arith, below, c.from.ensures)) c.index_mut.result.now c.index_mut.ensures.value free in
    omega (arith, room, c.index_mut.result.now.ok.0)

pub invariant_of-self-then-is_ok : goal.invariant_of-self-then-is_ok
invariant_of-self-then-is_ok c =
    let b = c.self.inside in
    let free = is_free b c.self.invariant c.args.self.now c.self.view_is c.requires in
    let below = c.shard_of-home.ensures.below in
    let low : c.from.result < b.shards = omega (arith, below, c.from.ensures) in
    let list = c.index_mut.result.now in
    let s = c.next_into.new.sample in
    let at = c.from.ensures ∙ c.shard_of-home.ensures.shard ∙ ap (λ (x : Sample). shard x.key b.shards) c.sample.view_is in
    joined b _ c.self.invariant s free refl refl c.from.result list c.push_reserved.new.self refl at low
    (list_is b c.self.invariant c.from.result low list c.index_mut.ensures.value) refl c.push_reserved.ensures.items
    (let room = list_room b c.self.invariant c.from.result low list c.index_mut.ensures.value in let same = c.push_reserved.ensures.capacity in omega (arith, room, same))
