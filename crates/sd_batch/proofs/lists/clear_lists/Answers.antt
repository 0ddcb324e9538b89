use Rattle.std.proofs.Common.{◌≡◌, ℕ, ◌+◌, ◌<◌, ◌≤◌, ◌⊎◌, inl, inr, [], length, get_or, set, vec_capacity, ap, ◌∙◌, arith}
use Rattle.std.specs.declared.alloc.Global.{Global}
use Rattle.std.specs.declared.vec.Vec.{Vec}
use Rattle.std.proofs.lemmas.Bool.{cases_eq}
use Rattle.std.proofs.lemmas.List.{length-set}
use Rattle.sd_batch.specs.Places.{places_at}
use Rattle.sd_batch.proofs.ListLemmas.{All-at, All-put, places_at-here, places_at-other}
use Rattle.sd_batch.proofs.lists.clear_lists.Goals as goal

pub loop-i-preserved : goal.loop-i-preserved
loop-i-preserved c =
    let inv = c.loop-i.invariant in
    let lists = c.loop-i.lists in
    let i = c.loop-i.i in
    let now = c.clear.new.self in
    let below : i < length lists = omega (arith, inv.len) in
    record {
      len = length-set lists i now ∙ inv.len;
      empty = λ j past. by_place c j past (cases_eq j i);
      room = λ room given.
          All-put (λ (l : Vec ℕ Global). room ≤ vec_capacity l) lists i now (inv.room room given)
          (let was : room ≤ vec_capacity (get_or lists i c.index-lists-i.result) = (All-at (λ (l : Vec ℕ Global). room ≤ vec_capacity l) lists i c.index-lists-i.result (inv.room room given) below) in
          let same = c.clear.ensures.capacity in omega (arith, was, same));
    } where
      by_place : (c : goal.After-clear) (j : ℕ) → j < c.loop-i.i + 1 → (j ≡ c.loop-i.i) ⊎ (j ≡ c.loop-i.i → ⊥) → places_at (set c.loop-i.lists c.loop-i.i c.clear.new.self) j ≡ []
      by_place c j past (inl is) =
          ap (places_at (set c.loop-i.lists c.loop-i.i c.clear.new.self)) is
          ∙ places_at-here c.loop-i.lists c.loop-i.i c.clear.new.self (omega (arith, c.loop-i.invariant.len)) ∙ c.clear.ensures.items
      by_place c j past (inr other) =
          places_at-other c.loop-i.lists c.loop-i.i j c.clear.new.self other
          ∙ c.loop-i.invariant.empty j (omega (arith, past, other))
