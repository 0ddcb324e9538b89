use Rattle.std.proofs.Common.{◌≡◌, ℕ, ◌+◌, ◌<◌, List, ◌++◌, length, get_or, take, ap, subst, ◌∙◌, arith}
use Rattle.std.specs.Prelude.{flat_map}
use Rattle.sd_model_shard.specs.Shard.{Limits, after_delete, deletion_of}
use Rattle.sd_model_record.specs.Replies.{keys_in}
use Rattle.sd_key.specs.Kind.{kind_of}
use Rattle.sd_shard.specs.Shard.{Standing, state_of, Appends}
use Rattle.sd_shards.specs.Standings.{limits_in, policy_in}
use Rattle.sd_shards.proofs.StandingLemmas.{as_it_was, bounds_at, bounds_more, flat_map-more, rest_more, states_more}
use Rattle.sd_shards.proofs.ReportedLemmas.{Appends-append}
use Rattle.sd_shards.proofs.commands.delete_all.Goals as goal

pub loop-shard-preserved : goal.loop-shard-preserved
loop-shard-preserved c =
    let first = c.args.shards.now in
    let now = c.loop-shard.shard-items in
    let i = c.loop-shard.shard-index in
    let d = c.shard-item.result in
    let new = c.delete_one.new.shard in
    let inv = c.loop-shard.invariant in
    let kind = kind_of c.args.kind in
    let name = c.args.name.now in
    let tell : Standing → List (List ℕ) = λ s. keys_in (deletion_of kind name (state_of s)) in
    let same : length now ≡ length first = omega arith in
    let below : i < length first = omega arith in
    let mine = bounds_at (limits_in first) (policy_in first) now i d (omega arith) inv.bounds in
    let rows : (get_or now i d).table.limits.rows ≡ (limits_in first).rows = ap (λ (l : Limits). l.rows) mine.0 in
    let reported : flat_map tell (take i first) ++ tell (get_or now i d) ≡ flat_map tell (take (i + 1) first) =
    ap (λ (s : Standing). flat_map tell (take i first) ++ tell s) (as_it_was first now i d below same inv.rest) ∙ flat_map-more tell first i d below in
    record {
      bounds = bounds_more first now i d below same inv.rest new (limits_in first) (policy_in first) inv.bounds c.delete_one.ensures.limits c.delete_one.ensures.policy;
      deleted_so_far = states_more first now i d below same inv.rest new (after_delete kind name) inv.deleted_so_far c.delete_one.ensures.state;
      rest = rest_more first now i d below same inv.rest new;
      keys = subst (λ (ks : List (List ℕ)). Appends ks c.args.keys.now.items c.delete_one.new.keys.items) reported
          (Appends-append (flat_map tell (take i first)) (tell (get_or now i d)) c.args.keys.now.items c.loop-shard.keys.items c.delete_one.new.keys.items inv.keys c.delete_one.ensures.keys);
      few = omega (arith, inv.few, c.delete_one.ensures.few, rows);
      room = c.delete_one.ensures.room ∙ inv.room;
    }
