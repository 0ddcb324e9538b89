use Rattle.std.proofs.Common.{◌≡◌, ◌<◌, List, [], ◌∷◌, ◌++◌, length, get_or, map, take, sym, ap, ◌∙◌, append_assoc, arith}
use Rattle.std.proofs.lemmas.List.{map_more}
use Rattle.sd_model_shard.specs.Shard as model
use Rattle.sd_model_shard.specs.Shard.{Policy, after_swap, table_of}
use Rattle.sd_epoch.specs.Table.{table_of as table_seen}
use Rattle.sd_shard.specs.Shard.{Standing, state_of}
use Rattle.sd_shards.specs.Standings.{limits_in, policy_in}
use Rattle.sd_shards.proofs.StandingLemmas.{as_it_was, bounds_at, bounds_more, rest_more, states_more}
use Rattle.sd_shards.proofs.swap.swap_all.Goals as goal

pub loop-shard-preserved : goal.loop-shard-preserved
loop-shard-preserved c =
    let first = c.args.shards.now in
    let now = c.loop-shard.shard-items in
    let i = c.loop-shard.shard-index in
    let d = c.shard-item.result in
    let new = c.swap_one.new.shard in
    let inv = c.loop-shard.invariant in
    let same : length now ≡ length first = omega arith in
    let below : i < length first = omega arith in
    let mine = bounds_at (limits_in first) (policy_in first) now i d (omega arith) inv.bounds in
    record {
      bounds = bounds_more first now i d below same inv.rest new (limits_in first) (policy_in first) inv.bounds c.swap_one.ensures.limits c.swap_one.ensures.policy;
      swapped_so_far = states_more first now i d below same inv.rest new (after_swap (policy_in first)) inv.swapped_so_far
          (c.swap_one.ensures.state ∙ ap (λ (p : Policy). after_swap p (state_of (get_or now i d))) mine.1);
      rest = rest_more first now i d below same inv.rest new;
      left = omega arith;
      tables = c.swap_one.ensures.tables ∙ ap (λ (ts : List model.Table). ts ++ table_of (state_of (get_or now i d)) ∷ []) inv.tables
          ∙ append_assoc (map table_seen c.args.spares.now.swapped) (map (λ (s : Standing). table_of (state_of s)) (take i first)) (table_of (state_of (get_or now i d)) ∷ [])
          ∙ ap (λ (s : Standing). map table_seen c.args.spares.now.swapped ++ (map (λ (x : Standing). table_of (state_of x)) (take i first) ++ table_of (state_of s) ∷ [])) (as_it_was first now i d below same inv.rest)
          ∙ ap (λ (ts : List model.Table). map table_seen c.args.spares.now.swapped ++ ts) (sym (map_more (λ (s : Standing). table_of (state_of s)) first i d below));
      len = omega arith;
      room = c.swap_one.ensures.room ∙ inv.room;
      limits = c.swap_one.ensures.spare_limits ∙ inv.limits;
    }

pub swap_one-requires-clause-fits : goal.swap_one-requires-clause-fits
swap_one-requires-clause-fits c =
    let first = c.args.shards.now in
    let inv = c.loop-shard.invariant in
    inv.limits ∙ c.requires.fits ∙ sym (bounds_at (limits_in first) (policy_in first) c.loop-shard.shard-items c.loop-shard.shard-index c.shard-item.result (omega arith) inv.bounds).0
