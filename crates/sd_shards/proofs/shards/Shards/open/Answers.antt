use Rattle.std.proofs.Common.{◌≡◌, List, length, get_or, sym, ap, subst, ◌∙◌, arith}
use Rattle.std.specs.FinMap.{get-empty}
use Rattle.std.proofs.lemmas.List.{get_or-replicate}
use Rattle.sd_model_shard.specs.Rows.{row_cmp}
use Rattle.sd_model_shard.specs.Shard.{empty_state}
use Rattle.sd_epoch.specs.Table.{Listing}
use Rattle.sd_epoch.specs.Limits.{limits_of}
use Rattle.sd_batch.specs.Batch.{Waiting}
use Rattle.sd_record.specs.Rows.{AreDisjoint}
use Rattle.sd_shard.specs.Policy.{policy_of}
use Rattle.sd_shards.proofs.HomeLemmas.{AtHome-states}
use Rattle.sd_shards.proofs.StandingLemmas.{GoBy-first, GoTogether-by}
use Rattle.sd_shards.proofs.shards.Shards.open.Goals as goal

pub invariant_of-result : goal.invariant_of-result
invariant_of-result c =
    let shards = c.in_ok-shards.shards.items in
    let len : length shards ≡ c.args.n = omega (arith, c.in_ok-shards.ensures.len) in
    let first = GoBy-first (limits_of c.args.limits) (policy_of c.args.policy) shards (omega arith) c.in_ok-shards.ensures.bounds in
    record {
      some = omega (arith, c.in_ok-shards.ensures.len);
      few = omega (arith, c.in_ok-shards.ensures.len);
      bounds = GoTogether-by (limits_of c.args.limits) (policy_of c.args.policy) shards (omega arith) c.in_ok-shards.ensures.bounds;
      home = AtHome-states c.args.n (λ i. empty_state) shards len
          (λ i below. ap (λ states. get_or states i empty_state) c.in_ok-shards.ensures.states ∙ get_or-replicate c.args.n i empty_state empty_state below)
          (λ i id away. get-empty row_cmp id);
      limits = c.in_ok-spares.ensures.limits ∙ sym first.0;
      disjoint = subst AreDisjoint (sym c.in_ok-spares.ensures.swapped) tt;
      tables = omega (arith, c.in_ok-shards.ensures.len, c.in_ok-spares.ensures.waiting, ap (λ (ts : List Listing). length ts) c.in_ok-spares.ensures.swapped);
      room = omega (arith, c.in_ok-shards.ensures.len, c.in_ok-spares.ensures.room);
      batch = record {
        shards_are = ap (λ (w : Waiting). w.shards) c.in_ok-batch.ensures ∙ sym len;
        room = let room = ap (λ (w : Waiting). w.room) c.in_ok-batch.ensures in omega (arith, room);
        none = ap (λ (w : Waiting). w.items) c.in_ok-batch.ensures;
      };
    }

pub returns-clause-limits : goal.returns-clause-limits
returns-clause-limits c = (GoBy-first (limits_of c.args.limits) (policy_of c.args.policy) c.in_ok-shards.shards.items (omega (arith, c.in_ok-shards.ensures.len)) c.in_ok-shards.ensures.bounds).0

pub returns-clause-policy : goal.returns-clause-policy
returns-clause-policy c = (GoBy-first (limits_of c.args.limits) (policy_of c.args.policy) c.in_ok-shards.shards.items (omega (arith, c.in_ok-shards.ensures.len)) c.in_ok-shards.ensures.bounds).1
