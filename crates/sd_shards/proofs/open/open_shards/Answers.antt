use Rattle.std.proofs.Common.{◌≡◌, List, [], ◌∷◌, ◌++◌, map, sym, ap, subst, ◌∙◌, arith}
use Rattle.std.specs.Prelude.{All}
use Rattle.std.proofs.lemmas.List.{map_push, replicate_more}
use Rattle.std.proofs.lemmas.List.Elements.{All-push}
use Rattle.sd_model_shard.specs.Shard.{State, empty_state}
use Rattle.sd_epoch.specs.Limits.{limits_of}
use Rattle.sd_shard.specs.Policy.{policy_of}
use Rattle.sd_shard.specs.Shard.{Standing, state_of}
use Rattle.sd_shards.proofs.open.open_shards.Goals as goal

pub loop-i-preserved : goal.loop-i-preserved
loop-i-preserved c =
    let goes : Standing → Type 0 = λ s. (s.table.limits ≡ limits_of c.args.limits) × (s.policy ≡ policy_of c.args.policy) in
    let opened = c.in_ok-open.field-0 in
    record {
      len = omega arith;
      room = omega arith;
      bounds = subst (All goes) (sym c.push_reserved.ensures.items) (All-push goes c.loop-i.shards.items opened c.loop-i.invariant.bounds (c.in_ok-open.ensures.limits, c.in_ok-open.ensures.policy));
      states = ap (map state_of) c.push_reserved.ensures.items ∙ map_push state_of c.loop-i.shards.items opened
          ∙ ap (λ (state : State). map state_of c.loop-i.shards.items ++ state ∷ []) c.in_ok-open.ensures.state
          ∙ ap (λ (states : List State). states ++ empty_state ∷ []) c.loop-i.invariant.states ∙ replicate_more c.loop-i._i empty_state;
    }
