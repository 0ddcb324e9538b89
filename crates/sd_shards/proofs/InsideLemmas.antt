-- What stays of shards at each call.
use Rattle.std.proofs.Common.{◌≡◌, ℕ, ◌<◌, ◌≤◌, List, length, vec_len, sym, subst, ◌∙◌, arith}
use Rattle.std.specs.Vec.{with_items}
use Rattle.std.proofs.lemmas.List.{length-map, with_items_is}
use Rattle.sd_model_shard.specs.Shard.{State}
use Rattle.sd_law_shards.specs.Shards.{AtHome}
use Rattle.sd_batch.specs.Filing.{IsOpenFor}
use Rattle.sd_shard.specs.Shard.{Standing, state_of}
use Rattle.sd_shards.specs.Inside.{AreShards, group_of}
use Rattle.sd_shards.specs.Shards.{AreAlike, Group}
use Rattle.sd_shards.specs.Standings.{state_in, limits_in, policy_in, GoBy, GoTogether}
use Rattle.sd_shards.specs.declared.shards.Shards.TheInside.{Inside}
use Rattle.sd_shards.proofs.HomeLemmas.{AtHome-states}
use Rattle.sd_shards.proofs.StandingLemmas.{GoBy-first, GoTogether-by}

-- as many shards with the same limits and policy, whose rows are at home
pub record AreKept (old new : List Standing) : Type 0 where
  pub count : length new ≡ length old
  pub limits : limits_in new ≡ limits_in old
  pub policy : policy_in new ≡ policy_in old
  pub bounds : GoTogether new
  pub home : AtHome (length new) (state_in new)

pub AreKept-by : (old new : List Standing) (states : ℕ → State) → 1 ≤ length old → length new ≡ length old → GoBy (limits_in old) (policy_in old) new
    → ((i : ℕ) → i < length old → state_in new i ≡ states i) → AtHome (length old) states → AreKept old new
AreKept-by old new states some count all same home =
    let first = GoBy-first (limits_in old) (policy_in old) new (omega arith) all in
    record {
      count = count;
      limits = first.0;
      policy = first.1;
      bounds = GoTogether-by (limits_in old) (policy_in old) new (omega arith) all;
      home = AtHome-states (length old) states new count same home;
    }

-- the shards that a call was given, and those that it left, as they stand in the fields
module _ (s : Inside) (are : AreShards s) (old new : List Standing) (is : old ≡ s.shards.items) (len : length old ≡ vec_len s.shards) (count : length new ≡ length old) where
  pub AreKept-within : GoBy (limits_in old) (policy_in old) new → (states : ℕ → State) → ((i : ℕ) → i < length old → state_in new i ≡ states i)
      → (AtHome (length old) (state_in old) → AtHome (length old) states) → AreKept s.shards.items (with_items s.shards new).items
  AreKept-within all states same home =
      subst (λ xs. AreKept xs (with_items s.shards new).items) is
      (subst (AreKept old) (sym (with_items_is s.shards new (omega arith)))
      (AreKept-by old new states (omega (arith, are.some)) count all same (home (subst (λ xs. AtHome (length xs) (state_in xs)) (sym is) are.home))))

pub AreAlike-kept : (group : Group) (s t : Inside) → group_of s ≡ group → AreKept s.shards.items t.shards.items → AreAlike group (group_of t)
AreAlike-kept group s t is kept =
    subst (λ (g : Group). AreAlike g (group_of t)) is
    (record {
      limits = kept.limits;
      policy = kept.policy;
      count = length-map t.shards.items state_of ∙ kept.count ∙ sym (length-map s.shards.items state_of);
    })

-- with the tables as they were
pub AreShards-kept : (s t : Inside) → AreShards s → AreKept s.shards.items t.shards.items → vec_len t.shards ≡ vec_len s.shards → AreShards (record s { shards = t.shards })
AreShards-kept s t are kept len = record {
  some = omega (arith, are.some);
  few = omega (arith, are.few);
  bounds = kept.bounds;
  home = kept.home;
  limits = are.limits ∙ sym kept.limits;
  disjoint = are.disjoint;
  tables = omega (arith, are.tables);
  room = omega (arith, are.room);
  batch = subst (λ n. IsOpenFor n s.batch) (sym kept.count) are.batch;
}
