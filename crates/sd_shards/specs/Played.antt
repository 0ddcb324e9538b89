-- What the acts of a caller leave of shards in hand, one of which acts are for each shard, by its number.
use Rattle.std.specs.Prelude.{◌≡◌, ◌≤◌, ◌<◌, ℕ, List, [], ◌∷◌, ◌++◌, length}
use Rattle.std.proofs.Common.{refl, ap, subst, sym, ◌∙◌}
use Rattle.sd_model_shard.specs.Shard.{Limits, Policy, State}
use Rattle.sd_model_shard.specs.History.{History, LegalFrom, after, after_all}
use Rattle.sd_shard.specs.Shard.{Standing}
use Rattle.sd_shards.specs.Standings.{state_in, limits_in, policy_in, GoBy, GoTogether}

-- from 1 to 16 shards that go by one pair of limits and policy
pub record AreReady (shards : List Standing) : Type 0 where
  pub some : 1 ≤ length shards
  pub few : length shards ≤ 16
  pub bounds : GoTogether shards

-- Each shard took its acts, whose replies are those of its steps; there are as many shards, with the same limits and policy.
pub record HavePlayed (old new : List Standing) (acts : ℕ → History) : Type 0 where
  pub count : length new ≡ length old
  pub limits : limits_in new ≡ limits_in old
  pub policy : policy_in new ≡ policy_in old
  pub bounds : GoBy (limits_in old) (policy_in old) new
  pub legal : (i : ℕ) → i < length old → LegalFrom (limits_in old) (policy_in old) (state_in old i) (acts i)
  pub states : (i : ℕ) → i < length old → state_in new i ≡ after_all (limits_in old) (policy_in old) (state_in old i) (acts i)

-- acts behind acts, from a state on
module _ (limits : Limits) (policy : Policy) where
  legal_behind : (state : State) (xs ys : History) → LegalFrom limits policy state xs → LegalFrom limits policy (after_all limits policy state xs) ys → LegalFrom limits policy state (xs ++ ys)
  legal_behind state [] ys prefix back = back
  legal_behind state (x ∷ xs) ys prefix back = (prefix.0, legal_behind (after limits policy state x) xs ys prefix.1 back)

  state_behind : (state : State) (xs ys : History) → after_all limits policy state (xs ++ ys) ≡ after_all limits policy (after_all limits policy state xs) ys
  state_behind state [] ys = refl
  state_behind state (x ∷ xs) ys = state_behind (after limits policy state x) xs ys

-- no acts leave shards as they were
pub none_played : (shards : List Standing) → AreReady shards → HavePlayed shards shards (λ i. [])
none_played shards ready = record {
  count = refl;
  limits = refl;
  policy = refl;
  bounds = ready.bounds;
  legal = λ i below. tt;
  states = λ i below. refl;
}

-- shards that took acts, and then others, took them together
pub played_next : (one two three : List Standing) (xs ys : ℕ → History) → HavePlayed one two xs → HavePlayed two three ys → HavePlayed one three (λ i. xs i ++ ys i)
played_next one two three xs ys first second =
    let by : (P : Limits → Policy → Type 0) → P (limits_in two) (policy_in two) → P (limits_in one) (policy_in one) =
    λ P h. subst (λ p. P (limits_in one) p) first.policy (subst (λ l. P l (policy_in two)) first.limits h) in
    record {
      count = second.count ∙ first.count;
      limits = second.limits ∙ first.limits;
      policy = second.policy ∙ first.policy;
      bounds = by (λ l p. GoBy l p three) second.bounds;
      legal = λ i below.
          let below_too : i < length two = subst (λ n. i < n) (sym first.count) below in
          legal_behind (limits_in one) (policy_in one) (state_in one i) (xs i) (ys i) (first.legal i below)
          (subst (λ st. LegalFrom (limits_in one) (policy_in one) st (ys i)) (first.states i below) (by (λ l p. LegalFrom l p (state_in two i) (ys i)) (second.legal i below_too)));
      states = λ i below.
          let below_too : i < length two = subst (λ n. i < n) (sym first.count) below in
          by (λ l p. state_in three i ≡ after_all l p (state_in two i) (ys i)) (second.states i below_too)
          ∙ ap (λ st. after_all (limits_in one) (policy_in one) st (ys i)) (first.states i below)
          ∙ sym (state_behind (limits_in one) (policy_in one) (state_in one i) (xs i) (ys i));
    }
