-- Shards that go by the same limits and policy, one after another.
use Rattle.std.proofs.Common.{◌≡◌, ◌≢◌, ℕ, ◌+◌, ◌<◌, ◌≤◌, List, [], ◌∷◌, ◌++◌, length, map, take, drop, get_or, set, sym, ap, subst, ◌∙◌, append-nil, below_more, arith}
use Rattle.std.specs.Prelude.{flat_map}
use Rattle.std.proofs.lemmas.Grind.{flat_map-append}
use Rattle.std.proofs.lemmas.List.{length-map, map-set, get_or-set_same, get_or-set_other, get_or-map, take_more, drop_more, drop-set-lt}
use Rattle.std.proofs.lemmas.List.Elements.{All-head, All-get_or, All-set}
use Rattle.sd_model_shard.specs.Shard.{State, Limits, Policy, empty_state}
use Rattle.sd_shard.specs.Shard.{Standing, state_of}
use Rattle.sd_shards.specs.Standings.{state_in, limits_in, policy_in, GoBy, GoTogether}

-- the first of them does
pub GoBy-first : (limits : Limits) (policy : Policy) (shards : List Standing) → 1 ≤ length shards → GoBy limits policy shards → (limits_in shards ≡ limits) × (policy_in shards ≡ policy)
GoBy-first limits policy [] some all = absurd (omega arith)
GoBy-first limits policy (s ∷ shards) some all = All-head (λ (t : Standing). (t.table.limits ≡ limits) × (t.policy ≡ policy)) s shards all

pub GoTogether-by : (limits : Limits) (policy : Policy) (shards : List Standing) → 1 ≤ length shards → GoBy limits policy shards → GoTogether shards
GoTogether-by limits policy shards some all =
    let first = GoBy-first limits policy shards some all in
    subst (λ (l : Limits). GoBy l (policy_in shards) shards) (sym first.0) (subst (λ (p : Policy). GoBy limits p shards) (sym first.1) all)

-- and each of them
pub bounds_at : (limits : Limits) (policy : Policy) (shards : List Standing) (i : ℕ) (d : Standing) → i < length shards → GoBy limits policy shards → ((get_or shards i d).table.limits ≡ limits) × ((get_or shards i d).policy ≡ policy)
bounds_at limits policy shards i d below all = All-get_or (λ (x : Standing). (x.table.limits ≡ limits) × (x.policy ≡ policy)) shards i d below all

-- the state of one that was put in
module _ (shards : List Standing) (i : ℕ) (s : Standing) where
  pub state_in-here : i < length shards → state_in (set shards i s) i ≡ state_of s
  state_in-here below =
      ap (λ states. get_or states i empty_state) (map-set state_of shards i s)
      ∙ get_or-set_same (map state_of shards) i (state_of s) empty_state (omega (arith, length-map shards state_of))

  pub state_in-other : (j : ℕ) → j ≢ i → state_in (set shards i s) j ≡ state_in shards j
  state_in-other j other =
      ap (λ states. get_or states j empty_state) (map-set state_of shards i s)
      ∙ get_or-set_other (map state_of shards) i j (state_of s) empty_state other

-- the state of the one that stands there
pub state_in-at : (shards : List Standing) (i : ℕ) (d : Standing) → i < length shards → state_in shards i ≡ state_of (get_or shards i d)
state_in-at shards i d below = get_or-map state_of shards i d empty_state below

-- A loop over shards is at one of them, and those behind are as they were.
module _ (first now : List Standing) (i : ℕ) (d : Standing) (below : i < length first) (same : length now ≡ length first) (rest : drop i now ≡ drop i first) where
  pub as_it_was : get_or now i d ≡ get_or first i d
  as_it_was =
      let a = drop_more now i d (omega arith) in
      let b = drop_more first i d below in
      cc

  -- it is put in another state
  module _ (new : Standing) where
    pub rest_more : drop (i + 1) (set now i new) ≡ drop (i + 1) first
    rest_more =
        let a = drop_more now i d (omega arith) in
        let b = drop_more first i d below in
        let behind : drop (i + 1) now ≡ drop (i + 1) first = cc in
        drop-set-lt (i + 1) now i new (omega arith) ∙ behind

    pub states_more : (f : State → State) → ((k : ℕ) → k < i → state_in now k ≡ f (state_in first k)) → state_of new ≡ f (state_of (get_or now i d))
        → (k : ℕ) → k < i + 1 → state_in (set now i new) k ≡ f (state_in first k)
    states_more f so_far is =
        below_more (λ k. state_in (set now i new) k ≡ f (state_in first k)) i
        (λ k h. state_in-other now i new k (omega arith) ∙ so_far k h)
        (state_in-here now i new (omega arith) ∙ is ∙ ap (λ (s : Standing). f (state_of s)) as_it_was ∙ ap f (sym (state_in-at first i d below)))

    pub bounds_more : (limits : Limits) (policy : Policy) → GoBy limits policy now → new.table.limits ≡ (get_or now i d).table.limits → new.policy ≡ (get_or now i d).policy → GoBy limits policy (set now i new)
    bounds_more limits policy all has_limits has_policy =
        let mine = bounds_at limits policy now i d (omega arith) all in
        All-set (λ (x : Standing). (x.table.limits ≡ limits) × (x.policy ≡ policy)) now i new (has_limits ∙ mine.0, has_policy ∙ mine.1) all

-- what is told of one more
pub flat_map-more : {A : Type 0} (tell : Standing → List A) (shards : List Standing) (i : ℕ) (d : Standing) → i < length shards → flat_map tell (take i shards) ++ tell (get_or shards i d) ≡ flat_map tell (take (i + 1) shards)
flat_map-more tell shards i d below =
    ap (λ reported. flat_map tell (take i shards) ++ reported) (sym (append-nil (tell (get_or shards i d))))
    ∙ sym (flat_map-append tell (take i shards) (get_or shards i d ∷ []))
    ∙ ap (flat_map tell) (sym (take_more shards i d below))
