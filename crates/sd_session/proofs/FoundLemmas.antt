-- The state in which an act of a pool found its shard, which has rows of the shard's own keys alone.
use Rattle.std.proofs.Common.{◌≡◌, ℕ, ◌<◌, [], ◌∷◌, ◌++◌, subst}
use Rattle.std.specs.List.{AllByRecursion}
use Rattle.sd_model_shard.specs.Shard.{State, empty_state, step}
use Rattle.sd_model_shard.specs.History.{Act, History, Legal, after, after_all, state_after}
use Rattle.sd_model_shard.proofs.HistoryLemmas.{LegalFrom-last}
use Rattle.sd_pool.specs.Pool.{Acts, IsPool, limits_of, policy_of, seen_at, setup_at, shards_of}
use Rattle.sd_pool.specs.Setup.{Setup, IsOwn, OnlyOf}
use Rattle.sd_pool.specs.declared.pool.Pool.{Pool}
use Rattle.sd_pool.specs.declared.seat.Seat.{Seat}
use Rattle.sd_pool.proofs.OwnLemmas.{OnlyOf-step, OnlyOf-empty}

-- a shard has rows of its own keys alone after many acts, of which more follow
OnlyOf-acts : (setup : Setup) (state : State) (acts more : History) → AllByRecursion (λ a. IsOwn setup a.event) (acts ++ more) → OnlyOf setup.shard setup.shards state.live → OnlyOf setup.shard setup.shards (after_all setup.limits setup.policy state acts).live
OnlyOf-acts setup state [] more own only = only
OnlyOf-acts setup state (a ∷ acts) more own only = OnlyOf-acts setup (after setup.limits setup.policy state a) acts more own.1 (OnlyOf-step setup state a.event own.0 only)

-- A shard of a pool was found in this state, with rows of its own keys alone, and replied from it.
pub record Found (pool : Pool) (i : ℕ) (a : Act) : Type 0 where
  pub state : State
  pub home : OnlyOf i (shards_of pool) state.live
  pub replied : a.reply ≡ (step (limits_of pool) (policy_of pool) state a.event).reply

pub found_by : (pool : Pool) (old new : Seat) (i : ℕ) (a : Act) → IsPool pool → i < shards_of pool → Acts pool old new i a → Found pool i a
found_by pool old new i a is below acts =
    let limits = limits_of pool in
    let policy = policy_of pool in
    let before : History = seen_at old i ++ acts.seen.0 in
    let own = subst (AllByRecursion (λ (b : Act). IsOwn (setup_at pool i) b.event)) acts.seen.1 acts.home in
    record {
      state = state_after limits policy before;
      home =
          subst (λ (s : Setup). OnlyOf s.shard s.shards (state_after s.limits s.policy before).live) (is.setups i below)
          (OnlyOf-acts (setup_at pool i) empty_state before (a ∷ []) own (OnlyOf-empty (setup_at pool i).shard (setup_at pool i).shards));
      replied = LegalFrom-last limits policy empty_state before a (subst (Legal limits policy) acts.seen.1 acts.legal);
    }
