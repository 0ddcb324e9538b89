-- The totals of a server's run, added up over its shards.
use Rattle.std.proofs.Common.{◌≡◌, ℕ, ◌+◌, ◌<◌, List, [], ◌∷◌, length, refl, sym, subst, arith}
use Rattle.std.specs.Prelude.{min, sum_by}
use Rattle.std.specs.List.{range_with_len}
use Rattle.std.proofs.lemmas.List.Sums.{sum_by-cons}
use Rattle.sd_model_settings.specs.Settings as file
use Rattle.sd_model_shard.specs.History.{state_after, dropped_in, summed_by}
use Rattle.sd_model_shard.specs.Shard.{State, last_number}
use Rattle.sd_law_shard.specs.Sums.{taken_in}
use Rattle.sd_law_shard.proofs.NumberLemmas.{sums_are_reported}
use Rattle.sd_model_replay.specs.Replay.{limits_of, policy_of}
use Rattle.sd_model_serve.specs.Sessions.{asked_by}
use Rattle.sd_session.specs.Commands.{AreCommands}
use Rattle.sd_session.proofs.CommandLemmas.{visits_commands}
use Rattle.sd_model_serve.proofs.ServedLemmas.{events_of_acts}
use Rattle.sd_model_run.specs.Run.{ServerTrace, Objects, ServerTheorem, brought_in, rounds_in}
use Rattle.sd_law_run.proofs.RunAudit.{all_brought, plus_all}
use Rattle.sd_model_run.proofs.CountedLemmas.{sum_by-range}
use Rattle.sd_model_call.specs.Server.{run_settings_of}

-- numbers that are together below the last number are below it one by one
uncapped : (f : ℕ → ℕ) (is : List ℕ) → sum_by f is < last_number → sum_by (λ i. min (f i) last_number) is ≡ sum_by f is
uncapped f [] few = refl
uncapped f (i ∷ is) few =
    let all = sum_by-cons f i is in
    let capped = sum_by-cons (λ j. min (f j) last_number) i is in
    let rest = uncapped f is (omega (arith, few, all)) in
    omega (arith, few, all, capped, rest)

module _ (s : file.Settings) (says : ℕ → Type 0) (c : ServerTrace) (old new : Objects) (h : ServerTheorem (run_settings_of s) says c old new) where
  -- a shard at the end
  abbrev state : ℕ → State
  state i = state_after (limits_of s) (policy_of s) (c.histories i)

  abbrev shards : List ℕ
  shards = range_with_len 0 s.sizes.shards

  pub kept : sum_by (λ i. (state i).taken) shards ≡ sum_by (λ i. (state i).flushed) shards + sum_by (λ i. (state i).deleted) shards + sum_by (λ i. (state i).held) shards
  kept =
      let each = sum_by-range (λ i. (state i).taken) (λ i. (state i).flushed + (state i).deleted + (state i).held) 0 s.sizes.shards (λ i below. (h.accounted.places i (omega (arith, below))).sum) in
      let three = plus_all (λ i. (state i).flushed + (state i).deleted) (λ i. (state i).held) shards in
      let two = plus_all (λ i. (state i).flushed) (λ i. (state i).deleted) shards in
      omega (arith, each, three, two)

  pub read : 0 < s.sizes.shards → sum_by length (brought_in c) < last_number → sum_by (λ i. (state i).taken) shards + sum_by (λ i. (state i).dropped) shards ≡ sum_by length (brought_in c)
  read some few =
      let all = all_brought (limits_of s) (policy_of s) s.sizes.shards (brought_in c) (rounds_in c) (asked_by c.dialogues) c.histories some h.run.ran
      (λ i. subst AreCommands (sym (events_of_acts (asked_by c.dialogues) i)) (visits_commands s.sizes.shards s says c.visits c.dialogues h.run.went)) in
      let taken = sum_by-range (λ i. (state i).taken) (λ i. summed_by taken_in (c.histories i)) 0 s.sizes.shards
      (λ i below. (sums_are_reported (limits_of s) (policy_of s) (c.histories i) (h.accounted.legal i (omega (arith, below)))).taken) in
      let dropped = sum_by-range (λ i. (state i).dropped) (λ i. min (summed_by dropped_in (c.histories i)) last_number) 0 s.sizes.shards
      (λ i below. (sums_are_reported (limits_of s) (policy_of s) (c.histories i) (h.accounted.legal i (omega (arith, below)))).dropped) in
      let whole = uncapped (λ i. summed_by dropped_in (c.histories i)) shards (omega (arith, few, all)) in
      omega (arith, all, taken, dropped, whole)
