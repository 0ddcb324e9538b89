-- The numbers of a shard are what the replies of its history add up to.
use Rattle.std.proofs.Common.{◌≡◌, ℕ, ◌+◌, ◌≤◌, [], ◌∷◌, refl, ap, arith}
use Rattle.std.specs.Prelude.{min, Option, Some, None}
use Rattle.std.proofs.lemmas.List.Sums.{sum_by-cons}
use Rattle.sd_model_text.specs.Lines.{Sample}
use Rattle.sd_model_shard.specs.Shard.{State, Cause, Limits, Policy, Event, Submit, Swap, Delete, Dump, Look, Reply, empty_state, step, admitted, refusal, last_number}
use Rattle.sd_model_shard.specs.History.{Act, History, LegalFrom, Legal, after, after_all, state_after, dropped_in, summed_by}
use Rattle.sd_law_shard.proofs.HistoryLemmas.{flushes_reported}
use Rattle.sd_law_shard.specs.Sums.{taken_in, deleted_in, AreSums}

-- the numbers of a state grew by these
record Grew (old new : State) (taken deleted dropped : ℕ) : Type 0 where
  taken_is : new.taken ≡ old.taken + taken
  deleted_is : new.deleted ≡ old.deleted + deleted
  dropped_is : new.dropped ≡ min (old.dropped + dropped) last_number

abbrev GrewBy : State → State → Reply → Type 0
GrewBy old new reply = Grew old new (taken_in reply) (deleted_in reply) (dropped_in reply)

same : (n : ℕ) → n ≤ last_number → n ≡ min (n + 0) last_number
same n most = omega (arith, most)

sampled : (state : State) (s : Sample) (answer : Option Cause) → state.dropped ≤ last_number → GrewBy state (admitted state s answer).state (admitted state s answer).reply
sampled state s None most = record { taken_is = refl; deleted_is = omega arith; dropped_is = same state.dropped most }
sampled state s (Some cause) most = record { taken_is = omega arith; deleted_is = omega arith; dropped_is = refl }

by_step : (limits : Limits) (policy : Policy) (state : State) (event : Event) → state.dropped ≤ last_number
    → GrewBy state (step limits policy state event).state (step limits policy state event).reply
by_step limits policy state (Submit s) most = sampled state s (refusal limits state s) most
by_step limits policy state Swap most = record { taken_is = omega arith; deleted_is = omega arith; dropped_is = same state.dropped most }
by_step limits policy state (Delete kind pattern) most = record { taken_is = omega arith; deleted_is = refl; dropped_is = same state.dropped most }
by_step limits policy state (Dump kind) most = record { taken_is = omega arith; deleted_is = omega arith; dropped_is = same state.dropped most }
by_step limits policy state Look most = record { taken_is = omega arith; deleted_is = omega arith; dropped_is = same state.dropped most }

-- one reply before others
summed_by-cons : (weigh : Reply → ℕ) (a : Act) (acts : History) → summed_by weigh (a ∷ acts) ≡ weigh a.reply + summed_by weigh acts
summed_by-cons weigh a acts = sum_by-cons (λ (b : Act). weigh b.reply) a acts

grew_from : (limits : Limits) (policy : Policy) (state : State) (acts : History) → state.dropped ≤ last_number → LegalFrom limits policy state acts
    → Grew state (after_all limits policy state acts) (summed_by taken_in acts) (summed_by deleted_in acts) (summed_by dropped_in acts)
grew_from limits policy state [] most legal = record { taken_is = omega arith; deleted_is = omega arith; dropped_is = same state.dropped most }
grew_from limits policy state (a ∷ acts) most legal =
    let one = by_step limits policy state a.event most in
    let next = after limits policy state a in
    let within : next.dropped ≤ last_number = omega (arith, one.dropped_is) in
    let rest = grew_from limits policy next acts within legal.1 in
    record {
      taken_is = omega (arith, one.taken_is, rest.taken_is, ap taken_in legal.0, summed_by-cons taken_in a acts);
      deleted_is = omega (arith, one.deleted_is, rest.deleted_is, ap deleted_in legal.0, summed_by-cons deleted_in a acts);
      dropped_is = omega (arith, one.dropped_is, rest.dropped_is, ap dropped_in legal.0, summed_by-cons dropped_in a acts);
    }

pub sums_are_reported : (limits : Limits) (policy : Policy) (acts : History) → Legal limits policy acts → AreSums acts (state_after limits policy acts)
sums_are_reported limits policy acts legal =
    let g = grew_from limits policy empty_state acts (omega arith) legal in
    record { taken = omega (arith, g.taken_is); flushed = flushes_reported limits policy acts legal; deleted = omega (arith, g.deleted_is); dropped = omega (arith, g.dropped_is) }
