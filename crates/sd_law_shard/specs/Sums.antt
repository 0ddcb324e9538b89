-- What the replies of a history add up to, and where each of its samples stands.
use Rattle.std.specs.Prelude.{◌≡◌, ℕ, ◌+◌, ◌==◌, min, sum_by, count_by, List, []}
use Rattle.sd_model_shard.specs.Shard.{State, Limits, Policy, Taken, Reply, Answered, Swapped, Deleted, last_number}
use Rattle.sd_model_shard.specs.History.{History, Legal, state_after, held_after, acts_over, dropped_in, flushes, taken_out, summed_by}
use Rattle.sd_model_shard.specs.Rows.{Entry, samples_in}

-- A shard stands at the end of a history where the history is legal and leaves its state.
pub record StandsAt (limits : Limits) (policy : Policy) (acts : History) (state : State) : Type 0 where
  pub legal : Legal limits policy acts
  pub left : state ≡ state_after limits policy acts

-- how many samples a reply takes: 1 where it took one, and else 0
abbrev pub taken_in : Reply → ℕ
taken_in (Answered (Taken number)) = 1
taken_in reply = 0

-- how many samples the rows have that a reply hands out
abbrev pub flushed_in : Reply → ℕ
flushed_in (Swapped table) = samples_in table.live
flushed_in reply = 0

-- how many samples a reply deletes
abbrev pub deleted_in : Reply → ℕ
deleted_in (Deleted keys rows samples) = samples
deleted_in reply = 0

-- The numbers of the state after a history are what its replies add up to; drops are counted up to the last number.
pub record AreSums (acts : History) (last : State) : Type 0 where
  pub taken : last.taken ≡ summed_by taken_in acts
  pub flushed : last.flushed ≡ summed_by flushed_in acts
  pub deleted : last.deleted ≡ summed_by deleted_in acts
  pub dropped : last.dropped ≡ min (summed_by dropped_in acts) last_number

-- how often a number stands among entries
abbrev pub times : ℕ → List Entry → ℕ
times number entries = count_by (λ e. e.number == number) entries

-- A number stands once, in the journal of one swap, in what one deletion took out, or among the entries held.
abbrev pub StandsOnce : History → ℕ → Type 0
StandsOnce acts number =
    sum_by (λ f. times number f.journal) (flushes acts)
    + sum_by (λ m. times number (taken_out m.held m.act.event m.act.reply)) (acts_over [] acts)
    + times number (held_after acts) ≡ 1
