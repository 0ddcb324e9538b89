-- A datagram whose samples a caller submitted to shards.
use Rattle.std.specs.Prelude.{◌≡◌, ⊤, ℕ, ◌+◌, ◌<◌, ◌≤◌, ◌^◌, List, [], ◌++◌, length, map, Result, Ok, Err, All}
use Rattle.sd_model_text.specs.Names.{shard}
use Rattle.sd_model_text.specs.Lines.{Sample, pieces, samples_of, bad_of}
use Rattle.sd_model_shard.specs.Shard.{Submit}
use Rattle.sd_model_shard.specs.History.{History, part_of, dropped_in, summed_by}
use Rattle.sd_law_shard.specs.Sums.{taken_in}
use Rattle.sd_model_serve.specs.Receiving.{asks, events_of, summed_in}
use Rattle.sd_line.specs.declared.piece.Bad.{Bad}
use Rattle.sd_batch.specs.Batch.{Waiting}
use Rattle.sd_batch.specs.declared.counts.Counts.{Counts}
use Rattle.sd_batch.specs.Runs.{CountsRun, run_at}
use Rattle.sd_batch.specs.declared.filing.Filed.{Filed}

-- the samples that wait for a shard of so many
abbrev pub waiting_at : ℕ → ℕ → List Sample → List Sample
waiting_at shards i waiting = part_of (λ s. shard s.key shards) i waiting

-- These samples were submitted once each, in order, by this caller, to the shard with this number, and so many were taken and dropped.
pub record SubmitsRun (adds : (ℕ → History) → Type 0) (caller home : ℕ) (samples : List Sample) (counts : Counts) : Type 0 where
  pub made : History
  pub added : adds (run_at home made)
  pub asked : events_of made ≡ map Submit samples
  pub whose : All (λ a. a.who ≡ caller) made
  pub counted : CountsRun counts made

-- Of samples that waited, the first ones were submitted once each, in order, by this caller, to the shards of their keys, and
-- counted as dropped or as taken.
pub record SubmitsWaiting (adds : (ℕ → History) → Type 0) (shards caller : ℕ) (waiting waiting_now : List Sample) (old new : Filed) : Type 0 where
  pub sent : List Sample
  pub split : waiting ≡ sent ++ waiting_now
  pub acts : ℕ → History
  pub added : adds acts
  pub asked : (i : ℕ) → events_of (acts i) ≡ asks shards i sent
  pub whose : (i : ℕ) → All (λ a. a.who ≡ caller) (acts i)
  pub placed : (i : ℕ) → summed_by taken_in (acts i) + summed_by dropped_in (acts i) ≡ length (acts i)
  pub taken : new.taken ≡ old.taken + summed_in taken_in shards acts
  pub dropped : new.dropped ≡ old.dropped + summed_in dropped_in shards acts
  pub whole : new.taken + new.dropped + length waiting_now ≡ old.taken + old.dropped + length waiting
  pub lines : new.lines ≡ old.lines
  pub bad : new.bad ≡ old.bad

-- a batch for so many shards, with room, in which none waits
pub record IsOpenFor (shards : ℕ) (batch : Waiting) : Type 0 where
  pub shards_are : batch.shards ≡ shards
  pub room : 0 < batch.room
  pub none : batch.items ≡ []

-- a batch for so many shards, with room for one more sample
pub record HasRoomFor (shards : ℕ) (batch : Waiting) : Type 0 where
  pub shards_are : batch.shards ≡ shards
  pub room : length batch.items < batch.room

-- 1 for a bad piece, and else 0
abbrev pub bad_in : Result ⊤ Bad → ℕ
bad_in (Ok _) = 0
bad_in (Err bad) = 1

-- The good samples of a datagram wait behind those that waited, but for the first ones of all, which were submitted once each, in
-- order, by this caller, to the shards of their keys, and taken or dropped. The datagram has so many pieces, of which so many are
-- bad; of the samples that were submitted so many were dropped, and taken.
pub record ReadsDatagram (adds : (ℕ → History) → Type 0) (shards caller : ℕ) (datagram : List ℕ) (waiting waiting_now : List Sample) (filed : Filed) : Type 0 where
  pub sent : List Sample
  pub split : waiting ++ samples_of datagram ≡ sent ++ waiting_now
  pub acts : ℕ → History
  pub added : adds acts
  pub asked : (i : ℕ) → events_of (acts i) ≡ asks shards i sent
  pub whose : (i : ℕ) → All (λ a. a.who ≡ caller) (acts i)
  pub placed : (i : ℕ) → summed_by taken_in (acts i) + summed_by dropped_in (acts i) ≡ length (acts i)
  pub lines : filed.lines ≡ length (pieces datagram)
  pub bad : filed.bad ≡ bad_of datagram
  pub dropped : filed.dropped ≡ summed_in dropped_in shards acts
  pub taken : filed.taken ≡ summed_in taken_in shards acts
  pub whole : filed.taken + filed.dropped + filed.bad + length waiting_now ≡ filed.lines + length waiting
  pub small : filed.lines ≤ 65528
  pub few : filed.taken + filed.dropped < 2 ^ 48

-- The good samples of a datagram were submitted once each, in order, by this caller, to the shards of their keys, and each was
-- taken or dropped. The datagram has so many pieces, of which so many are bad; of the samples so many were dropped, and taken.
pub record FilesDatagram (adds : (ℕ → History) → Type 0) (shards caller : ℕ) (datagram : List ℕ) (filed : Filed) : Type 0 where
  pub acts : ℕ → History
  pub added : adds acts
  pub asked : (i : ℕ) → events_of (acts i) ≡ asks shards i (samples_of datagram)
  pub whose : (i : ℕ) → All (λ a. a.who ≡ caller) (acts i)
  pub placed : (i : ℕ) → summed_by taken_in (acts i) + summed_by dropped_in (acts i) ≡ length (acts i)
  pub lines : filed.lines ≡ length (pieces datagram)
  pub bad : filed.bad ≡ bad_of datagram
  pub dropped : filed.dropped ≡ summed_in dropped_in shards acts
  pub taken : filed.taken ≡ summed_in taken_in shards acts
  pub whole : filed.taken + filed.dropped + filed.bad ≡ filed.lines
  pub small : filed.lines ≤ 65528
