-- What a receiver files at shards and counts, by the datagrams that it reads.
use Rattle.std.specs.Prelude.{◌≡◌, ℕ, ◌+◌, min, List, length, flat_map, sum_by, ◌≤◌}
use Rattle.sd_model_text.specs.Lines.{Sample, samples_of, pieces, bad_of}
use Rattle.sd_model_outside.specs.Outside.{Object}
use Rattle.sd_model_shard.specs.History.{History, dropped_in, summed_by}
use Rattle.sd_law_shard.specs.Sums.{taken_in}
use Rattle.sd_model_record.specs.Record.{Tally}
use Rattle.sd_shared_desk.specs.Counts.{Part, HasCalled, HasCounted, plus, of_tally, of_sends}
use Rattle.sd_model_outside.specs.Uses.{Sending, failures}
use Rattle.sd_model_serve.specs.Receiving.{CountsDatagrams, PassesOn, asks, events_of, tally_of, summed_in}
use Rattle.sd_pool.specs.Adding.{Adds}
use Rattle.sd_model_shard.specs.Shard.{last_number}

-- Samples were submitted once each, in order, at the shards of their keys, and each was taken or dropped. They came in so
-- many packets and pieces, of which so many were bad; this is what all that counts for, and how many samples were taken.
pub record HasFiled (shards : ℕ) (samples : List Sample) (packets lines bad : ℕ) (old new : ℕ → History) (tally : Tally) (taken : ℕ) : Type 0 where
  pub acts : ℕ → History
  pub added : Adds shards acts old new
  pub asked : (i : ℕ) → events_of (acts i) ≡ asks shards i samples
  pub placed : (i : ℕ) → summed_by taken_in (acts i) + summed_by dropped_in (acts i) ≡ length (acts i)
  pub tally_is : tally ≡ tally_of packets lines bad (summed_in dropped_in shards acts)
  pub taken_is : taken ≡ min (summed_in taken_in shards acts) last_number

-- the same of the good samples of datagrams
abbrev pub FilesDatagrams : ℕ → List (List ℕ) → (ℕ → History) → (ℕ → History) → Tally → ℕ → Type 0
FilesDatagrams shards read old new tally taken =
    HasFiled shards (flat_map samples_of read) (length read) (sum_by (λ d. length (pieces d)) read) (sum_by bad_of read) old new tally taken

-- The datagrams that a source has given since, at most one a turn, were so sent on, their good samples were submitted, and what they
-- count for was added at the desk, with the sends that failed.
pub record HasReceived (says : ℕ → Type 0) (shards turns : ℕ) (source source_now : Object) (wires wires_now : List Object) (own own_now : ℕ → History) (part part_now : Part) (tally : Tally) (taken : ℕ) : Type 0 where
  pub read : List (List ℕ)
  pub many : length read ≤ turns
  pub sendings : List Sending
  pub passed : PassesOn read sendings source source_now wires wires_now
  pub filed : FilesDatagrams shards read own own_now tally taken
  pub counted : HasCounted (plus (of_tally tally) (of_sends (sum_by (λ s. failures s.failed) sendings))) part part_now
  pub called : HasCalled (CountsDatagrams says read) part part_now
