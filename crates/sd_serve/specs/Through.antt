-- What the flusher left, whether its texts went straight to the backends or through outlets.
use Rattle.std.specs.Prelude.{◌≡◌, ℕ, ◌+◌, ◌&&◌, not, Bool, true, false, List, ◌++◌, flat_map, length, map, min, Option, Some, None}
use Rattle.std.specs.List.{AllByRecursion}
use Rattle.sd_model_outside.specs.Uses.{AfterDeliveries, missed, with_ticks}
use Rattle.sd_model_outside.specs.Outside.{Object, last_count}
use Rattle.sd_model_shard.specs.History.{History}
use Rattle.sd_model_outside.specs.Backend.{Backend}
use Rattle.sd_shared_desk.specs.Counts.{Part, HasCounted}
use Rattle.sd_pool.specs.Adding.{Adds}
use Rattle.sd_model_serve.specs.Rounds.{RecordForm, MarksFit, Round, last_second, round_calls, round_deliveries, round_text, swaps_at, OutletRoom, OutletTrace, IsOutletTrace}
use Rattle.sd_flush.specs.Made.{of_rounds}
use Rattle.sd_flush.specs.Flushing.{EndsSo}
use Rattle.sd_flush.specs.declared.flushed.Flushed.{Flushed}
use Rattle.sd_outside.specs.declared.backends.PerBackend.{PerBackend}
use Rattle.sd_outside.specs.Backends.{at}
use Rattle.sd_serve.specs.declared.outlets.OutCount.{OutCount}

-- whether outlets counted anything: whether there were any
abbrev pub has_counts : Option (PerBackend OutCount) → Bool
has_counts None = false
has_counts (Some counts) = true

-- how many texts a backend's outlet skipped, if there are outlets
abbrev pub skips_at : Option (PerBackend OutCount) → Backend → ℕ
skips_at None b = 0
skips_at (Some counts) b = (at counts b).skipped

-- how many of those that it queued were missed, as its worker counted
abbrev pub faults_at : Option (PerBackend OutCount) → Backend → ℕ
faults_at None b = 0
faults_at (Some counts) b = (at counts b).worked.faults

-- outlets counted just what went through them
pub record AreCounted (counts : Option (PerBackend OutCount)) (outlet_traces : Backend → OutletTrace) : Type 0 where
  pub skips : (b : Backend) → skips_at counts b ≡ (outlet_traces b).skipped
  pub faults : (b : Backend) → faults_at counts b ≡ min (missed (outlet_traces b).queued) last_count

-- The flusher made a round at each tick that the beat gave, which is otherwise as it was, and ended so, with the second of the last
-- round. Where there are outlets, the texts of the rounds went through those of the backends that are used, each of such room; where
-- there are none, each round wrote to these backends.
pub record FlushesThrough (form : RecordForm) (used : Backend → Bool) (outlets : Bool) (room : OutletRoom) (run_flushes : ℕ) (own own_now : ℕ → History) (part part_now : Part) (back back_now : Backend → Object) (beat beat_now : Object) (flushed : Flushed) (counts : Option (PerBackend OutCount)) : Type 0 where
  pub rounds : List Round
  pub swapped : Adds form.shards (swaps_at rounds) own own_now
  pub fits : AllByRecursion (MarksFit (λ b. not outlets && used b)) rounds
  pub counted : HasCounted (of_rounds rounds) part part_now
  pub called : part_now.own ≡ part.own ++ flat_map round_calls rounds
  pub outlet_traces : Backend → OutletTrace
  pub through_outlets : (b : Backend) → IsOutletTrace (outlets && used b) room (map (round_text form b) rounds) (outlet_traces b)
  pub has : has_counts counts ≡ outlets
  pub are_counted : AreCounted counts outlet_traces
  pub delivered : (b : Backend) → AfterDeliveries ((outlet_traces b).queued ++ round_deliveries form b rounds) (back b) (back_now b)
  pub given : beat.content ≡ with_ticks (map (λ r. r.ts) rounds) beat_now.content
  pub turns : beat_now.turns ≡ beat.turns + length rounds
  pub same : beat_now ≡ record beat { content = beat_now.content; faults = beat_now.faults; turns = beat_now.turns }
  pub ends : EndsSo run_flushes flushed.ended beat beat_now (length rounds)
  pub last : flushed.last ≡ last_second rounds
