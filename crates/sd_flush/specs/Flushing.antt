-- What a round and a flusher leave.
use Rattle.std.specs.Prelude.{◌≡◌, ℕ, ◌+◌, List, length, map, Option}
use Rattle.std.specs.List.{range_with_len}
use Rattle.sd_model_outside.specs.Outside.{Object}
use Rattle.sd_model_outside.specs.Uses.{with_ticks}
use Rattle.sd_model_settings.specs.Settings.{Names}
use Rattle.sd_model_shard.specs.History.{History}
use Rattle.sd_model_record.specs.Desk.{Marks}
use Rattle.sd_shared_desk.specs.Counts.{Part}
use Rattle.sd_model_outside.specs.Backend.{Backend}
use Rattle.sd_model_serve.specs.Receiving as model
use Rattle.sd_model_serve.specs.Receiving.{EndsFlusher, Spent, Enough, LimitReached}
use Rattle.sd_model_serve.specs.Rounds.{Round, RecordForm, last_second}
use Rattle.sd_flush.specs.Made.{MakesRound, MakesRounds}
use Rattle.sd_outside.specs.declared.datagrams.Ended.{Ended}
use Rattle.sd_outside.specs.declared.datagrams.Ended.TheVariants.{End, Failed, Stopped, Worn}
use Rattle.sd_plan.specs.Plan.{plan_view}
use Rattle.sd_plan.specs.declared.reckoning.Reckoning.{Reckoning}
use Rattle.sd_rows.specs.declared.row.Row.{Row}
use Rattle.sd_epoch.specs.Table.{Listing, table_of}
use Rattle.sd_pool.specs.Pool.{shards_of}
use Rattle.sd_pool.specs.declared.pool.Pool.{Pool}
use Rattle.sd_flush.specs.declared.flushed.Flushed.{Flushed}

-- how the records of a pool's shards are made and written
abbrev pub form_of : Pool → Reckoning → Names → RecordForm
form_of pool plan names = record { shards = shards_of pool; plan = plan_view plan; names = names }

-- why the flusher ended, after so many rounds
abbrev pub EndsSo : ℕ → Ended → Object → Object → ℕ → Type 0
EndsSo run_flushes End old new made = EndsFlusher run_flushes Spent old new made
EndsSo run_flushes Failed old new made = EndsFlusher run_flushes model.Failed old new made
EndsSo run_flushes (Stopped rounds) old new made = EndsFlusher run_flushes (Enough rounds) old new made
EndsSo run_flushes (Worn turns) old new made = EndsFlusher run_flushes (LimitReached turns) old new made

module _ {D : Type 0} (form : RecordForm) (gives : (Backend → List ℕ) → Marks → D → D → Type 0) where
  -- A round was made at this second, with these marks, and the tables that the shards handed out are the next spares, in the order
  -- of the shards, with their rows in their places.
  pub record MakesRoundAt (ts : ℕ) (marks : Marks) (own own_now : ℕ → History) (part part_now : Part) (old new : D) (waiting : List (List (Option Row))) : Type 0 where
    pub round : Round
    pub second : round.ts ≡ ts
    pub marks_are : round.marks ≡ marks
    pub made : MakesRound form gives round own own_now part part_now old new
    pub tables : List Listing
    pub handed_out : map table_of tables ≡ map round.tables (range_with_len 0 form.shards)
    pub turned : waiting ≡ map (λ table. table.places) tables

  -- The flusher made a round at each tick that the beat gave, which is otherwise as it was, and ended so, after as many rounds as it says,
  -- with the second of the last round.
  pub record FlushesAtTicks (run_flushes : ℕ) (own own_now : ℕ → History) (part part_now : Part) (old new : D) (beat beat_now : Object) (flushed : Flushed) : Type 0 where
    pub rounds : List Round
    pub made : MakesRounds form gives rounds own own_now part part_now old new
    pub given : beat.content ≡ with_ticks (map (λ r. r.ts) rounds) beat_now.content
    pub turns : beat_now.turns ≡ beat.turns + length rounds
    pub same : beat_now ≡ record beat { content = beat_now.content; faults = beat_now.faults; turns = beat_now.turns }
    pub ends : EndsSo run_flushes flushed.ended beat beat_now (length rounds)
    pub count : flushed.rounds ≡ length rounds
    pub last : flushed.last ≡ last_second rounds

  -- the same, and then the delivery was ended
  pub record Flushes (ends : D → D → Type 0) (run_flushes : ℕ) (own own_now : ℕ → History) (part part_now : Part) (old new : D) (beat beat_now : Object) (flushed : Flushed) : Type 0 where
    pub given_all : D
    pub flushes : FlushesAtTicks run_flushes own own_now part part_now old given_all beat beat_now flushed
    pub ended : ends given_all new
