-- The rounds of a flusher: what each took out of the shards and the desk, and what it wrote; the account of histories and rounds; the
-- history of each shard that a run leaves, from the side of its callers; and what goes to a backend through an outlet.
use Rattle.std.specs.{Prelude.{◌≡◌, ◌⊎◌, ℕ, ◌+◌, ◌^◌, Bool, true, false, Option, Some, None, List, [], ◌∷◌, map, get_or, ◌<◌, ◌≢◌, ◌≤◌, length, ⊤}, FinMap.{empty}, List.{range_with_len, AllByRecursion}}
use Rattle.sd_model_outside.specs.{Backend.{Backend, at_backend}, Uses.{Delivery, FitsUse}}
use Rattle.sd_model_settings.specs.Settings.{Plan, Names}
use Rattle.sd_model_shard.specs.{Shard.{Table, Swap, Swapped, Limits, Policy}, History.{History, Legal, state_after, AreDocumented, Flushed, flushes, RowsAreKept, tables, Places}}
use Rattle.sd_model_record.specs.{Record.{Tally, Record, record_of, documented_rows}, Desk.{Marks}, DeskHistory.{DeskCall, Take, Mark, Took, Done}, Backends.{text_of}}
use Rattle.sd_model_serve.specs.Receiving.{flusher, administrator, acts_by, asks, events_of, Broadcast, acts_in}
use Rattle.sd_model_text.specs.Lines.{Sample}

-- A round: its Unix second, the tally that it took, each shard's table, by the shard's number, and how the backends took part.
pub record Round : Type 0 where
  pub ts : ℕ
  pub tally : Tally
  pub tables : ℕ → Table
  pub marks : Marks

-- How records are made and written: how many shards there are, by which plan, and under which names for Graphite.
pub record RecordForm : Type 0 where
  pub shards : ℕ
  pub plan : Plan
  pub names : Names

-- the record of a round: of the tables of all shards, and of its tally
abbrev pub round_record : RecordForm → Round → Record
round_record form r = record_of form.plan (map r.tables (range_with_len 0 form.shards)) r.tally r.ts

-- its text for a backend
abbrev pub round_text : RecordForm → Backend → Round → List ℕ
round_text form back r = text_of form.names back (round_record form r)

-- what rounds have for a backend: the text of each record, with its mark
abbrev pub round_deliveries : RecordForm → Backend → List Round → List Delivery
round_deliveries form back rounds = map (λ r. record { text = round_text form back r; mark = at_backend r.marks back }) rounds

-- the swaps that rounds made of shard i
abbrev pub swaps_at : List Round → ℕ → History
swaps_at rounds i = map (λ r. record { who = flusher; event = Swap; reply = Swapped (r.tables i) }) rounds

-- what the shards with these histories flushed in round k, in the order of the shards
abbrev pub flushed_at : ℕ → (ℕ → History) → ℕ → List Flushed
flushed_at shards histories k = map (λ i. get_or (flushes (histories i)) k (record { table = record { live = empty }; journal = [] })) (range_with_len 0 shards)

-- a round's calls of the desk: it takes the tally, and leaves its marks
abbrev pub round_calls : Round → List DeskCall
round_calls r = record { event = Take; answer = Took r.tally } ∷ record { event = Mark r.marks; answer = Done } ∷ []

-- a backend's marks say whether it is used
abbrev pub MarksFit : (Backend → Bool) → Round → Type 0
MarksFit uses r = (back : Backend) → FitsUse (uses back) (at_backend r.marks back)

-- the second of the last of rounds, if there is one
abbrev pub last_second : List Round → Option ℕ
last_second [] = None
last_second (r ∷ []) = Some r.ts
last_second (r ∷ q ∷ rounds) = last_second (q ∷ rounds)

-- The account of shards with these histories, one a number, and of these rounds.
pub record AreAccounted (limits : Limits) (policy : Policy) (form : RecordForm) (histories : ℕ → History) (rounds : List Round) : Type 0 where
  -- each history is one that a shard can have
  pub legal : (i : ℕ) → i < form.shards → Legal limits policy (histories i)
  -- each good sample that was submitted to a shard is in exactly one place: the journal of one round, what one deletion took out,
  -- the entries held, or a drop at the full shard
  pub places : (i : ℕ) → i < form.shards → Places (histories i) (state_after limits policy (histories i))
  -- the swaps of each shard handed out the tables of the rounds, in order
  pub handed_out : (i : ℕ) → i < form.shards → tables (histories i) ≡ map (λ r. r.tables i) rounds
  -- the rows of these tables are those that the swap before left and those of their own journals
  pub kept_rows : (i : ℕ) → i < form.shards → RowsAreKept policy empty [] (histories i)
  -- the summaries of these rows are the documented statistics of the journals, and those of the state of the entries held
  pub documented : (i : ℕ) → i < form.shards → AreDocumented limits policy (histories i)
  -- the record of a round has the documented statistics of the journals that its swaps took
  pub statistics : (k : ℕ) (other : Round) → k < length rounds
      → (round_record form (get_or rounds k other)).rows ≡ documented_rows form.plan (flushed_at form.shards histories k)

-- The history of shard i of so many that a run left: it is legal; each receiver submitted the samples that it brought, those with
-- keys of that shard, in order; the flusher swapped once for each round, in order, and got the round's table; the admin sessions
-- asked for what they broadcast, in order, and got those replies; and nobody else asked. So its tables are those of the rounds.
pub record Ran (limits : Limits) (policy : Policy) (shards : ℕ) (brought : List (List Sample)) (rounds : List Round) (asked : List Broadcast) (i : ℕ) (acts : History) : Type 0 where
  pub legal : Legal limits policy acts
  pub submitted : (r : ℕ) → r < length brought → events_of (acts_by r acts) ≡ asks shards i (get_or brought r [])
  pub swapped : acts_by flusher acts ≡ swaps_at rounds i
  pub commanded : acts_by administrator acts ≡ acts_in asked i
  pub others : (who : ℕ) → length brought ≤ who → who ≢ flusher → who ≢ administrator → acts_by who acts ≡ []
  pub handed_out : tables acts ≡ map (λ round. round.tables i) rounds

-- The room of an outlet: how many buffers it has, none where there is no outlet, and how many bytes each of them can hold.
pub record OutletRoom : Type 0 where
  pub buffers : ℕ
  pub bytes : ℕ

-- Of texts after so many that were queued, each that is chosen fits a buffer, and each other one is longer than a buffer, or as many
-- were queued before it as there are buffers, or 2^61.
abbrev pub AreChosen : OutletRoom → (before : ℕ) → List Bool → List (List ℕ) → Type 0
AreChosen room before [] [] = ⊤
AreChosen room before [] (text ∷ texts) = ⊥
AreChosen room before (c ∷ choice) [] = ⊥
AreChosen room before (true ∷ choice) (text ∷ texts) = (length text ≤ room.bytes) × AreChosen room (before + 1) choice texts
AreChosen room before (false ∷ choice) (text ∷ texts) = ((room.bytes < length text) ⊎ (room.buffers ≤ before) ⊎ (2 ^ 61 ≤ before)) × AreChosen room before choice texts

-- of a list, what is chosen, place by place
abbrev pub chosen : {X : Type 0} → List Bool → List X → List X
chosen [] xs = []
chosen (c ∷ choice) [] = []
chosen (true ∷ choice) (x ∷ xs) = x ∷ chosen choice xs
chosen (false ∷ choice) (x ∷ xs) = chosen choice xs

-- What became of a backend's texts at its outlet: those that were queued, each as it was written, in order; how many were skipped.
pub record OutletTrace : Type 0 where
  pub queued : List Delivery
  pub skipped : ℕ

-- Texts were offered at an outlet of such room, in order. Each that was queued was a round of the backend, in order, written whole
-- or missed; all others were skipped, each for a reason.
pub record WentThrough (room : OutletRoom) (texts : List (List ℕ)) (o : OutletTrace) : Type 0 where
  pub choice : List Bool
  pub chosen_so : AreChosen room 0 choice texts
  pub queued : map (λ d. d.text) o.queued ≡ chosen choice texts
  pub used : AllByRecursion (λ d. FitsUse true d.mark) o.queued
  pub others : length o.queued + o.skipped ≡ length texts

-- by whether texts go through an outlet; where they don't, none does
abbrev pub IsOutletTrace : Bool → OutletRoom → List (List ℕ) → OutletTrace → Type 0
IsOutletTrace true room texts o = WentThrough room texts o
IsOutletTrace false room texts o = o ≡ record { queued = []; skipped = 0 }
