-- What is asked of a shard, and what it replies, as the definitions have it.
use Rattle.std.specs.Prelude.{◌≡◌, ℕ, ◌+◌, ◌<◌, ◌≤◌, List, length, map, drop}
use Rattle.std.specs.List.{AllByRecursion}
use Rattle.sd_model_text.specs.Names.{shard}
use Rattle.sd_model_text.specs.Lines.{Sample}
use Rattle.sd_model_shard.specs.Rows.{DumpRow, in_key_order}
use Rattle.sd_model_shard.specs.Shard as model
use Rattle.sd_model_shard.specs.Shard.{Event, Reply}
use Rattle.sd_model_shard.specs.History.{History, after_all, part_of}
use Rattle.sd_epoch.specs.Table.{Listing, live_of}
use Rattle.sd_shard.specs.declared.shard.Deleted.{Deleted}
use Rattle.sd_shard.specs.Shard.{IsDeletion, IsDump, state_of}
use Rattle.sd_shard.specs.Keys.{KeyList}
use Rattle.sd_shard.specs.Dump.{DumpList, rows_of}
use Rattle.sd_shard.specs.Tables.{IsWithin}
use Rattle.sd_batch.specs.Batch.{Waiting}
use Rattle.sd_batch.specs.Runs.{submitted}
use Rattle.sd_pool.specs.Setup.{Setup, OnlyOf, who_of}
use Rattle.sd_pool.specs.Noted.{Noted}
use Rattle.sd_pool.specs.Behind.{Behind, setup_of}

-- what a list has beyond another
abbrev pub beyond : {A : Type 0} → List A → List A → List A
beyond old new = drop (length old) new

-- a deletion's reply: the keys that were appended, in their order, and what it answers
abbrev pub gone_of : List (List ℕ) → List (List ℕ) → Deleted → Reply
gone_of old new gone = model.Deleted (in_key_order (λ key. key) (beyond old new)) gone.rows gone.samples

-- a dump's reply: the rows that were appended, in the order of their keys
abbrev pub shown_of : List DumpRow → List DumpRow → Reply
shown_of old new = model.Dumped (in_key_order (λ row. row.key) (beyond old new))

-- a list of keys goes on as a deletion's reply tells, within its room
pub record KeysGoOn (setup : Setup) (old new : KeyList) (gone : Deleted) : Type 0 where
  pub promised : IsDeletion (gone_of old.items new.items gone) old.items new.items gone
  pub few : length new.items ≤ length old.items + setup.limits.rows
  pub room : new.room ≡ old.room

-- a list of rows goes on as a dump's reply tells, within its room
pub record RowsGoOn (setup : Setup) (old new : DumpList) : Type 0 where
  pub promised : IsDump (shown_of (rows_of old) (rows_of new)) (rows_of old) (rows_of new)
  pub few : length new.items ≤ length old.items + setup.limits.rows
  pub room : new.room ≡ old.room

-- a table that was swapped out
pub record IsOwnTable (setup : Setup) (table : Listing) : Type 0 where
  pub within : IsWithin setup.limits table
  pub own : OnlyOf setup.shard setup.shards (live_of table)

-- the entry of a seat's number, by the caller that it stands for
abbrev pub entry_of : Setup → ℕ → Event → Reply → Noted
entry_of setup number event reply = record { number = number; act = record { who = who_of setup.receivers number; event = event; reply = reply } }

-- the samples that wait in a batch for a shard of so many
abbrev pub waiting_at : ℕ → ℕ → Waiting → List Sample
waiting_at shards i batch = part_of (λ s. shard s.key shards) i batch.items

-- the acts of a caller that submits samples one after another, from a shard as it stood
abbrev pub made_by : Setup → ℕ → Behind → List Sample → History
made_by setup who before samples = submitted setup.limits setup.policy (state_of before.shard) who samples

-- the entries of a seat's number that submits samples one after another, from a shard as it stood
abbrev pub entries_of : Setup → ℕ → Behind → List Sample → List Noted
entries_of setup number before samples = map (λ a. record { number = number; act = a }) (made_by setup (who_of setup.receivers number) before samples)

-- a run of a batch is that of this shard
abbrev pub IsRunOf : Setup → ℕ → Waiting → Type 0
IsRunOf setup home batch = (home ≡ setup.shard) × (batch.shards ≡ setup.shards) × (home < batch.shards)

-- A shard took or dropped samples, one after another.
pub record Runs (old new : Behind) (samples : List Sample) : Type 0 where
  pub setup : setup_of new ≡ setup_of old
  pub state : (who : ℕ) → state_of new.shard ≡ after_all old.shard.table.limits old.shard.policy (state_of old.shard) (made_by (setup_of old) who old samples)

-- samples of the keys of a shard of so many
abbrev pub AreOf : ℕ → ℕ → List Sample → Type 0
AreOf i shards samples = AllByRecursion (λ s. shard s.key shards ≡ i) samples
