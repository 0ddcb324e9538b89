-- The sessions of a door that were served, and what is counted for them.
use Rattle.std.specs.Prelude.{ℕ, ◌+◌, List}
use Rattle.std.specs.List.{AllZip}
use Rattle.sd_model_outside.specs.Outside.{Object}
use Rattle.sd_model_record.specs.Totals.{Among, IsKeeperCall}
use Rattle.sd_shared_desk.specs.Counts.{Part, HasCalled, HasCounted, of_sessions}
use Rattle.sd_model_settings.specs.Settings as file
use Rattle.sd_model_shard.specs.History.{History}
use Rattle.sd_model_serve.specs.Sessions.{Dialogue, Exchange, IsVisitOf, ServesDoor, Visit, asked_by, called_in, faults_among}
use Rattle.sd_session.specs.Executed.{Broadcasts}
use Rattle.sd_session.specs.Commands.{AreCommands}
use Rattle.sd_model_serve.specs.Receiving.{events_in}

-- The sessions of a door were so served, and each failure and each visit that is a fault was counted at the desk, once.
pub record KeepsDoor (visits : List Visit) (failures : ℕ) (door door_now : Object) (part part_now : Part) : Type 0 where
  pub served : ServesDoor visits failures door door_now
  pub counted : HasCounted (of_sessions (failures + faults_among visits)) part part_now

-- The sessions of a door were served one after another over so many shards: what their lines ask for was asked of each shard,
-- in order, and nothing else: deletions and dumps.
pub record ServesSessions (shards : ℕ) (settings : file.Settings) (says : ℕ → Type 0) (own own_now : ℕ → History) (door door_now : Object) (part part_now : Part) : Type 0 where
  pub visits : List Visit
  pub failures : ℕ
  pub dialogues : List (Dialogue Exchange)
  pub keeps : KeepsDoor visits failures door door_now part part_now
  pub went : AllZip (IsVisitOf shards settings says) visits dialogues
  pub asked : Broadcasts shards (asked_by dialogues) own own_now
  pub commands : AreCommands (events_in (asked_by dialogues))
  pub called : HasCalled (Among IsKeeperCall (called_in dialogues)) part part_now
