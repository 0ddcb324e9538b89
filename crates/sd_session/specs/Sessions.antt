-- Sessions, as contracts tell them.
use Rattle.std.specs.Prelude.{◌≡◌, ℕ, ◌++◌, flat_map}
use Rattle.sd_model_outside.specs.Outside.{Object}
use Rattle.sd_model_settings.specs.Settings as file
use Rattle.sd_model_shard.specs.History.{History}
use Rattle.sd_shared_desk.specs.Counts.{Part}
use Rattle.sd_model_serve.specs.Sessions.{line_calls, Dialogue, HasTalked, lines_in, Exchange, admin_talk}
use Rattle.sd_session.specs.Executed.{Broadcasts}
use Rattle.sd_session.specs.Commands.{AreCommands}
use Rattle.sd_talk.specs.Sessions.{end_of}
use Rattle.sd_talk.specs.declared.sessions.SessionEnd.{SessionEnd}
use Rattle.sd_model_serve.specs.Receiving.{events_in}

-- A session was held over so many shards: what its lines ask for was asked of each shard, in order, and nothing else.
pub record HoldsSession (shards : ℕ) (settings : file.Settings) (says : ℕ → Type 0) (ended : SessionEnd) (own own_now : ℕ → History) (part part_now : Part) (source source_now sink sink_now : Object) : Type 0 where
  pub dialogue : Dialogue Exchange
  pub ended_is : dialogue.ended ≡ end_of ended
  pub talked : HasTalked (admin_talk shards settings says) dialogue source source_now sink sink_now
  pub asked : Broadcasts shards (flat_map (λ e. e.asked) (lines_in dialogue)) own own_now
  pub called : part_now.own ≡ part.own ++ flat_map line_calls (lines_in dialogue)
  pub commands : AreCommands (events_in (flat_map (λ e. e.asked) (lines_in dialogue)))
