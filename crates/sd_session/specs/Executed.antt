-- What a line asked of all shards, and the replies that were written.
use Rattle.std.specs.Prelude.{◌≡◌, ℕ, List, Result, Ok, Err, ⊤}
use Rattle.sd_model_outside.specs.Outside.{Object, given}
use Rattle.sd_model_settings.specs.Settings as file
use Rattle.sd_model_shard.specs.Shard.{Event}
use Rattle.sd_model_shard.specs.History.{History}
use Rattle.sd_pool.specs.Adding.{Adds}
use Rattle.sd_model_record.specs.Admin.{command}
use Rattle.sd_model_record.specs.Replies.{AdminReply, admin_events, replies_text}
use Rattle.sd_model_serve.specs.Sessions.{Exchange, IsCut, replies_of}
use Rattle.sd_model_serve.specs.Receiving.{Broadcast, events_in, acts_in}

-- At each of so many shards the administrator asked for these events behind what it had asked for.
abbrev pub Broadcasts : ℕ → List Broadcast → (ℕ → History) → (ℕ → History) → Type 0
Broadcasts shards asked own own_now = Adds shards (acts_in asked) own own_now

-- Just what the line asks for was asked for, and the replies were written whole.
pub record IsWhole (replies : List AdminReply) (events asked : List Event) (old new : Object) : Type 0 where
  pub all : asked ≡ events
  pub written : new ≡ given (replies_text replies) old

-- by whether the replies were written whole
abbrev pub AreReplied : {E : Type 0} → List AdminReply → (events asked : List Event) → Result ⊤ E → Object → Object → Type 0
AreReplied replies events asked (Ok written) old new = IsWhole replies events asked old new
AreReplied replies events asked (Err fault) old new = IsCut replies events asked old new

-- a line was executed: whole, or up to where a reply was cut
abbrev pub IsExecuted : {E : Type 0} → ℕ → file.Settings → Exchange → Result ⊤ E → Object → Object → Type 0
IsExecuted shards settings e result old new = AreReplied (replies_of shards settings e) (admin_events (command e.line)) (events_in e.asked) result old new
