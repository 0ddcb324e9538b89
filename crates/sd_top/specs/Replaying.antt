-- What a replay and a drill of a call answered.
use Rattle.std.specs.Prelude.{◌≡◌, ◌⊎◌, ℕ, List}
use Rattle.sd_model_outside.specs.Outside.{Object}
use Rattle.sd_model_call.specs.Opening.{World, replay_openings}
use Rattle.sd_model_replay.specs.AccountingTheorem.{AccountingTheorem}
use Rattle.sd_model_call.specs.Drill.{drill_text}
use Rattle.sd_model_call.specs.Call.{Account, Answer, Done, Drilled, WritesTotals, drill_end, NoMemory, IsIdle, NotTaken, NotBegun, HasReplayed}

-- A replay that was asked for answered so.
pub record IsReplay (name script : List ℕ) (answer : Answer) (old new : World) : Type 0 where
  pub account : Account
  pub theorem : AccountingTheorem account.force account.trace account.start account.end
  pub answers : (NotTaken name answer old new ⊎ NotBegun (replay_openings script) name answer old new) × IsIdle account new ⊎ HasReplayed name script answer account old new

-- A drill of n packets was executed, and its text was written to the output; or a write of it failed.
pub record HasDrilled (n : ℕ) (answer : Answer) (old new : Object) : Type 0 where
  pub account : Account
  pub theorem : AccountingTheorem account.force account.trace account.start account.end
  pub drilled : Drilled n account old
  pub complete : answer ≡ Done → drilled.end ≡ drill_end n
  pub written : WritesTotals (drill_text n) Done answer old new

-- a drill answered so: no memory was left for it, and the output is untouched; or it was executed
abbrev pub IsDrill : ℕ → Answer → Object → Object → Type 0
IsDrill n answer old new = (answer ≡ NoMemory) × (new ≡ old) ⊎ HasDrilled n answer old new
