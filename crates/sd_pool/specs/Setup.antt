-- What is fixed of a shard behind a turn.
use Rattle.std.specs.Prelude.{◌≡◌, ⊤, ℕ, nat_lt, ◌==◌, false, if◌then◌else◌, None}
use Rattle.std.specs.FinMap.{get}
use Rattle.sd_model_text.specs.Names as names
use Rattle.sd_model_shard.specs.Rows.{RowId, Rows}
use Rattle.sd_model_shard.specs.Shard.{Limits, Policy, Event, Submit}
use Rattle.sd_model_serve.specs.Receiving.{flusher, administrator}

-- its limits and policy, its number among so many shards, and how many receivers there are
pub record Setup : Type 0 where
  pub limits : Limits
  pub policy : Policy
  pub shard : ℕ
  pub shards : ℕ
  pub receivers : ℕ

-- the caller that a seat's number stands for: a receiver by its number, then the flusher, then the admin
abbrev pub who_of : ℕ → ℕ → ℕ
who_of receivers number = if nat_lt number receivers then number else (if number == receivers then flusher else administrator)

-- the sample of an event is one of this shard's
abbrev pub IsOwn : Setup → Event → Type 0
IsOwn setup (Submit s) = names.shard s.key setup.shards ≡ setup.shard
IsOwn setup event = ⊤

-- rows of the keys of shard i of so many, and of no others
abbrev pub OnlyOf : ℕ → ℕ → Rows → Type 0
OnlyOf i shards live = (id : RowId) → (i == names.shard id.key shards) ≡ false → get live id ≡ None
