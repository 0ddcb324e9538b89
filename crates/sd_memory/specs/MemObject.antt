-- What an object in memory has that is opened, and what its calls leave.
use Rattle.std.specs.Prelude.{◌≡◌, ℕ, Contains, min}
use Rattle.sd_model_outside.specs.Outside.{Object, last_count}
use Rattle.sd_outside.specs.Places.{last_place}
use Rattle.sd_memory.specs.declared.mem_object.MemObject.{MemObject}

-- how often each call was asked for, up to the last count
pub record Calls : Type 0 where
  pub openings : ℕ
  pub calls : ℕ

module _ {T : Type 0} where
  -- what it holds
  abbrev pub content_of : MemObject T → T
  content_of m = m.content

  -- it with another content
  abbrev pub with_content : MemObject T → T → MemObject T
  with_content m content = record m { content = content }

  -- what is seen of it, by what its content shows
  abbrev pub seen_by : (T → Object) → MemObject T → Object
  seen_by bare m = record (bare m.content) { faults = min m.faults last_count; opened_at = last_place m.opened_at }

  -- how often its calls were asked for
  abbrev pub calls_of : MemObject T → Calls
  calls_of m = record { openings = m.openings; calls = m.calls }

  -- the call that was made, and isn't an opening, is among those that are to fail
  abbrev pub IsToFail : MemObject T → MemObject T → Type 0
  IsToFail old new = Contains old.fail_call.items (calls_of new).calls

  -- the calls that are to fail are as they were
  pub record SameFailures (old new : MemObject T) : Type 0 where
    pub fail_open : new.fail_open ≡ old.fail_open
    pub fail_call : new.fail_call ≡ old.fail_call
