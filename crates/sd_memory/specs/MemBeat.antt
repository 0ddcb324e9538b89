-- What a beat in memory has, and what its calls leave.
use Rattle.std.specs.Prelude.{ℕ, List, Contains, drop, false, None, min, option_map}
use Rattle.sd_model_outside.specs.Outside.{Object, Ticks, last_count}
use Rattle.sd_outside.specs.Turns.{GivesTick}
use Rattle.sd_outside.specs.Intervals.{interval_view}
use Rattle.sd_memory.specs.declared.mem_beat.MemBeat.{MemBeat}

-- the ticks that it has left
abbrev pub left_of : MemBeat → List ℕ
left_of b = drop b.taken b.ticks.items

-- what is seen of it, which is opened nowhere
abbrev pub seen_of : MemBeat → Object
seen_of b =
    record {
      content = Ticks (left_of b);
      faults = min b.faults last_count;
      opened_at = None;
      turns = min b.turns last_count;
      is_out = false;
      interval = option_map interval_view b.interval;
    }

-- how many ticks were asked for, up to the last count
abbrev pub calls_of : MemBeat → ℕ
calls_of b = b.calls

-- the call of `next` that was made is among those that are to fail
abbrev pub IsToFail : MemBeat → MemBeat → Type 0
IsToFail old new = Contains old.fail_call.items (calls_of new)

-- the next tick was given
abbrev pub Gives : MemBeat → MemBeat → ℕ → Type 0
Gives old new second = GivesTick second (seen_of old) (seen_of new)
