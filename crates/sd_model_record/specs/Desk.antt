-- The desk: what the server counts of itself.
use Rattle.std.specs.Prelude.{◌≡◌, ℕ, ◌+◌, ◌<◌, min, Bool, true}
use Rattle.sd_model_outside.specs.{Backend.{PerBackend, each_of}, Uses.{Mark}}
use Rattle.sd_model_record.specs.Record.{Tally}
use Rattle.sd_model_shard.specs.Shard.{last_number}

-- a count after so many more
abbrev pub counted : ℕ → ℕ → ℕ
counted n more = min (n + more) last_number

-- nothing was counted
abbrev pub no_tally : Tally
no_tally = record { packets = 0; lines = 0; bad = 0; dropped = 0 }

-- two tallies together
abbrev pub add_tally : Tally → Tally → Tally
add_tally a b =
    record {
      packets = counted a.packets b.packets;
      lines = counted a.lines b.lines;
      bad = counted a.bad b.bad;
      dropped = counted a.dropped b.dropped;
    }

-- how each backend took part in a flush
abbrev pub Marks : Type 0
Marks = PerBackend Mark

-- What a desk tells of itself: when the server started, when the last datagram came, and whether the server is well; and since the
-- start the totals, the flushes, and the faults of each backend, of the repeater and of admin sessions.
pub record Facts : Type 0 where
  pub start : ℕ
  pub last : ℕ
  pub totals : Tally
  pub up : Bool
  pub rounds : ℕ
  pub faults : PerBackend ℕ
  pub repeater_faults : ℕ
  pub admin_faults : ℕ

-- The desk: its facts; the tally since it was last taken; and the tallies that were taken since the start.
pub record Desk : Type 0 where
  pub facts : Facts
  pub tally : Tally
  pub taken_so_far : Tally

-- its desk
abbrev pub new_desk : ℕ → Desk
new_desk start = record { facts = record { start = start; last = start; totals = no_tally; up = true; rounds = 0; faults = each_of (λ b. 0); repeater_faults = 0; admin_faults = 0 }; tally = no_tally; taken_so_far = no_tally }

-- a total that hasn't reached the last count is what was taken and what was counted since
abbrev pub IsWhole : ℕ → ℕ → ℕ → Type 0
IsWhole total taken since = total < last_number → total ≡ taken + since

-- each total that hasn't reached the last count is what was taken and what was counted since
pub record IsBalanced (d : Desk) : Type 0 where
  pub packets : IsWhole d.facts.totals.packets d.taken_so_far.packets d.tally.packets
  pub lines : IsWhole d.facts.totals.lines d.taken_so_far.lines d.tally.lines
  pub bad : IsWhole d.facts.totals.bad d.taken_so_far.bad d.tally.bad
  pub dropped : IsWhole d.facts.totals.dropped d.taken_so_far.dropped d.tally.dropped
