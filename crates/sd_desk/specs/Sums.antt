-- The numbers of a desk by name; and what a desk keeps: its sums, and the range of its counts.
use Rattle.std.specs.Prelude.{◌≤◌, ◌≡◌, ℕ, List, [], ◌∷◌, ◌++◌, map}
use Rattle.sd_model_outside.specs.Backend.{Backend, backends, at_backend}
use Rattle.sd_model_record.specs.Desk.{Desk, add_tally}
use Rattle.sd_model_record.specs.Record.{Tally}
use Rattle.sd_model_shard.specs.Shard.{last_number}

-- The numbers of a desk.
pub data Count : Type 0 where
  TotalPackets TotalLines TotalBad TotalDropped TakenPackets TakenLines TakenBad TakenDropped RoundsMade : Count
  Faults : (b : Backend) → Count
  RepeaterFaults AdminFaults : Count

-- all of them, in the order of the definitions
abbrev pub counts : List Count
counts =
    TotalPackets ∷ TotalLines ∷ TotalBad ∷ TotalDropped ∷ TakenPackets ∷ TakenLines ∷ TakenBad ∷ TakenDropped ∷ RoundsMade
    ∷ (map Faults backends ++ RepeaterFaults ∷ AdminFaults ∷ [])

-- so much of each number
abbrev pub Amounts : Type 0
Amounts = Count → ℕ

-- a number of a desk
abbrev pub number_of : Desk → Amounts
number_of d TotalPackets = d.facts.totals.packets
number_of d TotalLines = d.facts.totals.lines
number_of d TotalBad = d.facts.totals.bad
number_of d TotalDropped = d.facts.totals.dropped
number_of d TakenPackets = d.taken_so_far.packets
number_of d TakenLines = d.taken_so_far.lines
number_of d TakenBad = d.taken_so_far.bad
number_of d TakenDropped = d.taken_so_far.dropped
number_of d RoundsMade = d.facts.rounds
number_of d (Faults b) = at_backend d.facts.faults b
number_of d RepeaterFaults = d.facts.repeater_faults
number_of d AdminFaults = d.facts.admin_faults

-- the totals are the tallies taken and the tally, up to where counts stop
abbrev pub AddsUp : Desk → Type 0
AddsUp d = d.facts.totals ≡ add_tally d.taken_so_far d.tally

-- each count of a tally is at most the last count
pub record IsTallyInRange (t : Tally) : Type 0 where
  pub packets : t.packets ≤ last_number
  pub lines : t.lines ≤ last_number
  pub bad : t.bad ≤ last_number
  pub dropped : t.dropped ≤ last_number

-- each count of a desk is at most the last count
pub record IsInRange (d : Desk) : Type 0 where
  pub tally : IsTallyInRange d.tally
  pub numbers : (count : Count) → number_of d count ≤ last_number
