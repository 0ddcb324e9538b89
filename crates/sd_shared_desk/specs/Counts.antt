-- What calls add to a desk's numbers, and a caller's part of them.
use Rattle.std.specs.Prelude.{◌≡◌, ℕ, ◌+◌, ◌<◌, ◌≤◌, min, List, [], ◌++◌, sum_by}
use Rattle.sd_model_outside.specs.Backend.{Backend, at_backend}
use Rattle.sd_model_record.specs.Record.{Tally}
use Rattle.sd_model_outside.specs.Uses.{fault_of}
use Rattle.sd_model_record.specs.DeskHistory.{DeskAnswer, DeskCall, DeskEvent, DeskHistory, Add, Take, Mark, AdminFault, RepeaterFaults as FailedSends, Look, Took}
use Rattle.sd_model_record.specs.Desk.{Desk, Facts, Marks, counted}
use Rattle.sd_desk.specs.Sums.{AddsUp, IsInRange, Count, Amounts, number_of, TotalPackets, TotalLines, TotalBad, TotalDropped, TakenPackets, TakenLines, TakenBad, TakenDropped, RoundsMade, Faults, RepeaterFaults, AdminFaults}
use Rattle.sd_model_shard.specs.Shard.{last_number}

-- a change of a desk keeps its sums and its range, and lets no number fall
pub record KeepsCounts (old new : Desk) : Type 0 where
  pub adds_up : AddsUp old → AddsUp new
  pub in_range : IsInRange old → IsInRange new
  pub grown : IsInRange old → (count : Count) → number_of old count ≤ number_of new count

-- nothing of any
abbrev pub nothing : Amounts
nothing count = 0

-- two amounts together
abbrev pub plus : Amounts → Amounts → Amounts
plus a b count = a count + b count

-- what a tally adds to the totals
abbrev pub of_tally : Tally → Amounts
of_tally t TotalPackets = t.packets
of_tally t TotalLines = t.lines
of_tally t TotalBad = t.bad
of_tally t TotalDropped = t.dropped
of_tally t count = 0

-- what a tally adds that was taken
abbrev pub of_taken : Tally → Amounts
of_taken t TakenPackets = t.packets
of_taken t TakenLines = t.lines
of_taken t TakenBad = t.bad
of_taken t TakenDropped = t.dropped
of_taken t count = 0

-- what a round adds with its marks
abbrev pub of_marks : Marks → Amounts
of_marks m RoundsMade = 1
of_marks m (Faults b) = fault_of (at_backend m b)
of_marks m count = 0

-- so many sends of the repeater that failed
abbrev pub of_sends : ℕ → Amounts
of_sends n RepeaterFaults = n
of_sends n count = 0

-- so many admin sessions that failed
abbrev pub of_sessions : ℕ → Amounts
of_sessions n AdminFaults = n
of_sessions n count = 0

-- a change of a desk raised each number by so much, up to the last count
abbrev pub GrewBy : Amounts → Desk → Desk → Type 0
GrewBy amounts old new = (count : Count) → number_of new count ≡ counted (number_of old count) (amounts count)

-- what an answer adds by the tally that it tells
abbrev pub of_answer : DeskAnswer → Amounts
of_answer (Took tally) = of_taken tally
of_answer answer = nothing

-- what an event adds that was answered so
abbrev pub of_event : DeskEvent → DeskAnswer → Amounts
of_event (Add tally now) answer = of_tally tally
of_event Take answer = of_answer answer
of_event (Mark marks) answer = of_marks marks
of_event AdminFault answer = of_sessions 1
of_event (FailedSends sends) answer = of_sends sends
of_event event answer = nothing

-- what calls add together
abbrev pub of_calls : List DeskCall → Amounts
of_calls calls count = sum_by (λ c. of_event c.event c.answer count) calls

-- what the calls of a history add together
abbrev pub of_history : DeskHistory → Amounts
of_history acts count = sum_by (λ a. of_event a.call.event a.call.answer count) acts

-- A caller's part of a desk: the calls that it made, in order, and each number as it has last seen it.
pub record Part : Type 0 where
  pub own : List DeskCall
  pub seen : Amounts

-- what a caller has added to each number
abbrev pub share : Part → Amounts
share part = of_calls part.own

-- the part of a caller who has added and seen nothing
abbrev pub no_part : Part
no_part = record { own = []; seen = nothing }

-- A caller added so much. No number that it has seen falls; one that it has then seen below the last count has grown by at
-- least that. The caller's share of each has grown by just that, up to the last count.
pub record HasCounted (amounts : Amounts) (old new : Part) : Type 0 where
  pub rises : (count : Count) → old.seen count ≤ new.seen count
  pub grows : (count : Count) → new.seen count < last_number → old.seen count + amounts count ≤ new.seen count
  pub adds : (count : Count) → min (share new count) last_number ≡ counted (share old count) (amounts count)

-- A caller made calls behind those that it had made, of which this holds.
pub record HasCalled (are : List DeskCall → Type 0) (old new : Part) : Type 0 where
  pub calls : List DeskCall
  pub made : new.own ≡ old.own ++ calls
  pub are_so : are calls

-- a call asks for the facts alone
abbrev pub IsLook : DeskCall → Type 0
IsLook call = call.event ≡ Look

-- the numbers that facts tell are those that were seen
pub record AreSeen (f : Facts) (seen : Amounts) : Type 0 where
  pub packets : f.totals.packets ≡ seen TotalPackets
  pub lines : f.totals.lines ≡ seen TotalLines
  pub bad : f.totals.bad ≡ seen TotalBad
  pub dropped : f.totals.dropped ≡ seen TotalDropped
  pub rounds : f.rounds ≡ seen RoundsMade
  pub faults : (b : Backend) → at_backend f.faults b ≡ seen (Faults b)
  pub repeater_faults : f.repeater_faults ≡ seen RepeaterFaults
  pub admin_faults : f.admin_faults ≡ seen AdminFaults
