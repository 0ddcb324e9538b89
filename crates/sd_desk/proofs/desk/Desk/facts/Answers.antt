use Rattle.sd_outside.specs.Backends.{at}
use Rattle.sd_model_outside.proofs.BackendLemmas.{at_each}
use Rattle.std.proofs.Common.{◌≤◌, subst, sym}
use Rattle.sd_desk.specs.Sums.{IsInRange, Count, number_of, TotalPackets, TotalLines, TotalBad, TotalDropped, TakenPackets, TakenLines, TakenBad, TakenDropped, RoundsMade, Faults, RepeaterFaults, AdminFaults}
use Rattle.sd_desk.specs.Desk.{IsDesk, desk_of}
use Rattle.sd_desk.specs.declared.desk.Desk.TheInside.{Inside}
use Rattle.sd_desk.proofs.desk.Desk.facts.Goals as goal
use Rattle.sd_model_shard.specs.Shard.{last_number}

numbers : (d : Inside) → IsDesk d → (count : Count) → number_of (desk_of d) count ≤ last_number
numbers d h TotalPackets = d.totals.few_packets
numbers d h TotalLines = d.totals.few_lines
numbers d h TotalBad = d.totals.few_bad
numbers d h TotalDropped = d.totals.few_dropped
numbers d h TakenPackets = d.taken_so_far.few_packets
numbers d h TakenLines = d.taken_so_far.few_lines
numbers d h TakenBad = d.taken_so_far.few_bad
numbers d h TakenDropped = d.taken_so_far.few_dropped
numbers d h RoundsMade = h.rounds
numbers d h (Faults b) = subst (λ n. n ≤ last_number) (sym (at_each (at d.faults) b)) (h.faults b)
numbers d h RepeaterFaults = h.repeater_faults
numbers d h AdminFaults = h.admin_faults

pub returns-clause-in_range : goal.returns-clause-in_range
returns-clause-in_range c =
    let d = c.self.inside in
    subst IsInRange c.self.view_is (record {
      tally = record { packets = d.tally.few_packets; lines = d.tally.few_lines; bad = d.tally.few_bad; dropped = d.tally.few_dropped };
      numbers = numbers d c.self.invariant;
    })
