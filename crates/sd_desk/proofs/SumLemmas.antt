-- The numbers of a desk: all of them, and those of a desk that has counted nothing.
use Rattle.sd_model_outside.proofs.BackendLemmas.{at_each}
use Rattle.std.proofs.Common.{◌≡◌, ℕ, map, refl}
use Rattle.sd_model_record.specs.Desk.{Desk, new_desk}
use Rattle.sd_model_record.specs.Totals.{numbers_in}
use Rattle.sd_desk.specs.Sums.{Count, counts, number_of, TotalPackets, TotalLines, TotalBad, TotalDropped, TakenPackets, TakenLines, TakenBad, TakenDropped, RoundsMade, Faults, RepeaterFaults, AdminFaults}

-- the numbers of the definitions are those by name
pub numbers_are : (d : Desk) → numbers_in d ≡ map (number_of d) counts
numbers_are d = refl

-- a new desk has counted nothing
pub starts_at_none : (start : ℕ) (count : Count) → number_of (new_desk start) count ≡ 0
starts_at_none start TotalPackets = refl
starts_at_none start TotalLines = refl
starts_at_none start TotalBad = refl
starts_at_none start TotalDropped = refl
starts_at_none start TakenPackets = refl
starts_at_none start TakenLines = refl
starts_at_none start TakenBad = refl
starts_at_none start TakenDropped = refl
starts_at_none start RoundsMade = refl
starts_at_none start (Faults b) = at_each (λ c. 0) b
starts_at_none start RepeaterFaults = refl
starts_at_none start AdminFaults = refl
