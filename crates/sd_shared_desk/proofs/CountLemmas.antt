-- What changes of a desk add to its numbers, and what callers add.
use Rattle.sd_model_outside.specs.Uses.{fault_of}
use Rattle.sd_model_outside.proofs.BackendLemmas.{at_each}
use Rattle.sd_model_outside.specs.Backend.{at_backend}
use Rattle.std.proofs.Common.{◌≡◌, ℕ, Bool, refl, ap, ◌∙◌, arith}
use Rattle.sd_model_record.specs.Record.{Tally}
use Rattle.sd_model_record.specs.Desk.{Desk, Marks, add_tally, counted, new_desk, no_tally}
use Rattle.sd_desk.specs.Sums.{AddsUp, IsTallyInRange, IsInRange, Count, Amounts, number_of, TotalPackets, TotalLines, TotalBad, TotalDropped, TakenPackets, TakenLines, TakenBad, TakenDropped, RoundsMade, Faults, RepeaterFaults, AdminFaults}
use Rattle.sd_shared_desk.specs.Counts.{GrewBy, KeepsCounts, Part, HasCounted, nothing, plus, of_tally, of_taken, of_marks, of_sends, of_sessions}
use Rattle.sd_desk.proofs.SumLemmas.{starts_at_none}
use Rattle.sd_desk.specs.Steps.{with_tally, taken, marked, with_health, with_admin_fault, with_repeater_faults}

-- a number of a desk in range, to which nothing is added
stays : (d : Desk) → IsInRange d → (count : Count) → number_of d count ≡ counted (number_of d count) 0
stays d h count = omega (arith, h.numbers count)

pub grew_tally : (d : Desk) (t : Tally) (now : ℕ) → IsInRange d → GrewBy (of_tally t) d (with_tally d t now)
grew_tally d t now h TotalPackets = refl
grew_tally d t now h TotalLines = refl
grew_tally d t now h TotalBad = refl
grew_tally d t now h TotalDropped = refl
grew_tally d t now h TakenPackets = stays d h TakenPackets
grew_tally d t now h TakenLines = stays d h TakenLines
grew_tally d t now h TakenBad = stays d h TakenBad
grew_tally d t now h TakenDropped = stays d h TakenDropped
grew_tally d t now h RoundsMade = stays d h RoundsMade
grew_tally d t now h (Faults b) = stays d h (Faults b)
grew_tally d t now h RepeaterFaults = stays d h RepeaterFaults
grew_tally d t now h AdminFaults = stays d h AdminFaults

pub grew_taken : (d : Desk) → IsInRange d → GrewBy (of_taken d.tally) d (taken d)
grew_taken d h TotalPackets = stays d h TotalPackets
grew_taken d h TotalLines = stays d h TotalLines
grew_taken d h TotalBad = stays d h TotalBad
grew_taken d h TotalDropped = stays d h TotalDropped
grew_taken d h TakenPackets = refl
grew_taken d h TakenLines = refl
grew_taken d h TakenBad = refl
grew_taken d h TakenDropped = refl
grew_taken d h RoundsMade = stays d h RoundsMade
grew_taken d h (Faults b) = stays d h (Faults b)
grew_taken d h RepeaterFaults = stays d h RepeaterFaults
grew_taken d h AdminFaults = stays d h AdminFaults

pub grew_marks : (d : Desk) (m : Marks) → IsInRange d → GrewBy (of_marks m) d (marked d m)
grew_marks d m h TotalPackets = stays d h TotalPackets
grew_marks d m h TotalLines = stays d h TotalLines
grew_marks d m h TotalBad = stays d h TotalBad
grew_marks d m h TotalDropped = stays d h TotalDropped
grew_marks d m h TakenPackets = stays d h TakenPackets
grew_marks d m h TakenLines = stays d h TakenLines
grew_marks d m h TakenBad = stays d h TakenBad
grew_marks d m h TakenDropped = stays d h TakenDropped
grew_marks d m h RoundsMade = refl
grew_marks d m h (Faults b) = at_each (λ c. counted (at_backend d.facts.faults c) (fault_of (at_backend m c))) b
grew_marks d m h RepeaterFaults = stays d h RepeaterFaults
grew_marks d m h AdminFaults = stays d h AdminFaults

pub grew_health : (d : Desk) (up : Bool) → IsInRange d → GrewBy (nothing) d (with_health d up)
grew_health d up h TotalPackets = stays d h TotalPackets
grew_health d up h TotalLines = stays d h TotalLines
grew_health d up h TotalBad = stays d h TotalBad
grew_health d up h TotalDropped = stays d h TotalDropped
grew_health d up h TakenPackets = stays d h TakenPackets
grew_health d up h TakenLines = stays d h TakenLines
grew_health d up h TakenBad = stays d h TakenBad
grew_health d up h TakenDropped = stays d h TakenDropped
grew_health d up h RoundsMade = stays d h RoundsMade
grew_health d up h (Faults b) = stays d h (Faults b)
grew_health d up h RepeaterFaults = stays d h RepeaterFaults
grew_health d up h AdminFaults = stays d h AdminFaults

pub grew_sessions : (d : Desk) → IsInRange d → GrewBy (of_sessions 1) d (with_admin_fault d)
grew_sessions d h TotalPackets = stays d h TotalPackets
grew_sessions d h TotalLines = stays d h TotalLines
grew_sessions d h TotalBad = stays d h TotalBad
grew_sessions d h TotalDropped = stays d h TotalDropped
grew_sessions d h TakenPackets = stays d h TakenPackets
grew_sessions d h TakenLines = stays d h TakenLines
grew_sessions d h TakenBad = stays d h TakenBad
grew_sessions d h TakenDropped = stays d h TakenDropped
grew_sessions d h RoundsMade = stays d h RoundsMade
grew_sessions d h (Faults b) = stays d h (Faults b)
grew_sessions d h RepeaterFaults = stays d h RepeaterFaults
grew_sessions d h AdminFaults = refl

pub grew_sends : (d : Desk) (n : ℕ) → IsInRange d → GrewBy (of_sends n) d (with_repeater_faults d n)
grew_sends d n h TotalPackets = stays d h TotalPackets
grew_sends d n h TotalLines = stays d h TotalLines
grew_sends d n h TotalBad = stays d h TotalBad
grew_sends d n h TotalDropped = stays d h TotalDropped
grew_sends d n h TakenPackets = stays d h TakenPackets
grew_sends d n h TakenLines = stays d h TakenLines
grew_sends d n h TakenBad = stays d h TakenBad
grew_sends d n h TakenDropped = stays d h TakenDropped
grew_sends d n h RoundsMade = stays d h RoundsMade
grew_sends d n h (Faults b) = stays d h (Faults b)
grew_sends d n h RepeaterFaults = refl
grew_sends d n h AdminFaults = stays d h AdminFaults

pub none_in_range : IsTallyInRange no_tally
none_in_range = record { packets = omega arith; lines = omega arith; bad = omega arith; dropped = omega arith }

pub new_in_range : (start : ℕ) → IsInRange (new_desk start)
new_in_range start = record {
  tally = none_in_range;
  numbers = λ count. omega (arith, starts_at_none start count);
}

-- two tallies together are in range
pub sum_in_range : (a b : Tally) → IsTallyInRange (add_tally a b)
sum_in_range a b = record { packets = omega arith; lines = omega arith; bad = omega arith; dropped = omega arith }

abbrev tally_with : (packets lines bad dropped : ℕ) → Tally
tally_with packets lines bad dropped = record { packets = packets; lines = lines; bad = bad; dropped = dropped }

-- tallies with the same numbers
alike : {p q l m b c d e : ℕ} → p ≡ q → l ≡ m → b ≡ c → d ≡ e → tally_with p l b d ≡ tally_with q m c e
alike {p} {q} {l} {m} {b} {c} {d} {e} packets lines bad dropped =
    ap (λ x. tally_with x l b d) packets ∙ ap (λ x. tally_with q x b d) lines ∙ ap (λ x. tally_with q m x d) bad ∙ ap (λ x. tally_with q m c x) dropped

-- what a datagram counts for adds up, and so does the tally that is taken
pub adds_tally : (d : Desk) (t : Tally) → AddsUp d → add_tally d.facts.totals t ≡ add_tally d.taken_so_far (add_tally d.tally t)
adds_tally d t h = alike
    (omega (arith, ap (λ (s : Tally). s.packets) h))
    (omega (arith, ap (λ (s : Tally). s.lines) h))
    (omega (arith, ap (λ (s : Tally). s.bad) h))
    (omega (arith, ap (λ (s : Tally). s.dropped) h))

pub adds_taken : (d : Desk) → AddsUp d → AddsUp (taken d)
adds_taken d h = alike
    (omega (arith, ap (λ (s : Tally). s.packets) h))
    (omega (arith, ap (λ (s : Tally). s.lines) h))
    (omega (arith, ap (λ (s : Tally). s.bad) h))
    (omega (arith, ap (λ (s : Tally). s.dropped) h))

-- what adds to the numbers of a desk keeps their range, and lets none fall
pub keeps_by : (amounts : Amounts) (old new : Desk) → (IsInRange old → GrewBy amounts old new) → (AddsUp old → AddsUp new)
    → (IsTallyInRange old.tally → IsTallyInRange new.tally) → KeepsCounts old new
keeps_by amounts old new grew adds_up tally = record {
  adds_up = adds_up;
  in_range = λ h. record { tally = tally h.tally; numbers = λ count. omega (arith, grew h count) };
  grown = λ h count. omega (arith, h.numbers count, grew h count);
}

-- two changes, one after another
pub keeps_next : (old mid new : Desk) → KeepsCounts old mid → KeepsCounts mid new → KeepsCounts old new
keeps_next old mid new first second = record {
  adds_up = λ h. second.adds_up (first.adds_up h);
  in_range = λ h. second.in_range (first.in_range h);
  grown = λ h count. omega (arith, first.grown h count, second.grown (first.in_range h) count);
}

pub counted_none : (p : Part) → HasCounted nothing p p
counted_none p = record { rises = λ c. omega arith; grows = λ c few. omega arith; adds = λ c. omega arith }

pub counted_next : (a b : Amounts) (old mid new : Part) → HasCounted a old mid → HasCounted b mid new → HasCounted (plus a b) old new
counted_next a b old mid new first second = record {
  rises = λ c. omega (arith, first.rises c, second.rises c);
  grows = λ c few. omega (arith, first.grows c (omega (arith, second.rises c)), second.grows c few);
  adds = λ c. omega (arith, first.adds c, second.adds c);
}

-- no tally, no send and no session that failed count nothing
pub nothing_counted : (count : Count) → plus (of_tally no_tally) (plus (of_sends 0) (of_sessions 0)) count ≡ nothing count
nothing_counted TotalPackets = refl
nothing_counted TotalLines = refl
nothing_counted TotalBad = refl
nothing_counted TotalDropped = refl
nothing_counted TakenPackets = refl
nothing_counted TakenLines = refl
nothing_counted TakenBad = refl
nothing_counted TakenDropped = refl
nothing_counted RoundsMade = refl
nothing_counted (Faults b) = refl
nothing_counted RepeaterFaults = refl
nothing_counted AdminFaults = refl
