-- What closing a shared desk tells.
use Rattle.std.proofs.Common.{◌≡◌, ℕ, ◌<◌, ◌≤◌, min, List, [], ◌∷◌, ◌++◌, All, Any, map, refl, sym, ap, subst, ◌∙◌, arith}
use Rattle.std.specs.Prelude.{sum_by}
use Rattle.std.specs.List.{AllByRecursion}
use Rattle.std.proofs.lemmas.List.Elements.{All-map, All-weaker, recursion_from_All}
use Rattle.std.proofs.lemmas.List.Sums.{sum_by-append, sum_by-cons}
use Rattle.sd_turn.specs.Lists.{total}
use Rattle.sd_turn.proofs.Totals.{total-map, total-sum_by}
use Rattle.sd_model_record.specs.Desk.{Desk, IsWhole, counted, new_desk}
use Rattle.sd_desk.specs.Sums.{AddsUp, Count, number_of, TotalPackets, TotalLines, TotalBad, TotalDropped, TakenPackets, TakenLines, TakenBad, TakenDropped}
use Rattle.sd_model_record.specs.DeskHistory.{DeskAct, DeskCall, DeskHistory, calls_by, desk_after}
use Rattle.sd_shared_desk.specs.Counts.{of_event, of_history, share}
use Rattle.sd_shared_desk.proofs.DeskLemmas.{acts_rise}
use Rattle.sd_turn.specs.Entries.{Begins, entries_by}
use Rattle.sd_turn.specs.Turn as turn
use Rattle.sd_turn.proofs.Sums.{total_by_number}
use Rattle.sd_shared_desk.specs.declared.noted.Noted.{Noted}
use Rattle.sd_shared_desk.specs.declared.noted.Setup.{Setup}
use Rattle.sd_shared_desk.specs.declared.shared_desk.SharedDesk.{SharedDesk}
use Rattle.sd_shared_desk.specs.Asks.{act_in, acts, call_in, calls}
use Rattle.sd_shared_desk.specs.Behind.{Behind, setup_of}
use Rattle.sd_shared_desk.specs.Shared.{History, IsConserved, OwnSeat, all_added, calls_of, history_of, number_of_seat, opened_with, part_of, seats_of, start_of}
use Rattle.sd_shared_desk.proofs.CallLemmas.{Begins-acts, calls_own, number_after}
use Rattle.sd_model_shard.specs.Shard.{last_number}

-- what an entry adds to a number
abbrev added : Count → Noted → ℕ
added count e = of_event (call_in e).event (call_in e).answer count

-- a sum over a list that is mapped
sum_by-map : {X Y : Type 0} (f : X → Y) (g : Y → ℕ) (xs : List X) → sum_by g (map f xs) ≡ total (λ x. g (f x)) xs
sum_by-map f g xs = sym (total-sum_by g (map f xs)) ∙ total-map f g xs

-- what the seats' own calls add is what their entries add
seats_total : (count : Count) (log : List Noted) (seats : List OwnSeat) → AllByRecursion (λ s. turn.own s ≡ entries_by (λ (e : Noted). e.number) (number_of_seat s) log) seats
    → all_added count seats ≡ total (λ n. total (added count) (entries_by (λ (e : Noted). e.number) n log)) (map number_of_seat seats)
seats_total count log [] own = refl
seats_total count log (s ∷ seats) own =
    let rest = seats_total count log seats own.1 in
    let sum = sum_by-cons (λ (t : OwnSeat). share (part_of t) count) s seats in
    let first : share (part_of s) count ≡ total (added count) (entries_by (λ (e : Noted). e.number) (number_of_seat s) log) =
    sum_by-map call_in (λ (c : DeskCall). of_event c.event c.answer count) (turn.own s) ∙ ap (total (added count)) own.0 in
    omega (arith, rest, sum, first)

module _ (shared : SharedDesk) (seats : List OwnSeat) (b : Behind) (h : turn.History shared.turn seats b) (same : setup_of b ≡ setup_of (opened_with shared)) where
  abbrev log : DeskHistory
  log = acts h.log

  pub start : b.desk.facts.start ≡ start_of shared
  start = ap (λ (s : Setup). s.start) same

  -- the one history of the desk
  abbrev pub history : History shared seats b.desk
  history = record {
    log = log;
    legal = h.legal;
    left = h.stands.left ∙ ap (λ s. desk_after s log) start;
    begins = All-weaker (λ (s : OwnSeat). Begins (turn.seen s) h.log) (λ (s : OwnSeat). Begins (history_of s) log) (λ s b. Begins-acts (turn.seen s) h.log b) seats h.begins;
    own = All-weaker (λ (s : OwnSeat). turn.own s ≡ entries_by (λ (e : Noted). e.number) (number_of_seat s) h.log) (λ (s : OwnSeat). calls_of s ≡ calls_by (number_of_seat s) log)
        (λ s is. ap calls is ∙ calls_own (number_of_seat s) h.log) seats h.entries;
    whose = All-map (λ (a : DeskAct). Any (λ (s : OwnSeat). number_of_seat s ≡ a.who) seats) act_in h.log h.whose;
  }

  -- all that the callers added is what the history adds
  all_is : (count : Count) → all_added count seats ≡ of_history log count
  all_is count =
      seats_total count h.log seats (recursion_from_All (λ (s : OwnSeat). turn.own s ≡ entries_by (λ (e : Noted). e.number) (number_of_seat s) h.log) seats h.entries)
      ∙ h.numbered (λ n. total (added count) (entries_by (λ (e : Noted). e.number) n h.log))
      ∙ total_by_number (λ (e : Noted). e.number) (added count) (seats_of shared) h.log (recursion_from_All (λ (e : Noted). e.number < seats_of shared) h.log h.inside)
      ∙ sym (sum_by-map act_in (λ (a : DeskAct). of_event a.call.event a.call.answer count) h.log)

  pub sums : (count : Count) → number_of b.desk count ≡ min (all_added count seats) last_number
  sums count =
      ap (λ (d : Desk). number_of d count) history.left ∙ number_after (start_of shared) log h.legal count
      ∙ ap (λ n. min n last_number) (sym (all_is count))

  -- a beginning of the history adds no more than the whole
  begins_below : (count : Count) (seen : DeskHistory) → Begins seen log → min (of_history seen count) last_number ≤ number_of b.desk count
  begins_below count seen begins =
      let whole = sums count in
      let all = all_is count in
      let is : of_history log count ≡ of_history (seen ++ begins.0) count = ap (λ (l : DeskHistory). of_history l count) begins.1 in
      let both = sum_by-append (λ (a : DeskAct). of_event a.call.event a.call.answer count) seen begins.0 in
      omega (arith, whole, all, is, both)

  pub sees : All (λ (s : OwnSeat). (count : Count) → (part_of s).seen count ≤ number_of b.desk count) seats
  sees = All-weaker (λ (s : OwnSeat). Begins (history_of s) log) (λ (s : OwnSeat). (count : Count) → (part_of s).seen count ≤ number_of b.desk count)
      (λ s begins count. begins_below count (history_of s) begins) seats history.begins

  adds_up : AddsUp b.desk
  adds_up = subst AddsUp (sym history.left) ((acts_rise (new_desk (start_of shared)) log).adds_up refl)

  whole : (total taken since a b : ℕ) → total ≡ min a last_number → taken ≡ min b last_number → total ≡ counted taken since → IsWhole a b since
  whole total taken since a b is_total is_taken is few = omega (arith, is_total, is_taken, is, few)

  -- what was added is what was taken and what is left
  pub conserved : IsConserved seats b.desk
  conserved =
      let d = b.desk in
      record {
        packets = whole d.facts.totals.packets d.taken_so_far.packets d.tally.packets (all_added TotalPackets seats) (all_added TakenPackets seats) (sums TotalPackets) (sums TakenPackets) (ap (λ t. t.packets) adds_up);
        lines = whole d.facts.totals.lines d.taken_so_far.lines d.tally.lines (all_added TotalLines seats) (all_added TakenLines seats) (sums TotalLines) (sums TakenLines) (ap (λ t. t.lines) adds_up);
        bad = whole d.facts.totals.bad d.taken_so_far.bad d.tally.bad (all_added TotalBad seats) (all_added TakenBad seats) (sums TotalBad) (sums TakenBad) (ap (λ t. t.bad) adds_up);
        dropped = whole d.facts.totals.dropped d.taken_so_far.dropped d.tally.dropped (all_added TotalDropped seats) (all_added TakenDropped seats) (sums TotalDropped) (sums TakenDropped) (ap (λ t. t.dropped) adds_up);
      }

  pub started : b.desk.facts.start ≡ start_of shared
  started = start
