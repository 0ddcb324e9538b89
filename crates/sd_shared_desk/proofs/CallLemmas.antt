-- What a call of a shared desk comes to.
use Rattle.sd_model_outside.specs.Backend.{at_backend}
use Rattle.std.proofs.Common.{◌≡◌, ℕ, ◌+◌, min, Bool, true, false, cond, eqb, eq-eqb, ne_eqb, List, [], ◌∷◌, ◌++◌, map, refl, sym, ap, subst, ◌∙◌, arith}
use Rattle.std.specs.Prelude.{filter}
use Rattle.std.specs.List.{AllByRecursion}
use Rattle.std.proofs.lemmas.Bool.{eqb-true}
use Rattle.std.proofs.lemmas.List.{map-append, map_push}
use Rattle.std.proofs.lemmas.List.Sums.{fold_push, sum_by-append, sum_by-cons}
use Rattle.sd_model_record.specs.Desk.{Desk, Facts, new_desk}
use Rattle.sd_model_record.specs.DeskHistory.{AnswersFrom, DeskAct, DeskCall, DeskHistory, Look, Reported, calls_by, desk_after, desk_answer, desk_step}
use Rattle.sd_shared_desk.specs.Counts.{AreSeen, HasCalled, HasCounted, IsLook, of_calls, of_event, of_history}
use Rattle.sd_desk.proofs.SumLemmas.{starts_at_none}
use Rattle.sd_shared_desk.proofs.CountLemmas.{new_in_range}
use Rattle.sd_shared_desk.proofs.DeskLemmas.{acts_grew}
use Rattle.sd_turn.specs.Entries.{Begins, GoesOn, entries_by, pick}
use Rattle.sd_turn.specs.Turn as turn
use Rattle.sd_shared_desk.specs.declared.ask.DeskAsk.{DeskAsk}
use Rattle.sd_shared_desk.specs.declared.ask.DeskReply.{DeskReply}
use Rattle.sd_shared_desk.specs.declared.noted.Noted.{Noted}
use Rattle.sd_shared_desk.specs.declared.shared_desk.SharedDesk.{SharedDesk}
use Rattle.sd_shared_desk.specs.Asks.{act_in, acts, call_in, call_of, calls, entry_of}
use Rattle.sd_shared_desk.specs.Shared.{Calls, OwnSeat, calls_of, history_of, number_of_seat, part_of, start_of}
use Rattle.sd_shared_desk.proofs.StandsLemmas.{acts-push, step_start}
use Rattle.sd_model_shard.specs.Shard.{last_number}
use Rattle.sd_model_record.proofs.Short.{desk_left, IsDeskHistory}
use Rattle.sd_desk.specs.Sums.{Count, number_of, TotalPackets, TotalLines, TotalBad, TotalDropped, RoundsMade, Faults, RepeaterFaults, AdminFaults}

acts-append : (xs ys : List Noted) → acts (xs ++ ys) ≡ acts xs ++ acts ys
acts-append xs ys = map-append {B = DeskAct} act_in xs ys

pub Begins-acts : (seen log : List Noted) → Begins seen log → Begins (acts seen) (acts log)
Begins-acts seen log b = (acts b.0, ap acts b.1 ∙ acts-append seen b.0)

GoesOn-acts : (old new : List Noted) (e : Noted) → GoesOn old new e → GoesOn (acts old) (acts new) (act_in e)
GoesOn-acts old new e g = (acts g.0, ap acts g.1 ∙ acts-push (old ++ g.0) e ∙ ap (λ (l : DeskHistory). l ++ act_in e ∷ []) (acts-append old g.0))

-- either way round, two numbers are the same or not
same_test : (n m : ℕ) → eqb m n ≡ eqb n m
same_test n m = by_same (eqb m n) refl where
  by_same : (b : Bool) → eqb m n ≡ b → b ≡ eqb n m
  by_same true is = sym (eq-eqb n m (sym (eqb-true m n is)))
  by_same false is = sym (ne_eqb n m (λ q. let both = sym (eq-eqb m n (sym q)) ∙ is in cc))

-- the calls of a seat's entries are those of its number
pub calls_own : (n : ℕ) (log : List Noted) → calls (entries_by (λ e. e.number) n log) ≡ calls_by n (acts log)
calls_own n [] = refl
calls_own n (e ∷ log) = by_test (eqb e.number n) (eqb n e.number) (same_test n e.number) (calls_own n log) where
  by_test : (b c : Bool) → b ≡ c → calls (entries_by (λ e. e.number) n log) ≡ calls_by n (acts log)
      → calls (pick b e (entries_by (λ e. e.number) n log)) ≡ map (λ (a : DeskAct). a.call) (cond c (act_in e ∷ filter (λ (a : DeskAct). eqb n a.who) (acts log)) (filter (λ (a : DeskAct). eqb n a.who) (acts log)))
  by_test true true h rest = ap (λ (l : List DeskCall). call_in e ∷ l) rest
  by_test true false h rest = absurd (cc)
  by_test false true h rest = absurd (cc)
  by_test false false h rest = rest

-- what the turn tells of a call
pub calls_so : (shared : SharedDesk) (old new : OwnSeat) (ask : DeskAsk) (answer : DeskReply) → turn.own new ≡ turn.own old ++ entry_of (number_of_seat old) ask answer ∷ []
    → GoesOn (turn.seen old) (turn.seen new) (entry_of (number_of_seat old) ask answer) → IsDeskHistory (start_of shared) (acts (turn.seen new)) → turn.own new ≡ entries_by (λ e. e.number) (number_of_seat old) (turn.seen new)
    → Calls shared old new (call_of ask answer)
calls_so shared old new ask answer own seen legal all = record {
  own = ap calls own ∙ map_push call_in (turn.own old) (entry_of (number_of_seat old) ask answer);
  seen = GoesOn-acts (turn.seen old) (turn.seen new) (entry_of (number_of_seat old) ask answer) seen;
  legal = legal;
  all = ap calls all ∙ calls_own (number_of_seat old) (turn.seen new);
}

abbrev weigh : Count → DeskAct → ℕ
weigh count a = of_event a.call.event a.call.answer count

-- what a history adds that goes on by a call
goes_by : (count : Count) (old new : DeskHistory) (a : DeskAct) → (g : GoesOn old new a) → of_history new count ≡ of_history old count + (of_history g.0 count + weigh count a)
goes_by count old new a g =
    let all : of_history new count ≡ of_history ((old ++ g.0) ++ a ∷ []) count = ap (λ (l : DeskHistory). of_history l count) g.1 in
    let last = sum_by-append (weigh count) (old ++ g.0) (a ∷ []) in
    let first = sum_by-append (weigh count) old g.0 in
    let one = sum_by-cons (weigh count) a [] in
    omega (arith, all, last, first, one)

-- the caller has counted what the call adds
pub counted_by : (shared : SharedDesk) (old new : OwnSeat) (call : DeskCall) → Calls shared old new call → HasCounted (of_event call.event call.answer) (part_of old) (part_of new)
counted_by shared old new call c =
    let a : DeskAct = record { who = number_of_seat old; call = call } in
    record {
      rises = λ count. let g = goes_by count (history_of old) (history_of new) a c.seen in omega (arith, g);
      grows = λ count few. let g = goes_by count (history_of old) (history_of new) a c.seen in omega (arith, g, few);
      adds = λ count.
          let all = ap (λ (l : List DeskCall). of_calls l count) c.own in
          let both = sum_by-append (λ (b : DeskCall). of_event b.event b.answer count) (calls_of old) (call ∷ []) in
          let one = sum_by-cons (λ (b : DeskCall). of_event b.event b.answer count) call [] in
          omega (arith, all, both, one);
    }

-- a look is one call more
pub looked_by : (shared : SharedDesk) (old new : OwnSeat) (call : DeskCall) → call.event ≡ Look → Calls shared old new call → HasCalled (AllByRecursion IsLook) (part_of old) (part_of new)
looked_by shared old new call is c = record { calls = call ∷ []; made = c.own; are_so = (is, tt) }

answers_last : (d : Desk) (acts : DeskHistory) (a : DeskAct) → AnswersFrom d (acts ++ a ∷ []) → a.call.answer ≡ desk_answer (desk_left d acts) a.call.event
answers_last d [] a h = h.0
answers_last d (x ∷ acts) a h = answers_last (desk_step d x.call.event) acts a h.1

left_start : (d : Desk) (acts : DeskHistory) → (desk_left d acts).facts.start ≡ d.facts.start
left_start d [] = refl
left_start d (a ∷ acts) = left_start (desk_step d a.call.event) acts ∙ step_start d a.call.event

same_facts : (f g : Facts) → Reported f ≡ Reported g → f ≡ g
same_facts f g e = cc

-- each number of the desk after a history is the sum of what its calls add
pub number_after : (start : ℕ) (acts : DeskHistory) → IsDeskHistory start acts → (count : Count) → number_of (desk_after start acts) count ≡ min (of_history acts count) last_number
number_after start acts legal count = omega (arith, acts_grew (new_desk start) acts (new_in_range start) legal count, starts_at_none start count)

module _ (shared : SharedDesk) (old new : OwnSeat) (f : Facts) (c : Calls shared old new (record { event = Look; answer = Reported f })) where
  abbrev before : DeskHistory
  before = history_of old ++ c.seen.0

  abbrev act : DeskAct
  act = record { who = number_of_seat old; call = record { event = Look; answer = Reported f } }

  promised : f ≡ (desk_after (start_of shared) before).facts
  promised = same_facts f (desk_after (start_of shared) before).facts (answers_last (new_desk (start_of shared)) before act (subst (IsDeskHistory (start_of shared)) c.seen.1 c.legal))

  left : desk_after (start_of shared) (history_of new) ≡ desk_after (start_of shared) before
  left = ap (desk_after (start_of shared)) c.seen.1 ∙ fold_push (λ (d : Desk) (b : DeskAct). desk_step d b.call.event) (new_desk (start_of shared)) before act

  pub reported_start : f.start ≡ start_of shared
  reported_start = ap (λ (g : Facts). g.start) promised ∙ left_start (new_desk (start_of shared)) before

  is_seen : (count : Count) → number_of (desk_after (start_of shared) before) count ≡ (part_of new).seen count
  is_seen count = ap (λ (d : Desk). number_of d count) (sym left) ∙ number_after (start_of shared) (history_of new) c.legal count

  -- facts that are told are those that the caller has then seen
  pub facts_seen : AreSeen f (part_of new).seen
  facts_seen = record {
    packets = ap (λ (g : Facts). g.totals.packets) promised ∙ is_seen TotalPackets;
    lines = ap (λ (g : Facts). g.totals.lines) promised ∙ is_seen TotalLines;
    bad = ap (λ (g : Facts). g.totals.bad) promised ∙ is_seen TotalBad;
    dropped = ap (λ (g : Facts). g.totals.dropped) promised ∙ is_seen TotalDropped;
    rounds = ap (λ (g : Facts). g.rounds) promised ∙ is_seen RoundsMade;
    faults = λ b. ap (λ (g : Facts). at_backend g.faults b) promised ∙ is_seen (Faults b);
    repeater_faults = ap (λ (g : Facts). g.repeater_faults) promised ∙ is_seen RepeaterFaults;
    admin_faults = ap (λ (g : Facts). g.admin_faults) promised ∙ is_seen AdminFaults;
  }
