-- The histories that a run of the server leaves.
use Rattle.std.proofs.Common.{◌≡◌, ◌≢◌, ℕ, ◌<◌, ◌≤◌, Bool, true, false, List, [], ◌∷◌, length, map, refl, sym, ap, subst, ◌∙◌, arith}
use Rattle.std.specs.Prelude.{◌==◌, nat_lt, get_or, Option, Some, None, if◌then◌else◌}
use Rattle.std.specs.List.{AllByRecursion, cons_option}
use Rattle.std.proofs.lemmas.Bool.{eqb-true, ltb-false, ltb-true}
use Rattle.std.proofs.lemmas.Cmp.{nat_eq_equiv}
use Rattle.sd_model_text.specs.Names.{shard}
use Rattle.sd_model_text.specs.Lines.{Sample}
use Rattle.sd_model_shard.specs.Shard.{Limits, Policy, State, Cause, Event, Submit, Swap, Delete, Dump, Look, Table, step, admitted, refusal, empty_state}
use Rattle.sd_model_shard.specs.History.{Act, History, LegalFrom, after, part_of, tables, table_in}
use Rattle.sd_model_serve.specs.Receiving.{flusher, administrator, acts_by, events_of, asks, Broadcast, events_in, acts_in}
use Rattle.sd_model_serve.specs.Rounds.{Round, swaps_at, Ran}
use Rattle.sd_pool.specs.Adding.{JoinsAs}
use Rattle.sd_session.specs.Commands.{AreCommands, IsCommand}
use Rattle.sd_model_serve.proofs.ServedLemmas.{events_of_acts}
use Rattle.sd_model_serve.proofs.Short.{events_by}

-- none of the events is a swap
abbrev AsksNoSwap : List Event → Type 0
AsksNoSwap events = AllByRecursion (λ event. event ≢ Swap) events

no_swap : (event : Event) → IsCommand event → event ≢ Swap
no_swap (Submit s) h is = absurd h
no_swap Swap h is = absurd h
no_swap (Delete kind pattern) h is = absurd (cc)
no_swap (Dump kind) h is = absurd (cc)
no_swap Look h is = absurd (cc)

no_swaps : (events : List Event) → AreCommands events → AsksNoSwap events
no_swaps [] all = tt
no_swaps (e ∷ events) all = (no_swap e all.0, no_swaps events all.1)

-- what isn't a swap hands out no table
no_table_admitted : (state : State) (s : _) (answer : Option Cause) → table_in (admitted state s answer).reply ≡ None
no_table_admitted state s None = refl
no_table_admitted state s (Some cause) = refl

no_table : (limits : Limits) (policy : Policy) (state : State) (event : Event) → event ≢ Swap → table_in (step limits policy state event).reply ≡ None
no_table limits policy state (Submit s) isnt = no_table_admitted state s (refusal limits state s)
no_table limits policy state Swap isnt = absurd (isnt refl)
no_table limits policy state (Delete kind pattern) isnt = refl
no_table limits policy state (Dump kind) isnt = refl
no_table limits policy state Look isnt = refl

same : (n : ℕ) → (n == n) ≡ true
same n = nat_eq_equiv.refl n

apart : (m n : ℕ) → (m == n) ≡ false → n ≢ m
apart m n h is = let e : (m == m) ≡ false = subst (λ k. (m == k) ≡ false) is h in let t = same m in absurd (cc)

-- behind an act, and at it
none_behind : (b : Bool) (a : Act) (acts : History) → AsksNoSwap (events_of (if b then a ∷ acts else acts)) → AsksNoSwap (events_of acts)
none_behind true a acts none = none.1
none_behind false a acts none = none

first_isnt : (b : Bool) (a : Act) (acts : History) → b ≡ true → AsksNoSwap (events_of (if b then a ∷ acts else acts)) → a.event ≢ Swap
first_isnt true a acts is none = none.0
first_isnt false a acts is none = absurd (cc)

-- where the others ask for no swap, the flusher's tables are all tables
tables_by_flusher : (limits : Limits) (policy : Policy) (state : State) (acts : History) → LegalFrom limits policy state acts → ((who : ℕ) → who ≢ flusher → AsksNoSwap (events_by who acts)) → tables acts ≡ tables (acts_by flusher acts)
tables_by_flusher limits policy state [] legal none = refl
tables_by_flusher limits policy state (a ∷ acts) legal none =
    by_test (flusher == a.who) refl (tables_by_flusher limits policy (after limits policy state a) acts legal.1 (λ who other. none_behind (who == a.who) a (acts_by who acts) (none who other))) where
      by_test : (b : Bool) → (flusher == a.who) ≡ b → tables acts ≡ tables (acts_by flusher acts) → cons_option (table_in a.reply) (tables acts) ≡ tables (if b then a ∷ acts_by flusher acts else acts_by flusher acts)
      by_test true is rest = ap (cons_option (table_in a.reply)) rest
      by_test false is rest =
          let isnt = first_isnt (a.who == a.who) a (acts_by a.who acts) (same a.who) (none a.who (apart flusher a.who is)) in
          let nothing : table_in a.reply ≡ None = ap table_in legal.0 ∙ no_table limits policy state a.event isnt in
          ap (λ (t : Option Table). cons_option t (tables acts)) nothing ∙ rest

submits_no_swap : (xs : List Sample) → AsksNoSwap (map Submit xs)
submits_no_swap [] = tt
submits_no_swap (x ∷ xs) = (λ is. absurd (cc), submits_no_swap xs)

tables_of_swaps : (rounds : List Round) (i : ℕ) → tables (swaps_at rounds i) ≡ map (λ (r : Round). r.tables i) rounds
tables_of_swaps [] i = refl
tables_of_swaps (r ∷ rounds) i = ap (λ (ts : List Table). r.tables i ∷ ts) (tables_of_swaps rounds i)

equal : (m n : ℕ) → (m == n) ≡ true → m ≡ n
equal m n h = eqb-true m n h

module _ (limits : Limits) (policy : Policy) (shards i : ℕ) (brought : List (List Sample)) (rounds : List Round) (asked : List Broadcast) (receivers : List History) (acts : History)
    (count : length receivers ≡ length brought) (submitted : (r : ℕ) → r < length receivers → events_of (get_or receivers r []) ≡ asks shards i (get_or brought r []))
    (quiet : AreCommands (events_in asked)) (joins : JoinsAs limits policy receivers (swaps_at rounds i) (acts_in asked i) acts) where
  -- nobody but the flusher asks for a swap
  no_swap_by : (who : ℕ) → who ≢ flusher → AsksNoSwap (events_by who acts)
  no_swap_by who other = by_number (nat_lt who (length receivers)) refl where
    by_admin : (b : Bool) → (who == administrator) ≡ b → length receivers ≤ who → AsksNoSwap (events_by who acts)
    by_admin true is above =
        let e : events_by who acts ≡ events_in asked = ap (λ w. events_by w acts) (equal who administrator is) ∙ ap events_of joins.commanded ∙ events_of_acts asked i in
        subst AsksNoSwap (sym e) (no_swaps (events_in asked) quiet)
    by_admin false is above =
        let e : events_by who acts ≡ [] = ap events_of (joins.others who above other (λ h. apart who administrator is (sym h))) in
        subst AsksNoSwap (sym e) tt

    by_number : (b : Bool) → nat_lt who (length receivers) ≡ b → AsksNoSwap (events_by who acts)
    by_number true is =
        let e : events_by who acts ≡ asks shards i (get_or brought who []) = ap events_of (joins.submitted who (ltb-true who (length receivers) is)) ∙ submitted who (ltb-true who (length receivers) is) in
        subst AsksNoSwap (sym e) (submits_no_swap (part_of (λ (s : Sample). shard s.key shards) i (get_or brought who [])))
    by_number false is = by_admin (who == administrator) refl (ltb-false who (length receivers) is)

  pub ran_by_callers : Ran limits policy shards brought rounds asked i acts
  ran_by_callers = record {
    legal = joins.legal;
    submitted = λ r below. ap events_of (joins.submitted r (omega arith)) ∙ submitted r (omega arith);
    swapped = joins.swapped;
    commanded = joins.commanded;
    others = λ who above. joins.others who (omega arith);
    handed_out = tables_by_flusher limits policy empty_state acts joins.legal no_swap_by ∙ ap tables joins.swapped ∙ tables_of_swaps rounds i;
  }
