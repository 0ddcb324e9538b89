-- Where the samples of a legal history are, and what its replies are by the entries alone.
use Rattle.std.proofs.Common.{◌≡◌, ℕ, ◌+◌, ◌≤◌, ◌<◌, min, cond, eqb, List, [], ◌∷◌, ◌++◌, length, map, refl, sym, ap, subst, ◌∙◌, append_assoc, append-nil, length-append, not, arith}
use Rattle.std.specs.Prelude.{Option, Some, None, sum_by, flat_map, count_by}
use Rattle.std.specs.List.{range_with_len, AllByRecursion}
use Rattle.std.specs.List.Sorted.{IsPermutation}
use Rattle.std.proofs.lemmas.List.Sorted.{IsPermutation-refl, IsPermutation-trans, IsPermutation-append_left, IsPermutation-append_right, IsPermutation-append_comm, IsPermutation-filter_both, length_permutation, sum_by-IsPermutation}
use Rattle.std.proofs.lemmas.List.Sums.{fold_push, sum_by-append, sum_by-cons}
use Rattle.sd_model_shard.proofs.OrderLemmas.{Rises, Rises-append, Rises-filter, Rises-increasing, weighed_once, sum_by-flat_map, sum_by-map}
use Rattle.std.specs.FinMap.{empty}
use Rattle.sd_model_text.specs.Names.{Kind}
use Rattle.sd_model_text.specs.Lines.{Sample}
use Rattle.sd_model_shard.specs.Rows.{DumpRow, is_hit, rows_left, dump_of, Rows, Entry, row_of, is_listed, Tell}
use Rattle.sd_model_shard.specs.Shard.{State, empty_state, Cause, Limits, Policy, Taken, Dropped, Event, Submit, Swap, Delete, Dump, Look, step, admitted, refusal, with_sample, kept_rows, after_swap, after_delete, deletion_of, Table, table_of, Answered, Swapped, Dumped, Numbers, numbers_of, Looked, last_number}
use Rattle.sd_model_shard.specs.History.{History, Act, Asked, after, after_all, state_after, LegalFrom, Legal, answered, held_after, arrivals, fates, filed, journaled, Flushed, ActOver, acts_over, flushes, deletions, taken_out, summed_by, tables as handed_out, AreDocumented, RowsAreKept}
use Rattle.sd_law_shard.specs.Sums.{StandsAt, flushed_in, StandsOnce}
use Rattle.sd_law_shard.specs.Reported.{IsReportedBy, AreReportedBy}
use Rattle.sd_law_shard.proofs.OverLemmas.{summed_by_entries}
use Rattle.sd_model_shard.proofs.KeptRowLemmas.{Stands, Stands-empty, Stands-sample, Stands-drop, Stands-swap, Stands-delete, Stands-tell, samples_reported, deleted_reported}
use Rattle.sd_model_shard.proofs.HistoryLemmas.{LegalFrom-push, asked_in, legal_is_answered}
use Rattle.sd_model_shard.proofs.Short.{held_from, with_drop, deleted_from, flushes_from, act_of, Accounted, entries_taken_out, entries_left, causes}

pub LegalFrom-prefix : (limits : Limits) (policy : Policy) (state : State) (prefix back : History) → LegalFrom limits policy state (prefix ++ back) → LegalFrom limits policy state prefix
LegalFrom-prefix limits policy state [] back h = tt
LegalFrom-prefix limits policy state (a ∷ prefix) back h = (h.0, LegalFrom-prefix limits policy (after limits policy state a) prefix back h.1)

pub StandsAt-push : (limits : Limits) (policy : Policy) (acts : History) (state : State) (who : ℕ) (event : Event) → StandsAt limits policy acts state
    → StandsAt limits policy (acts ++ act_of limits policy state who event ∷ []) (step limits policy state event).state
StandsAt-push limits policy acts state who event h =
    let reached : (step limits policy state event).reply ≡ (step limits policy (state_after limits policy acts) event).reply = ap (λ (s : State). (step limits policy s event).reply) h.left in
    record {
      legal = LegalFrom-push limits policy empty_state acts (act_of limits policy state who event) h.legal reached;
      left =
          ap (λ (s : State). (step limits policy s event).state) h.left
          ∙ sym (fold_push (after limits policy) empty_state acts (act_of limits policy state who event));
    }

-- the journals of acts, one after another, from some entries on
abbrev journals : List Entry → History → List Entry
journals held acts = flat_map (λ f. f.journal) (flushes_from held acts)

-- what acts do between two states, of which the first stands on these rows and entries
record Goes (limits : Limits) (policy : Policy) (kept_before : Rows) (journal : List Entry) (old new : State) (acts : History) : Type 0 where
  one_fate : map (λ f. f.arrival) (fates acts) ≡ arrivals acts
  numbers : map (λ e. e.number) (filed acts) ≡ range_with_len old.taken (length (filed acts))
  order : (low : ℕ) → Rises low journal old.taken → Rises low (journals journal acts ++ held_from journal acts) new.taken
  places : IsPermutation (journal ++ filed acts) (journals journal acts ++ deleted_from journal acts ++ held_from journal acts)
  taken : new.taken ≡ old.taken + length (filed acts)
  flushed : new.flushed ≡ old.flushed + length (journals journal acts)
  deleted : new.deleted ≡ old.deleted + length (deleted_from journal acts)
  dropped : old.dropped ≤ last_number → new.dropped ≡ min (old.dropped + length (causes acts)) last_number
  held : new.held ≡ length (held_from journal acts)
  listed : new.listed ≡ count_by (λ e. is_listed e.sample.kind) (held_from journal acts)
  reported : summed_by flushed_in acts ≡ length (journals journal acts)
  handed : map (λ f. f.table) (flushes_from journal acts) ≡ handed_out acts
  tables : AllByRecursion (λ f. Tell f.table.live f.journal) (flushes_from journal acts)
  last : Tell new.live (held_from journal acts)
  answers : IsReportedBy limits policy new (held_from journal acts)
  keeps_rows : RowsAreKept policy kept_before journal acts

-- a sample before them, by its answer
sample_goes : (limits : Limits) (policy : Policy) (kept_before : Rows) (journal : List Entry) (old new : State) (who : ℕ) (s : Sample) (acts : History)
    → Goes limits policy kept_before (journal ++ record { who = who; number = old.taken; sample = s } ∷ []) (with_sample old s) new acts
    → Goes limits policy kept_before journal old new (record { who = who; event = Submit s; reply = Answered (Taken old.taken) } ∷ acts)
sample_goes limits policy kept_before journal old new who s acts h =
    let e : Entry = record { who = who; number = old.taken; sample = s } in
    let more = journal ++ e ∷ [] in
    record {
      one_fate = ap (λ rest. record { who = who; sample = s } ∷ rest) h.one_fate;
      numbers = ap (λ rest. old.taken ∷ rest) h.numbers;
      order = λ low rises. h.order low (Rises-append low old.taken (old.taken + 1) journal (e ∷ []) rises (omega arith, omega arith));
      places = subst (λ entries. IsPermutation entries (journals more acts ++ deleted_from more acts ++ held_from more acts)) (append_assoc journal (e ∷ []) (filed acts)) h.places;
      taken = omega (arith, h.taken);
      flushed = h.flushed;
      deleted = h.deleted;
      dropped = λ below. omega (arith, h.dropped below);
      held = h.held;
      listed = h.listed;
      reported = h.reported;
      handed = h.handed;
      tables = h.tables;
      last = h.last;
      answers = h.answers;
      keeps_rows = (tt, h.keeps_rows);
    }

-- a drop before them
drop_goes : (limits : Limits) (policy : Policy) (kept_before : Rows) (journal : List Entry) (old new : State) (who : ℕ) (s : Sample) (cause : Cause) (acts : History)
    → Goes limits policy kept_before journal (with_drop old) new acts
    → Goes limits policy kept_before journal old new (record { who = who; event = Submit s; reply = Answered (Dropped cause) } ∷ acts)
drop_goes limits policy kept_before journal old new who s cause acts h = record {
  one_fate = ap (λ rest. record { who = who; sample = s } ∷ rest) h.one_fate;
  numbers = h.numbers;
  order = h.order;
  places = h.places;
  taken = h.taken;
  flushed = h.flushed;
  deleted = h.deleted;
  dropped = λ below. omega (arith, h.dropped (omega arith));
  held = h.held;
  listed = h.listed;
  reported = h.reported;
  handed = h.handed;
  tables = h.tables;
  last = h.last;
  answers = h.answers;
  keeps_rows = (tt, h.keeps_rows);
}

joined : (prefix a b c : List Entry) → prefix ++ (a ++ b ++ c) ≡ prefix ++ a ++ b ++ c
joined prefix a b c = simp append_assoc

-- a swap before them
swap_goes : (limits : Limits) (policy : Policy) (kept_before : Rows) (journal : List Entry) (old new : State) (who : ℕ) (acts : History)
    → Stands kept_before old journal
    → Goes limits policy (kept_rows policy old.live) [] (after_swap policy old) new acts
    → Goes limits policy kept_before journal old new (record { who = who; event = Swap; reply = Swapped (table_of old) } ∷ acts)
swap_goes limits policy kept_before journal old new who acts stands h =
    let later = journals [] acts in
    let gone = deleted_from [] acts in
    let last = held_from [] acts in
    record {
      one_fate = h.one_fate;
      numbers = h.numbers;
      order = λ low rises.
          subst (λ entries. Rises low entries new.taken) (sym (append_assoc journal later last))
          (Rises-append low old.taken new.taken journal (later ++ last) rises (h.order old.taken (omega arith)));
      places = subst (IsPermutation (journal ++ filed acts)) (joined journal later gone last) (IsPermutation-append_right journal (filed acts) (later ++ gone ++ last) h.places);
      taken = h.taken;
      flushed = omega (arith, h.flushed, stands.held, length-append journal later);
      deleted = h.deleted;
      dropped = h.dropped;
      held = h.held;
      listed = h.listed;
      reported = omega (
        arith,
        h.reported,
        samples_reported kept_before old journal stands,
        length-append journal later,
        sum_by-cons (λ (b : Act). flushed_in b.reply) (record { who = who; event = Swap; reply = Swapped (table_of old) }) acts,
      );
      handed = ap (λ (ts : List Table). table_of old ∷ ts) h.handed;
      tables = (Stands-tell kept_before old journal stands, h.tables);
      last = h.last;
      answers = h.answers;
      keeps_rows = (stands.rows, h.keeps_rows);
    }

-- entries that go out first stand behind those of the journals
moved_behind : (held left out entries journals gone last : List Entry) → IsPermutation held (out ++ left) → IsPermutation (left ++ entries) (journals ++ gone ++ last) → IsPermutation (held ++ entries) (journals ++ (out ++ gone) ++ last)
moved_behind held left out entries journals gone last parts h =
    let one : IsPermutation (held ++ entries) ((out ++ left) ++ entries) = IsPermutation-append_left entries held (out ++ left) parts in
    let two : IsPermutation (out ++ (left ++ entries)) (out ++ (journals ++ gone ++ last)) = IsPermutation-append_right out (left ++ entries) (journals ++ gone ++ last) h in
    let three : IsPermutation ((out ++ journals) ++ (gone ++ last)) ((journals ++ out) ++ (gone ++ last)) = IsPermutation-append_left (gone ++ last) (out ++ journals) (journals ++ out) (IsPermutation-append_comm out journals) in
    let middle : out ++ (journals ++ gone ++ last) ≡ (out ++ journals) ++ (gone ++ last) = simp append_assoc in
    let end : (journals ++ out) ++ (gone ++ last) ≡ journals ++ (out ++ gone) ++ last = simp append_assoc in
    IsPermutation-trans (held ++ entries) ((out ++ left) ++ entries) (journals ++ (out ++ gone) ++ last) one
    (subst (λ xs. IsPermutation xs (journals ++ (out ++ gone) ++ last)) (sym (append_assoc out left entries))
    (IsPermutation-trans (out ++ (left ++ entries)) ((out ++ journals) ++ (gone ++ last)) (journals ++ (out ++ gone) ++ last) (subst (IsPermutation (out ++ (left ++ entries))) middle two)
    (subst (IsPermutation ((out ++ journals) ++ (gone ++ last))) end three)))

-- a deletion before them
delete_goes : (limits : Limits) (policy : Policy) (kind : Kind) (pattern : List ℕ) (kept_before : Rows) (journal : List Entry) (old new : State) (who : ℕ) (acts : History)
    → Stands kept_before old journal
    → Goes limits policy (rows_left kind pattern kept_before) (entries_left kind pattern journal) (after_delete kind pattern old) new acts
    → Goes limits policy kept_before journal old new (record { who = who; event = Delete kind pattern; reply = deletion_of kind pattern old } ∷ acts)
delete_goes limits policy kind pattern kept_before journal old new who acts stands h =
    let out = entries_taken_out kind pattern journal in
    let left = entries_left kind pattern journal in
    let parts : IsPermutation journal (out ++ left) = IsPermutation-filter_both (λ e. is_hit kind pattern (row_of e.sample)) (λ e. not (is_hit kind pattern (row_of e.sample))) (λ e. refl) journal in
    record {
      one_fate = h.one_fate;
      numbers = h.numbers;
      order = λ low rises. h.order low (Rises-filter (λ e. not (is_hit kind pattern (row_of e.sample))) low old.taken journal rises);
      places = moved_behind journal left out (filed acts) (journals left acts) (deleted_from left acts) (held_from left acts) parts h.places;
      taken = h.taken;
      flushed = h.flushed;
      deleted = omega (arith, h.deleted, deleted_reported kind pattern kept_before old journal stands, length-append out (deleted_from left acts));
      dropped = h.dropped;
      held = h.held;
      listed = h.listed;
      reported = h.reported;
      handed = h.handed;
      tables = h.tables;
      last = h.last;
      answers = h.answers;
      keeps_rows = (tt, h.keeps_rows);
    }

-- a dump before them
dump_goes : (limits : Limits) (policy : Policy) (kind : Kind) (kept_before : Rows) (journal : List Entry) (old new : State) (who : ℕ) (rows : List DumpRow) (acts : History)
    → Goes limits policy kept_before journal old new acts
    → Goes limits policy kept_before journal old new (record { who = who; event = Dump kind; reply = Dumped rows } ∷ acts)
dump_goes limits policy kind kept_before journal old new who rows acts h = record {
  one_fate = h.one_fate;
  numbers = h.numbers;
  order = h.order;
  places = h.places;
  taken = h.taken;
  flushed = h.flushed;
  deleted = h.deleted;
  dropped = h.dropped;
  held = h.held;
  listed = h.listed;
  reported = h.reported;
  handed = h.handed;
  tables = h.tables;
  last = h.last;
  answers = h.answers;
  keeps_rows = (tt, h.keeps_rows);
}

-- a look before them
look_goes : (limits : Limits) (policy : Policy) (kept_before : Rows) (journal : List Entry) (old new : State) (who : ℕ) (numbers : Numbers) (acts : History)
    → Goes limits policy kept_before journal old new acts
    → Goes limits policy kept_before journal old new (record { who = who; event = Look; reply = Looked numbers } ∷ acts)
look_goes limits policy kept_before journal old new who numbers acts h = record {
  one_fate = h.one_fate;
  numbers = h.numbers;
  order = h.order;
  places = h.places;
  taken = h.taken;
  flushed = h.flushed;
  deleted = h.deleted;
  dropped = h.dropped;
  held = h.held;
  listed = h.listed;
  reported = h.reported;
  handed = h.handed;
  tables = h.tables;
  last = h.last;
  answers = h.answers;
  keeps_rows = (tt, h.keeps_rows);
}

-- events with the replies of the step, from a state that stands on some entries
abbrev GoesOn : Limits → Policy → State → List Asked → Type 0
GoesOn limits policy state asked =
    (kept_before : Rows) (journal : List Entry) → Stands kept_before state journal
    → Goes limits policy kept_before journal state (after_all limits policy state (answered limits policy state asked)) (answered limits policy state asked)

-- a sample before events, by its answer
submit_goes : (limits : Limits) (policy : Policy) (state : State) (who : ℕ) (s : Sample) (answer : Option Cause) (asked : List Asked)
    → GoesOn limits policy (admitted state s answer).state asked
    → (kept_before : Rows) (journal : List Entry) → Stands kept_before state journal
    → (let next = (admitted state s answer).state in
    let acts = answered limits policy next asked in
    Goes limits policy kept_before journal state (after_all limits policy next acts) (record { who = who; event = Submit s; reply = (admitted state s answer).reply } ∷ acts))
submit_goes limits policy state who s None asked rest kept_before journal stands =
    let next = with_sample state s in
    let acts = answered limits policy next asked in
    sample_goes limits policy kept_before journal state (after_all limits policy next acts) who s acts
    (rest kept_before (journal ++ record { who = who; number = state.taken; sample = s } ∷ []) (Stands-sample kept_before state journal who s stands))
submit_goes limits policy state who s (Some cause) asked rest kept_before journal stands =
    let next = with_drop state in
    let acts = answered limits policy next asked in
    drop_goes limits policy kept_before journal state (after_all limits policy next acts) who s cause acts (rest kept_before journal (Stands-drop kept_before state journal s cause stands))

goes : (limits : Limits) (policy : Policy) (state : State) (asked : List Asked) → GoesOn limits policy state asked
goes limits policy state [] kept_before journal stands = record {
  one_fate = refl;
  numbers = refl;
  order = λ low rises. rises;
  places = subst (λ entries. IsPermutation entries journal) (sym (append-nil journal)) (IsPermutation-refl journal);
  taken = omega arith;
  flushed = omega arith;
  deleted = omega arith;
  dropped = λ below. omega arith;
  held = stands.held;
  listed = stands.listed;
  reported = refl;
  handed = refl;
  tables = tt;
  last = Stands-tell kept_before state journal stands;
  answers = summed_by_entries limits policy kept_before state journal stands;
  keeps_rows = tt;
}
goes limits policy state (q ∷ asked) kept_before journal stands = goes_by limits policy state q.who q.event asked (goes limits policy (step limits policy state q.event).state asked) kept_before journal stands where
  goes_by : (limits : Limits) (policy : Policy) (state : State) (who : ℕ) (event : Event) (asked : List Asked)
      → GoesOn limits policy (step limits policy state event).state asked → GoesOn limits policy state (record { who = who; event = event } ∷ asked)
  goes_by limits policy state who (Submit s) asked rest kept_before journal stands = submit_goes limits policy state who s (refusal limits state s) asked rest kept_before journal stands
  goes_by limits policy state who Swap asked rest kept_before journal stands =
      let next = after_swap policy state in
      let acts = answered limits policy next asked in
      swap_goes limits policy kept_before journal state (after_all limits policy next acts) who acts stands (rest (kept_rows policy state.live) [] (Stands-swap policy state))
  goes_by limits policy state who (Delete kind pattern) asked rest kept_before journal stands =
      let next = after_delete kind pattern state in
      let acts = answered limits policy next asked in
      delete_goes limits policy kind pattern kept_before journal state (after_all limits policy next acts) who acts stands
      (rest (rows_left kind pattern kept_before) (entries_left kind pattern journal) (Stands-delete kind pattern kept_before state journal stands))
  goes_by limits policy state who (Dump kind) asked rest kept_before journal stands =
      let acts = answered limits policy state asked in
      dump_goes limits policy kind kept_before journal state (after_all limits policy state acts) who (dump_of kind state.live) acts (rest kept_before journal stands)
  goes_by limits policy state who Look asked rest kept_before journal stands =
      let acts = answered limits policy state asked in
      look_goes limits policy kept_before journal state (after_all limits policy state acts) who (numbers_of state) acts (rest kept_before journal stands)

abbrev GoesAll : Limits → Policy → History → Type 0
GoesAll limits policy acts = Goes limits policy empty [] empty_state (state_after limits policy acts) acts

legal_goes : (limits : Limits) (policy : Policy) (acts : History) → Legal limits policy acts → GoesAll limits policy acts
legal_goes limits policy acts h =
    subst (GoesAll limits policy) (legal_is_answered limits policy empty_state acts h)
    (goes limits policy empty_state (asked_in acts) empty [] (Stands-empty))

-- each sample of a legal history has one place
pub accounted : (limits : Limits) (policy : Policy) (acts : History) → Legal limits policy acts → Accounted limits policy acts
accounted limits policy acts legal =
    let h = legal_goes limits policy acts legal in
    let last = state_after limits policy acts in
    let gone = deletions acts in
    let held = held_after acts in
    let none : 0 + length (filed acts) ≡ length (filed acts) = omega arith in
    record {
      one_fate = h.one_fate;
      own_number = h.numbers ∙ ap (range_with_len 0) (sym (h.taken ∙ none));
      in_order = Rises-increasing 0 last.taken (journaled acts ++ held) (h.order 0 (omega arith));
      one_place = h.places;
      flushed = omega (arith, h.flushed);
      deleted = omega (arith, h.deleted);
      dropped = omega (arith, h.dropped (omega arith));
      held = h.held;
      sum = omega (arith, h.taken, h.flushed, h.deleted, h.held, length_permutation (filed acts) (journaled acts ++ gone ++ held) h.places, length-append (journaled acts ++ gone) held, length-append (journaled acts) gone);
    }

-- the rows tell the journals and the entries held
pub are_documented : (limits : Limits) (policy : Policy) (acts : History) → Legal limits policy acts → AreDocumented limits policy acts
are_documented limits policy acts legal =
    let h = legal_goes limits policy acts legal in
    record { handed_out = h.handed; tables = h.tables; last = h.last; listed = h.listed }

-- what is answered next is told by the entries held
pub are_reported_by : (limits : Limits) (policy : Policy) (acts : History) → Legal limits policy acts → AreReportedBy limits policy acts
are_reported_by limits policy acts legal = (legal_goes limits policy acts legal).answers

pub rows_kept : (limits : Limits) (policy : Policy) (acts : History) → Legal limits policy acts → RowsAreKept policy empty [] acts
rows_kept limits policy acts legal = (legal_goes limits policy acts legal).keeps_rows

pub flushes_reported : (limits : Limits) (policy : Policy) (acts : History) → Legal limits policy acts → (state_after limits policy acts).flushed ≡ summed_by flushed_in acts
flushes_reported limits policy acts legal =
    let h = legal_goes limits policy acts legal in
    omega (arith, h.flushed, h.reported)

-- each number below those given stands once
pub stands_once : (limits : Limits) (policy : Policy) (acts : History) → Legal limits policy acts → (n : ℕ) → n < (state_after limits policy acts).taken → StandsOnce acts n
stands_once limits policy acts h n below =
    let all = accounted limits policy acts h in
    let last = state_after limits policy acts in
    let gone = deletions acts in
    let held = held_after acts in
    let f : Entry → ℕ = λ e. cond (eqb e.number n) 1 0 in
    let in_range : sum_by f (filed acts) ≡ 1 =
    sym (sum_by-map (λ k. cond (eqb k n) 1 0) (λ (e : Entry). e.number) (filed acts))
    ∙ ap (sum_by (λ k. cond (eqb k n) 1 0)) all.own_number
    ∙ weighed_once n 1 0 last.taken (omega arith) (omega arith) in
    omega (
      arith,
      in_range,
      sum_by-IsPermutation f (filed acts) (journaled acts ++ gone ++ held) all.one_place,
      sum_by-append f (journaled acts ++ gone) held,
      sum_by-append f (journaled acts) gone,
      sum_by-flat_map f (λ (x : Flushed). x.journal) (flushes acts),
      sum_by-flat_map f (λ (m : ActOver). taken_out m.held m.act.event m.act.reply) (acts_over [] acts),
    )
