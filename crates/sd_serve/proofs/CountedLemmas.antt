-- What a run counts, as its receivers, its rounds and its sessions add up.
use Rattle.sd_model_outside.specs.Backend.{at_backend}
use Rattle.std.proofs.Common.{◌≡◌, ℕ, ◌+◌, Bool, true, false, List, [], ◌∷◌, length, flat_map, map, refl, ap, ◌∙◌, arith, length-append}
use Rattle.std.specs.Prelude.{min, sum_by, ◌==◌, if◌then◌else◌}
use Rattle.std.proofs.lemmas.List.Sums.{sum_by-cons, sum_by-append}
use Rattle.sd_model_text.specs.Lines.{pieces, bad_of}
use Rattle.sd_model_outside.specs.Uses.{fault_of}
use Rattle.sd_model_shard.specs.Shard.{Limits, Policy, State, Event, Submit, Swap, Delete, Dump, Look, step, last_number}
use Rattle.sd_model_shard.specs.History.{Act, History, LegalFrom, after, dropped_in, summed_by}
use Rattle.sd_shared_desk.specs.Counts.{Part, HasCounted, plus, share, of_tally, of_sends, of_sessions}
use Rattle.sd_shared_desk.proofs.CountLemmas.{nothing_counted}
use Rattle.sd_model_serve.specs.Receiving.{acts_by, events_of, summed_in, tally_of, ReceiverTrace}
use Rattle.sd_model_serve.specs.Sessions.{faults_among}
use Rattle.sd_model_serve.specs.Rounds.{RecordForm, Round, swaps_at}
use Rattle.sd_flush.specs.Made.{of_round, of_rounds}
use Rattle.sd_session.specs.Commands.{AreCommands}
use Rattle.sd_model_stream.specs.Streams.{bad_of_line, pieces_of_line, lines_in, LineTrace}
use Rattle.sd_model_run.specs.Run.{ServerTrace, counts_in, rounds_in}
use Rattle.sd_model_run.proofs.CountedLemmas.{sum_by-alike, sum_by-nothing}
use Rattle.sd_model_stream.proofs.Short.{faults_in_lines}
use Rattle.sd_model_serve.proofs.Short.{events_by, failed_sends}
use Rattle.sd_desk.specs.Sums.{Count, Amounts, TotalPackets, TotalLines, TotalBad, TotalDropped, TakenPackets, TakenLines, TakenBad, TakenDropped, RoundsMade, Faults, RepeaterFaults, AdminFaults, counts}

-- what a run counts of a number
abbrev pub counts_of : ℕ → ServerTrace → Amounts
counts_of shards c TotalPackets = length (flat_map (λ r. r.read) c.receiver_traces)
counts_of shards c TotalLines = sum_by (λ d. length (pieces d)) (flat_map (λ r. r.read) c.receiver_traces) + sum_by pieces_of_line (flat_map (λ l. lines_in l.streams) c.line_traces)
counts_of shards c TotalBad = sum_by bad_of (flat_map (λ r. r.read) c.receiver_traces) + sum_by bad_of_line (flat_map (λ l. lines_in l.streams) c.line_traces)
counts_of shards c TotalDropped = summed_in dropped_in shards c.histories
counts_of shards c TakenPackets = sum_by (λ r. r.tally.packets) (rounds_in c)
counts_of shards c TakenLines = sum_by (λ r. r.tally.lines) (rounds_in c)
counts_of shards c TakenBad = sum_by (λ r. r.tally.bad) (rounds_in c)
counts_of shards c TakenDropped = sum_by (λ r. r.tally.dropped) (rounds_in c)
counts_of shards c RoundsMade = length (rounds_in c)
counts_of shards c (Faults b) = sum_by (λ r. fault_of (at_backend r.marks b)) (rounds_in c)
counts_of shards c RepeaterFaults = sum_by (λ r. failed_sends r.sendings) c.receiver_traces
counts_of shards c AdminFaults = c.failures + faults_among c.visits + sum_by faults_in_lines c.line_traces

-- these are the counts of the run, in order
pub counts_are : (shards : ℕ) (c : ServerTrace) → counts_in shards c ≡ map (counts_of shards c) counts
counts_are shards c = refl

-- one of each is as many as there are
pub sum_by-ones : {X : Type 0} (f : X → ℕ) (xs : List X) → ((x : X) → f x ≡ 1) → sum_by f xs ≡ length xs
sum_by-ones f [] one = refl
sum_by-ones f (x ∷ xs) one = let rest = sum_by-ones f xs one in let first = one x in let a = sum_by-cons f x xs in omega arith

-- deletions and dumps drop nothing, whatever acts stand between them
drops_nothing : (limits : Limits) (policy : Policy) (state : State) (event : Event) → AreCommands (event ∷ []) → dropped_in (step limits policy state event).reply ≡ 0
drops_nothing limits policy state (Submit s) h = absurd (h.0)
drops_nothing limits policy state Swap h = absurd (h.0)
drops_nothing limits policy state (Delete kind pattern) h = refl
drops_nothing limits policy state (Dump kind) h = refl
drops_nothing limits policy state Look h = refl

pub no_drops : (limits : Limits) (policy : Policy) (state : State) (who : ℕ) (acts : History) → LegalFrom limits policy state acts → AreCommands (events_by who acts) → summed_by dropped_in (acts_by who acts) ≡ 0
no_drops limits policy state who [] legal commands = refl
no_drops limits policy state who (a ∷ acts) legal commands = by_test (who == a.who) commands (no_drops limits policy (after limits policy state a) who acts legal.1) where
  by_test : (b : Bool) → AreCommands (events_of (if b then a ∷ acts_by who acts else acts_by who acts)) → (AreCommands (events_by who acts) → summed_by dropped_in (acts_by who acts) ≡ 0)
      → summed_by dropped_in (if b then a ∷ acts_by who acts else acts_by who acts) ≡ 0
  by_test true all rest =
      let first : dropped_in a.reply ≡ 0 = ap dropped_in legal.0 ∙ drops_nothing limits policy state a.event (all.0, tt) in
      let others = rest all.1 in
      let sum = sum_by-cons (λ (b : Act). dropped_in b.reply) a (acts_by who acts) in
      omega arith
  by_test false all rest = rest all

-- swaps drop nothing
pub swaps_drop_nothing : (rounds : List Round) (i : ℕ) → summed_by dropped_in (swaps_at rounds i) ≡ 0
swaps_drop_nothing [] i = refl
swaps_drop_nothing (r ∷ rounds) i = swaps_drop_nothing rounds i

-- what receivers count together, with so many drops
abbrev pub received_by : List ReceiverTrace → ℕ → Amounts
received_by receiver_traces drops =
    let read = flat_map (λ (r : ReceiverTrace). r.read) receiver_traces in
    plus (of_tally (record { packets = length read; lines = sum_by (λ d. length (pieces d)) read; bad = sum_by bad_of read; dropped = drops }))
    (of_sends (sum_by (λ (r : ReceiverTrace). failed_sends r.sendings) receiver_traces))

-- what readers of lines count together, with so many drops
abbrev pub lines_read_by : List LineTrace → ℕ → Amounts
lines_read_by line_traces drops =
    let lines = flat_map (λ (l : LineTrace). lines_in l.streams) line_traces in
    plus (of_tally (record { packets = 0; lines = sum_by pieces_of_line lines; bad = sum_by bad_of_line lines; dropped = drops }))
    (of_sessions (sum_by faults_in_lines line_traces))

-- What a run counts is what its receivers, its reader of lines, its rounds and its admin sessions count.
module _ (form : RecordForm) (c : ServerTrace) where
  abbrev faults : ℕ
  faults = c.failures + faults_among c.visits

  no_rounds : (count : Count) → ((r : Round) → of_round r count ≡ 0) → of_rounds (rounds_in c) count ≡ 0
  no_rounds count none = sum_by-nothing (λ (r : Round). of_round r count) (rounds_in c) none

  in_rounds : (count : Count) (f : Round → ℕ) → ((r : Round) → of_round r count ≡ f r) → of_rounds (rounds_in c) count ≡ sum_by f (rounds_in c)
  in_rounds count f same = sum_by-alike (λ (r : Round). of_round r count) f (rounds_in c) same

  pub counts_add_up : (drops lines_read : ℕ) → drops + lines_read ≡ summed_in dropped_in form.shards c.histories → (count : Count)
      → counts_of form.shards c count ≡ received_by c.receiver_traces drops count + (lines_read_by c.line_traces lines_read count + (of_rounds (rounds_in c) count + of_sessions faults count))
  counts_add_up drops lines_read is TotalDropped = let none = no_rounds TotalDropped (λ r. refl) in omega (arith, none, is)
  counts_add_up drops lines_read is TakenPackets = let all = in_rounds TakenPackets (λ r. r.tally.packets) (λ r. omega arith) in omega (arith, all)
  counts_add_up drops lines_read is TakenLines = let all = in_rounds TakenLines (λ r. r.tally.lines) (λ r. omega arith) in omega (arith, all)
  counts_add_up drops lines_read is TakenBad = let all = in_rounds TakenBad (λ r. r.tally.bad) (λ r. omega arith) in omega (arith, all)
  counts_add_up drops lines_read is TakenDropped = let all = in_rounds TakenDropped (λ r. r.tally.dropped) (λ r. omega arith) in omega (arith, all)
  counts_add_up drops lines_read is RoundsMade = let all = sum_by-ones (λ (r : Round). of_round r RoundsMade) (rounds_in c) (λ r. omega arith) in omega (arith, all)
  counts_add_up drops lines_read is (Faults b) = let all = in_rounds (Faults b) (λ r. fault_of (at_backend r.marks b)) (λ r. omega arith) in omega (arith, all)
  counts_add_up drops lines_read is count = let none = no_rounds count (λ r. refl) in omega (arith, none)

-- what one receiver counts, with so many drops
abbrev pub one_by : ReceiverTrace → ℕ → Amounts
one_by r drops =
    plus (of_tally (record { packets = length r.read; lines = sum_by (λ d. length (pieces d)) r.read; bad = sum_by bad_of r.read; dropped = drops }))
    (of_sends (failed_sends r.sendings))

-- no receiver counts nothing
pub none_received : (count : Count) → received_by [] 0 count ≡ 0
none_received count = omega (arith, nothing_counted count)

-- one receiver more
pub received_next : (r : ReceiverTrace) (receiver_traces : List ReceiverTrace) (drops others : ℕ) (count : Count)
    → received_by (r ∷ receiver_traces) (drops + others) count ≡ one_by r drops count + received_by receiver_traces others count
received_next r receiver_traces drops others TotalPackets =
    let all = length-append r.read (flat_map (λ (q : ReceiverTrace). q.read) receiver_traces) in omega (arith, all)
received_next r receiver_traces drops others TotalLines =
    let all = sum_by-append (λ (d : List ℕ). length (pieces d)) r.read (flat_map (λ (q : ReceiverTrace). q.read) receiver_traces) in omega (arith, all)
received_next r receiver_traces drops others TotalBad =
    let all = sum_by-append bad_of r.read (flat_map (λ (q : ReceiverTrace). q.read) receiver_traces) in omega (arith, all)
received_next r receiver_traces drops others TotalDropped = omega arith
received_next r receiver_traces drops others RepeaterFaults =
    let all = sum_by-cons (λ (q : ReceiverTrace). failed_sends q.sendings) r receiver_traces in omega (arith, all)
received_next r receiver_traces drops others count = refl

-- A tally that stops at the last count is what was counted, up to it, whatever else was counted with it.
pub exact_share : (packets lines bad drops : ℕ) (others : Amounts) (old new : Part) → HasCounted (plus (of_tally (tally_of packets lines bad drops)) others) old new → ((count : Count) → share old count ≡ 0) → (count : Count)
    → min (share new count) last_number ≡ min (plus (of_tally (record { packets = packets; lines = lines; bad = bad; dropped = drops })) others count) last_number
exact_share packets lines bad drops others old new h none TotalPackets = omega (arith, h.adds TotalPackets, none TotalPackets)
exact_share packets lines bad drops others old new h none count = omega (arith, h.adds count, none count)
