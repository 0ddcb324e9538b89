-- What a script shows over two numbers of shards: both show what is seen of the rows.
use Rattle.std.proofs.Common.{◌≡◌, ℕ, zero, suc, ◌+◌, ◌<◌, ◌≤◌, Bool, true, false, cond, eqb, List, [], ◌∷◌, ◌++◌, map, refl, sym, ap, ◌∙◌, arith}
use Rattle.std.specs.Prelude.{Option, Some, None, flat_map, filter_map, sum_by, Result, Ok, Err}
use Rattle.std.specs.FinMap.{entries, from_entries}
use Rattle.std.specs.List.{range_with_len}
use Rattle.std.proofs.lemmas.List.Folds.{flat_map-map}
use Rattle.std.proofs.lemmas.List.Sums.{sum_by-cons}
use Rattle.std.proofs.lemmas.Simd.{map-map}
use Rattle.sd_model_text.specs.Names.{Kind, shard}
use Rattle.sd_model_text.specs.Lines.{Sample}
use Rattle.sd_model_shard.specs.Rows.{RowId, row_cmp, dump_of, in_key_order}
use Rattle.sd_model_shard.specs.Shard as at_shard
use Rattle.sd_model_shard.specs.Shard.{State, Cause, Limits, Policy, Event, Submit, Swap, Delete, Dump, Look, step, admitted, refusal, deletion_of, after_delete, table_of, Dumped}
use Rattle.sd_model_shard.specs.History.{Act, Asked, answered, dropped_in}
use Rattle.sd_model_shard.proofs.OrderLemmas.{sum_by-flat_map}
use Rattle.sd_model_record.specs.Admin as admin
use Rattle.sd_model_record.specs.Admin.{AdminFault}
use Rattle.sd_model_record.specs.Desk.{Desk, Marks}
use Rattle.sd_model_record.specs.DeskHistory.{desk_step, Add, RepeaterFaults}
use Rattle.sd_model_record.specs.Record.{Record, record_rows}
use Rattle.sd_model_record.specs.Replies.{AdminReply, Stats, Rows, Gone, Finish, Health, reply_text, admin_events, health_after, keys_in, rows_in, names_replied, replies_by}
use Rattle.sd_model_replay.specs.Replay.{Bounds, bounds_of, policy_of, limits_of, Outcome, Played, Run, first_run, events_of_record, acts_of_record, replies_to, desk_after_record, desk_after_line, play, run_of, Moment, moments, form_of, round_by, rounds, deliveries}
use Rattle.sd_model_replay.specs.Script.{ScriptCommand, Packet, Flush, Admin}
use Rattle.sd_model_outside.specs.Uses.{Delivery, failures}
use Rattle.sd_model_outside.specs.Backend.{Backend, at_backend}
use Rattle.sd_model_record.specs.Backends.{text_of}
use Rattle.sd_model_serve.specs.Rounds.{Round, round_record}
use Rattle.sd_law_shards.specs.Records.{records}
use Rattle.sd_model_replay.specs.AccountingTheorem.{broadcasts, replies_in, output_in, output_of}
use Rattle.sd_law_shards.specs.Shards.{NoneDropped, with_shards, ShowsNone, ShowsNoShards, ShowNone}
use Rattle.sd_law_shards.proofs.ViewLemmas.{View, nothing, view-empty}
use Rattle.sd_law_shards.proofs.EventsLemmas.{Reflects, Reflects-command, Reflects-delete, seen_after, seen_left, NoneIn, none_cut}
use Rattle.sd_law_shards.proofs.ReportedLemmas.{keys_alike, rows_alike, values_alike}
use Rattle.sd_model_settings.specs.Settings.{Settings, plan_of, names_of}
use Rattle.sd_model_record.proofs.Short.{table_rows, with_round, keys_reported, rows_reported}
use Rattle.sd_model_replay.proofs.Short.{events_at, rounds_from, packet_tally}
use Rattle.sd_model_shard.proofs.Short.{act_of, causes}
use Rattle.sd_model_serve.specs.Receiving.{replies_at}

-- events of which none is dropped are answered with no drop
sample_answered : (limits : Limits) (policy : Policy) (state : State) (who : ℕ) (s : Sample) (answer : Option Cause) (asked : List Asked)
    → (causes (answered limits policy (admitted state s answer).state asked) ≡ [] → sum_by dropped_in (map (λ (a : Act). a.reply) (answered limits policy (admitted state s answer).state asked)) ≡ 0)
    → causes (record { who = who; event = Submit s; reply = (admitted state s answer).reply } ∷ answered limits policy (admitted state s answer).state asked) ≡ []
    → sum_by dropped_in ((admitted state s answer).reply ∷ map (λ (a : Act). a.reply) (answered limits policy (admitted state s answer).state asked)) ≡ 0
sample_answered limits policy state who s None asked rest none =
    omega (arith, rest none, sum_by-cons dropped_in ((admitted state s None).reply) (map (λ (a : Act). a.reply) (answered limits policy (admitted state s None).state asked)))
sample_answered limits policy state who s (Some cause) asked rest none = absurd (cc)

none_answered : (limits : Limits) (policy : Policy) (state : State) (asked : List Asked) → causes (answered limits policy state asked) ≡ [] → sum_by dropped_in (map (λ (a : Act). a.reply) (answered limits policy state asked)) ≡ 0
none_answered limits policy state [] none = refl
none_answered limits policy state (q ∷ asked) none = by_event q.who q.event (λ h. none_answered limits policy (step limits policy state q.event).state asked h) none where
  by_event : (who : ℕ) (event : Event)
      → (causes (answered limits policy (step limits policy state event).state asked) ≡ [] → sum_by dropped_in (map (λ (a : Act). a.reply) (answered limits policy (step limits policy state event).state asked)) ≡ 0)
      → causes (act_of limits policy state who event ∷ answered limits policy (step limits policy state event).state asked) ≡ []
      → sum_by dropped_in ((step limits policy state event).reply ∷ map (λ (a : Act). a.reply) (answered limits policy (step limits policy state event).state asked)) ≡ 0
  by_event who (Submit s) rest none = sample_answered limits policy state who s (refusal limits state s) asked rest none
  by_event who Swap rest none = omega (arith, rest none, sum_by-cons dropped_in ((step limits policy state Swap).reply) (map (λ (a : Act). a.reply) (answered limits policy (step limits policy state Swap).state asked)))
  by_event who (Delete kind pattern) rest none =
      omega (arith, rest none, sum_by-cons dropped_in ((step limits policy state (Delete kind pattern)).reply) (map (λ (a : Act). a.reply) (answered limits policy (step limits policy state (Delete kind pattern)).state asked)))
  by_event who (Dump kind) rest none =
      omega (arith, rest none, sum_by-cons dropped_in ((step limits policy state (Dump kind)).reply) (map (λ (a : Act). a.reply) (answered limits policy state asked)))
  by_event who Look rest none =
      omega (arith, rest none, sum_by-cons dropped_in ((step limits policy state Look).reply) (map (λ (a : Act). a.reply) (answered limits policy state asked)))

-- a sum over all shards of what is 0 in each
pub none_summed : (f : ℕ → ℕ) (shards start count : ℕ) → start + count ≤ shards → ((i : ℕ) → i < shards → f i ≡ 0) → sum_by f (range_with_len start count) ≡ 0
none_summed f shards start zero within none = refl
none_summed f shards start (suc count) within none =
    omega (arith, none start (omega arith), none_summed f shards (start + 1) count (omega arith) none, sum_by-cons f start (range_with_len (start + 1) count))

none_replied : (bounds : Bounds) (run : Run) (c : ScriptCommand) → NoneIn bounds run c → sum_by dropped_in (replies_to bounds run.shards c) ≡ 0
none_replied bounds run c none =
    sum_by-flat_map dropped_in (λ i. map (λ (a : Act). a.reply) (acts_of_record bounds run.shards i c)) (range_with_len 0 bounds.shards)
    ∙ none_summed (λ i. sum_by dropped_in (map (λ (a : Act). a.reply) (acts_of_record bounds run.shards i c))) bounds.shards 0 bounds.shards (omega arith)
    (λ i below. none_answered bounds.limits bounds.policy (run.shards i) (events_of_record bounds.shards i c) (none i below))

-- the answers of all shards to the n-th of events
abbrev pub answers_at : Bounds → (ℕ → State) → List Event → ℕ → List at_shard.Reply
answers_at bounds states events n = replies_at bounds.shards (broadcasts bounds states events) n

module _ (limits : Limits) (policy : Policy) (n m : ℕ) (some_n : 1 ≤ n) (some_m : 1 ≤ m) where
  abbrev answers : ℕ → (ℕ → State) → List Event → ℕ → List at_shard.Reply
  answers shards states events k = answers_at (record { shards = shards; limits = limits; policy = policy }) states events k

  -- what a name deletes in all shards
  names_alike : (states others : ℕ → State) (seen : RowId → View) → Reflects n states seen → Reflects m others seen → (kind : Kind) (names : List (List ℕ)) (k : ℕ)
      → keys_reported (answers n states (map (Delete kind) names) k) ≡ keys_reported (answers m others (map (Delete kind) names) k)
  names_alike states others seen h g kind [] k = refl
  names_alike states others seen h g kind (name ∷ names) zero =
      ap (in_key_order (λ (key : List ℕ). key)) (flat_map-map keys_in (λ i. deletion_of kind name (states i)) (range_with_len 0 n))
      ∙ keys_alike n m some_n some_m states others seen h g kind name
      ∙ sym (ap (in_key_order (λ (key : List ℕ). key)) (flat_map-map keys_in (λ i. deletion_of kind name (others i)) (range_with_len 0 m)))
  names_alike states others seen h g kind (name ∷ names) (suc k) =
      names_alike (λ i. after_delete kind name (states i)) (λ i. after_delete kind name (others i)) (seen_left kind name seen) (Reflects-delete kind name n states seen h) (Reflects-delete kind name m others seen g) kind names k

-- Two runs that show the same: both reflect what is seen of the rows, and their desks are one.
record AreAlike (n m : ℕ) (one other : Run) (seen : RowId → View) : Type 0 where
  left : Reflects n one.shards seen
  right : Reflects m other.shards seen
  desk : one.desk ≡ other.desk

-- at the start nothing is seen
alike_first : (n m : ℕ) (played : List Played) → AreAlike n m (first_run played) (first_run played) (λ id. nothing)
alike_first n m played = record { left = start n; right = start m; desk = refl } where
  either_nothing : (b : Bool) → cond b nothing nothing ≡ nothing
  either_nothing true = refl
  either_nothing false = refl

  start : (shards : ℕ) → Reflects shards (first_run played).shards (λ id. nothing)
  start shards i below id = view-empty id ∙ sym (either_nothing (eqb i (shard id.key shards)))

-- no shard drops a sample of records, from a state on
abbrev pub NoneFrom : Bounds → Run → List Played → Type 0
NoneFrom bounds run played = (i : ℕ) → i < bounds.shards → causes (answered bounds.limits bounds.policy (run.shards i) (events_at bounds.shards i played)) ≡ []

-- no drop in a record and those behind it
pub none_first : (bounds : Bounds) (run : Run) (p : Played) (played : List Played) → NoneFrom bounds run (p ∷ played) → NoneIn bounds run p.command
none_first bounds run p played none i below = (none_cut bounds.limits bounds.policy (run.shards i) (events_of_record bounds.shards i p.command) (events_at bounds.shards i played) (none i below)).0

pub none_behind : (bounds : Bounds) (run : Run) (p : Played) (played : List Played) → NoneFrom bounds run (p ∷ played) → NoneFrom bounds (play bounds run p) played
none_behind bounds run p played none i below = (none_cut bounds.limits bounds.policy (run.shards i) (events_of_record bounds.shards i p.command) (events_at bounds.shards i played) (none i below)).1

-- the rounds among a record and the moments behind it
abbrev pub rounds_with : Run → ScriptCommand → Outcome → List Moment → List Round
rounds_with run c outcome ms = filter_map (λ (m : Moment). round_by m.before m.played.command m.played.outcome) (record { before = run; played = record { command = c; outcome = outcome } } ∷ ms)

module _ (settings : Settings) (n m : ℕ) (some_n : 1 ≤ n) (some_m : 1 ≤ m) where
  abbrev S : Settings
  S = with_shards n settings

  abbrev T : Settings
  T = with_shards m settings

  desk_alike : (one another : Run) (c : ScriptCommand) (outcome : Outcome) → one.desk ≡ another.desk → NoneIn (bounds_of S) one c → NoneIn (bounds_of T) another c
      → desk_after_record one.desk c (replies_to (bounds_of S) one.shards c) outcome ≡ desk_after_record another.desk c (replies_to (bounds_of T) another.shards c) outcome
  desk_alike one another (Packet who moment datagram) outcome same none_n none_m =
      let drops = none_replied (bounds_of S) one (Packet who moment datagram) none_n ∙ sym (none_replied (bounds_of T) another (Packet who moment datagram) none_m) in
      λ k. desk_step (desk_step (same k) (Add (packet_tally datagram (drops k)) moment)) (RepeaterFaults (failures outcome.failed))
  desk_alike one another (Flush ts) outcome same none_n none_m = ap (λ (desk : Desk). with_round desk outcome.marks) same
  desk_alike one another (Admin moment line) outcome same none_n none_m = ap (λ (desk : Desk). desk_after_line desk (admin.command line)) same

  alike_after : (one another : Run) (seen : RowId → View) (p : Played) → AreAlike n m one another seen → NoneIn (bounds_of S) one p.command → NoneIn (bounds_of T) another p.command
      → AreAlike n m (play (bounds_of S) one p) (play (bounds_of T) another p) (seen_after (policy_of settings) seen p.command)
  alike_after one another seen p h none_n none_m = record {
    left = Reflects-command (bounds_of S) one seen p.command none_n h.left;
    right = Reflects-command (bounds_of T) another seen p.command none_m h.right;
    desk = desk_alike one another p.command p.outcome h.desk none_n none_m;
  }

  -- the round that a flush is in a state
  abbrev round_in : Run → ℕ → Marks → Round
  round_in run ts marks = record { ts = ts; tally = run.desk.tally; tables = λ i. table_of (run.shards i); marks = marks }

  -- the records of a flush
  record_alike : (one another : Run) (seen : RowId → View) (ts : ℕ) (marks : Marks) → AreAlike n m one another seen
      → round_record (form_of S) (round_in one ts marks) ≡ round_record (form_of T) (round_in another ts marks)
  record_alike one another seen ts marks h =
      let listed : (shards : ℕ) (run : Run) → flat_map (table_rows (plan_of settings)) (map (λ i. table_of (run.shards i)) (range_with_len 0 shards)) ≡ flat_map (λ i. table_rows (plan_of settings) (table_of (run.shards i))) (range_with_len 0 shards) =
      λ shards run. flat_map-map (table_rows (plan_of settings)) (λ i. table_of (run.shards i)) (range_with_len 0 shards) in
      let rows : record_rows (plan_of settings) (map (λ i. table_of (one.shards i)) (range_with_len 0 n)) ≡ record_rows (plan_of settings) (map (λ i. table_of (another.shards i)) (range_with_len 0 m)) =
      ap (λ es. map (λ e. e.1) (entries (from_entries {R = row_cmp} es))) (listed n one)
      ∙ ap (λ rows. map (λ e. e.1) (entries rows)) (values_alike (plan_of settings) n m some_n some_m one.shards another.shards seen h.left h.right)
      ∙ sym (ap (λ es. map (λ e. e.1) (entries (from_entries {R = row_cmp} es))) (listed m another)) in
      λ k. record { rows = rows k; tally = (h.desk k).tally; ts = ts; interval_ms = (plan_of settings).interval_ms; calculated = (plan_of settings).calculated }

  -- a round's record and its marks
  abbrev recorded : Settings → Round → Record × Marks
  recorded settings r = (round_record (form_of settings) r, r.marks)

  rounds_alike : (one another : Run) (seen : RowId → View) (played : List Played) → AreAlike n m one another seen → NoneFrom (bounds_of S) one played → NoneFrom (bounds_of T) another played
      → map (recorded S) (rounds_from (bounds_of S) one played) ≡ map (recorded T) (rounds_from (bounds_of T) another played)
  rounds_alike one another seen [] h none_n none_m = refl
  rounds_alike one another seen (p ∷ played) h none_n none_m =
      by_command p.command p.outcome
      (rounds_alike (play (bounds_of S) one p) (play (bounds_of T) another p) (seen_after (policy_of settings) seen p.command) played (alike_after one another seen p h (none_first (bounds_of S) one p played none_n) (none_first (bounds_of T) another p played none_m))
      (none_behind (bounds_of S) one p played none_n) (none_behind (bounds_of T) another p played none_m)) where
        by_command : (c : ScriptCommand) (outcome : Outcome)
            → map (recorded S) (rounds_from (bounds_of S) (play (bounds_of S) one p) played) ≡ map (recorded T) (rounds_from (bounds_of T) (play (bounds_of T) another p) played)
            → map (recorded S) (rounds_with one c outcome (moments (bounds_of S) (play (bounds_of S) one p) played)) ≡ map (recorded T) (rounds_with another c outcome (moments (bounds_of T) (play (bounds_of T) another p) played))
        by_command (Packet who moment datagram) outcome rest = rest
        by_command (Flush ts) outcome rest = λ k. (record_alike one another seen ts outcome.marks h k, outcome.marks) ∷ rest k
        by_command (Admin moment line) outcome rest = rest

  pub records_alike : (played : List Played) → NoneDropped (bounds_of S) played → NoneDropped (bounds_of T) played → records S played ≡ records T played
  records_alike played none_n none_m =
      sym (map-map (λ (r : Record × Marks). r.0) (recorded S) (rounds (bounds_of S) played))
      ∙ ap (map (λ (r : Record × Marks). r.0)) (rounds_alike (first_run played) (first_run played) (λ id. nothing) played (alike_first n m played) none_n none_m)
      ∙ map-map (λ (r : Record × Marks). r.0) (recorded T) (rounds (bounds_of T) played)

  pub deliveries_alike : (played : List Played) → NoneDropped (bounds_of S) played → NoneDropped (bounds_of T) played → (back : Backend) → deliveries S back played ≡ deliveries T back played
  deliveries_alike played none_n none_m back =
      let deliver : Settings → Record × Marks → Delivery = λ s r. record { text = text_of (names_of s) back r.0; mark = at_backend r.1 back } in
      sym (map-map (deliver S) (recorded S) (rounds (bounds_of S) played))
      ∙ ap (map (deliver S)) (rounds_alike (first_run played) (first_run played) (λ id. nothing) played (alike_first n m played) none_n none_m)
      ∙ map-map (deliver T) (recorded T) (rounds (bounds_of T) played)

  -- the replies to a line, by its command
  names_reported : (names : List (List ℕ)) (answers others : ℕ → List at_shard.Reply) → ((k : ℕ) → keys_reported (answers k) ≡ keys_reported (others k)) → names_replied answers names ≡ names_replied others names
  names_reported [] answers others same = refl
  names_reported (name ∷ names) answers others same = λ k. Gone name (same 0 k) ∷ names_reported names (λ j. answers (j + 1)) (λ j. others (j + 1)) (λ j. same (j + 1)) k

  abbrev line_replied : Settings → Run → ℕ → List ℕ → Result admin.Command AdminFault → List AdminReply
  line_replied s run moment line answer = replies_by false (answers_at (bounds_of s) run.shards (admin_events (admin.command line))) run.desk.facts s moment answer

  line_alike : (one another : Run) (seen : RowId → View) (moment : ℕ) (line : List ℕ) (answer : Result admin.Command AdminFault) → admin.command line ≡ answer → ShowsNoShards answer → AreAlike n m one another seen
      → line_replied S one moment line answer ≡ line_replied T another moment line answer
  line_alike one another seen moment line (Ok admin.Stats) is shows h = ap (λ (desk : Desk). Stats desk.facts moment ∷ []) h.desk
  line_alike one another seen moment line (Ok admin.Totals) is shows h = absurd (shows.1 refl)
  line_alike one another seen moment line (Ok admin.Config) is shows h = absurd (shows.0 refl)
  line_alike one another seen moment line (Ok admin.Quit) is shows h = refl
  line_alike one another seen moment line (Ok (admin.Show kind)) is shows h = ap (λ rows. Rows kind rows ∷ []) (
      ap (λ answer. rows_reported (answers_at (bounds_of S) one.shards (admin_events answer) 0)) is
      ∙ ap (in_key_order (λ row. row.key)) (flat_map-map rows_in (λ i. Dumped (dump_of kind (one.shards i).live)) (range_with_len 0 n))
      ∙ rows_alike n m some_n some_m one.shards another.shards seen h.left h.right kind
      ∙ sym (ap (in_key_order (λ row. row.key)) (flat_map-map rows_in (λ i. Dumped (dump_of kind (another.shards i).live)) (range_with_len 0 m)))
      ∙ sym (ap (λ answer. rows_reported (answers_at (bounds_of T) another.shards (admin_events answer) 0)) is))
  line_alike one another seen moment line (Ok (admin.Delete kind names)) is shows h = ap (λ replies. replies ++ Finish ∷ []) (
      names_reported names (answers_at (bounds_of S) one.shards (admin_events (admin.command line))) (answers_at (bounds_of T) another.shards (admin_events (admin.command line))) (λ k.
      ap (λ answer. keys_reported (answers_at (bounds_of S) one.shards (admin_events answer) k)) is
      ∙ names_alike (limits_of settings) (policy_of settings) n m some_n some_m one.shards another.shards seen h.left h.right kind names k
      ∙ sym (ap (λ answer. keys_reported (answers_at (bounds_of T) another.shards (admin_events answer) k)) is)))
  line_alike one another seen moment line (Ok (admin.Health word)) is shows h = ap (λ (desk : Desk). Health (health_after word desk.facts.up) ∷ []) h.desk
  line_alike one another seen moment line (Err fault) is shows h = refl

  replies_alike : (one another : Run) (seen : RowId → View) (c : ScriptCommand) → ShowsNone c → AreAlike n m one another seen → replies_in S one c ≡ replies_in T another c
  replies_alike one another seen (Packet who moment datagram) shows h = refl
  replies_alike one another seen (Flush ts) shows h = refl
  replies_alike one another seen (Admin moment line) shows h = line_alike one another seen moment line (admin.command line) refl shows h

  outputs_alike : (one another : Run) (seen : RowId → View) (played : List Played) → AreAlike n m one another seen → NoneFrom (bounds_of S) one played → NoneFrom (bounds_of T) another played → ShowNone played
      → flat_map (λ (m : Moment). output_in S m.before m.played.command) (moments (bounds_of S) one played) ≡ flat_map (λ (m : Moment). output_in T m.before m.played.command) (moments (bounds_of T) another played)
  outputs_alike one another seen [] h none_n none_m shows = refl
  outputs_alike one another seen (p ∷ played) h none_n none_m shows =
      let here = ap (flat_map reply_text) (replies_alike one another seen p.command shows.0 h) in
      let rest = outputs_alike (play (bounds_of S) one p) (play (bounds_of T) another p) (seen_after (policy_of settings) seen p.command) played (alike_after one another seen p h (none_first (bounds_of S) one p played none_n) (none_first (bounds_of T) another p played none_m))
      (none_behind (bounds_of S) one p played none_n) (none_behind (bounds_of T) another p played none_m) shows.1 in
      λ k. here k ++ rest k

  pub output_alike : (played : List Played) → NoneDropped (bounds_of S) played → NoneDropped (bounds_of T) played → ShowNone played → output_of S played ≡ output_of T played
  output_alike played none_n none_m shows = outputs_alike (first_run played) (first_run played) (λ id. nothing) played (alike_first n m played) none_n none_m shows

  desks_alike : (one another : Run) (seen : RowId → View) (played : List Played) → AreAlike n m one another seen → NoneFrom (bounds_of S) one played → NoneFrom (bounds_of T) another played → (run_of (bounds_of S) one played).desk ≡ (run_of (bounds_of T) another played).desk
  desks_alike one another seen [] h none_n none_m = h.desk
  desks_alike one another seen (p ∷ played) h none_n none_m =
      desks_alike (play (bounds_of S) one p) (play (bounds_of T) another p) (seen_after (policy_of settings) seen p.command) played (alike_after one another seen p h (none_first (bounds_of S) one p played none_n) (none_first (bounds_of T) another p played none_m))
      (none_behind (bounds_of S) one p played none_n) (none_behind (bounds_of T) another p played none_m)

  pub desk_at_end : (played : List Played) → NoneDropped (bounds_of S) played → NoneDropped (bounds_of T) played → (run_of (bounds_of S) (first_run played) played).desk ≡ (run_of (bounds_of T) (first_run played) played).desk
  desk_at_end played none_n none_m = desks_alike (first_run played) (first_run played) (λ id. nothing) played (alike_first n m played) none_n none_m
