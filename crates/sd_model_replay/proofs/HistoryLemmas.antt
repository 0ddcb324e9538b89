-- What records ask of a shard: the samples and the tables of its history.
use Rattle.std.proofs.Common.{◌≡◌, ℕ, Bool, true, false, cond, eqb, List, [], ◌∷◌, ◌++◌, map, refl, sym, ap, ◌∙◌}
use Rattle.std.specs.Prelude.{filter_map, Option, None, Some, Result, Ok, Err}
use Rattle.std.proofs.lemmas.List.Elements.{filter_map-append, filter-append}
use Rattle.std.proofs.lemmas.List.Sums.{fold-append}
use Rattle.sd_model_text.specs.Lines.{Sample, samples_of}
use Rattle.sd_model_shard.specs.Shard.{State, empty_state, Cause, Limits, Policy, Event, Submit, Delete, Table, admitted, refusal, step}
use Rattle.sd_model_shard.specs.History.{Act, History, Asked, after, after_all, answered, part_of, state_after, Arrival, arrivals, arrival_in, tables, table_in}
use Rattle.sd_model_shard.proofs.AnsweredLemmas.{answered-append, arrivals-answered}
use Rattle.sd_model_text.specs.Names.{Kind}
use Rattle.sd_model_record.specs.Admin as admin
use Rattle.sd_model_record.specs.Admin.{AdminFault}
use Rattle.sd_model_serve.specs.Rounds.{Round}
use Rattle.sd_model_replay.specs.Replay.{Bounds, Outcome, Played, home_of, events_of_record, history_at, samples_of_record, Run, first_run, acts_of_record, play, run_of, Moment, moments, round_by, rounds}
use Rattle.sd_model_replay.specs.Script.{ScriptCommand, Packet, Flush, Admin}
use Rattle.sd_model_serve.specs.Receiving.{administrator}
use Rattle.sd_model_record.specs.Replies.{admin_events}
use Rattle.sd_model_replay.proofs.Short.{events_at, rounds_from, samples_at}

abbrev arrivals_asked : List Asked → List Arrival
arrivals_asked asked = filter_map (λ q. arrival_in q.who q.event) asked

abbrev at_shard : ℕ → Arrival → ℕ
at_shard shards a = home_of shards a.sample

packet_part : (bounds : Bounds) (i who : ℕ) (samples : List Sample)
    → arrivals_asked (map (λ s. record { who = who; event = Submit s }) (part_of (home_of bounds.shards) i samples)) ≡ part_of (at_shard bounds.shards) i (map (λ s. record { who = who; sample = s }) samples)
packet_part bounds i who [] = refl
packet_part bounds i who (s ∷ samples) = by_test (eqb i (home_of bounds.shards s)) (packet_part bounds i who samples) where
  by_test : (b : Bool)
      → arrivals_asked (map (λ s. record { who = who; event = Submit s }) (part_of (home_of bounds.shards) i samples)) ≡ part_of (at_shard bounds.shards) i (map (λ s. record { who = who; sample = s }) samples)
      → arrivals_asked (map (λ s. record { who = who; event = Submit s }) (cond b (s ∷ part_of (home_of bounds.shards) i samples) (part_of (home_of bounds.shards) i samples)))
      ≡ cond b (record { who = who; sample = s } ∷ part_of (at_shard bounds.shards) i (map (λ s. record { who = who; sample = s }) samples)) (part_of (at_shard bounds.shards) i (map (λ s. record { who = who; sample = s }) samples))
  by_test true h = ap (λ (rest : List Arrival). record { who = who; sample = s } ∷ rest) h
  by_test false h = h

-- admin lines bring no samples
abbrev as_admin : List Event → List Asked
as_admin events = map (λ event. record { who = administrator; event = event }) events

no_arrivals : (kind : Kind) (names : List (List ℕ)) → arrivals_asked (as_admin (map (Delete kind) names)) ≡ []
no_arrivals kind [] = refl
no_arrivals kind (name ∷ names) = no_arrivals kind names

line_part : (answer : Result admin.Command AdminFault) → arrivals_asked (as_admin (admin_events answer)) ≡ []
line_part (Ok admin.Stats) = refl
line_part (Ok admin.Config) = refl
line_part (Ok admin.Quit) = refl
line_part (Ok (admin.Show kind)) = refl
line_part (Ok admin.Totals) = refl
line_part (Ok (admin.Delete kind names)) = no_arrivals kind names
line_part (Ok (admin.Health word)) = refl
line_part (Err fault) = refl

command_part : (bounds : Bounds) (i : ℕ) (c : ScriptCommand) → arrivals_asked (events_of_record bounds.shards i c) ≡ part_of (at_shard bounds.shards) i (samples_of_record c)
command_part bounds i (Packet who moment datagram) = packet_part bounds i who (samples_of datagram)
command_part bounds i (Flush ts) = refl
command_part bounds i (Admin moment line) = line_part (admin.command line)

records_part : (bounds : Bounds) (i : ℕ) (played : List Played) → arrivals_asked (events_at bounds.shards i played) ≡ part_of (at_shard bounds.shards) i (samples_at played)
records_part bounds i [] = refl
records_part bounds i (p ∷ played) =
    let here = arrivals_asked (events_of_record bounds.shards i p.command) in
    filter_map-append (λ (q : Asked). arrival_in q.who q.event) (events_of_record bounds.shards i p.command) (events_at bounds.shards i played)
    ∙ ap (λ (rest : List Arrival). here ++ rest) (records_part bounds i played)
    ∙ ap (λ (prefix : List Arrival). prefix ++ part_of (at_shard bounds.shards) i (samples_at played)) (command_part bounds i p.command)
    ∙ sym (filter-append (λ (a : Arrival). eqb i (at_shard bounds.shards a)) (samples_of_record p.command) (samples_at played))

-- the samples submitted to a shard are those of the records that belong there
pub arrivals-history_at : (bounds : Bounds) (i : ℕ) (played : List Played) → arrivals (history_at bounds i played) ≡ part_of (at_shard bounds.shards) i (samples_at played)
arrivals-history_at bounds i played = arrivals-answered bounds.limits bounds.policy empty_state (events_at bounds.shards i played) ∙ records_part bounds i played

-- samples are answered with no table
no_table : (state : State) (who : ℕ) (s : Sample) (answer : Option Cause) (acts : History) → tables (record { who = who; event = Submit s; reply = (admitted state s answer).reply } ∷ acts) ≡ tables acts
no_table state who s None acts = refl
no_table state who s (Some cause) acts = refl

no_tables : (limits : Limits) (policy : Policy) (state : State) (who : ℕ) (samples : List Sample) → tables (answered limits policy state (map (λ s. record { who = who; event = Submit s }) samples)) ≡ []
no_tables limits policy state who [] = refl
no_tables limits policy state who (s ∷ samples) =
    let next = (admitted state s (refusal limits state s)).state in
    no_table state who s (refusal limits state s) (answered limits policy next (map (λ s. record { who = who; event = Submit s }) samples)) ∙ no_tables limits policy next who samples

-- admin lines are answered with no table
line_tables : (limits : Limits) (policy : Policy) (state : State) (kind : Kind) (names : List (List ℕ)) → tables (answered limits policy state (as_admin (map (Delete kind) names))) ≡ []
line_tables limits policy state kind [] = refl
line_tables limits policy state kind (name ∷ names) = line_tables limits policy (step limits policy state (Delete kind name)).state kind names

no_line_tables : (limits : Limits) (policy : Policy) (state : State) (answer : Result admin.Command AdminFault) → tables (answered limits policy state (as_admin (admin_events answer))) ≡ []
no_line_tables limits policy state (Ok admin.Stats) = refl
no_line_tables limits policy state (Ok admin.Config) = refl
no_line_tables limits policy state (Ok admin.Quit) = refl
no_line_tables limits policy state (Ok (admin.Show kind)) = refl
no_line_tables limits policy state (Ok admin.Totals) = refl
no_line_tables limits policy state (Ok (admin.Delete kind names)) = line_tables limits policy state kind names
no_line_tables limits policy state (Ok (admin.Health word)) = refl
no_line_tables limits policy state (Err fault) = refl

-- the tables of shard i in rounds
abbrev pub tables_at : ℕ → List Round → List Table
tables_at i rs = map (λ r. r.tables i) rs

rounds_of : Run → ScriptCommand → Outcome → List Moment → List Round
rounds_of run c outcome ms = filter_map (λ (m : Moment). round_by m.before m.played.command m.played.outcome) (record { before = run; played = record { command = c; outcome = outcome } } ∷ ms)

one_table : (bounds : Bounds) (i : ℕ) (run : Run) (c : ScriptCommand) (outcome : Outcome) (ms : List Moment)
    → tables (acts_of_record bounds run.shards i c) ++ tables_at i (filter_map (λ (m : Moment). round_by m.before m.played.command m.played.outcome) ms) ≡ tables_at i (rounds_of run c outcome ms)
unfolding rounds_of
one_table bounds i run (Packet who moment datagram) outcome ms =
    ap (λ (ts : List Table). ts ++ tables_at i (filter_map (λ (m : Moment). round_by m.before m.played.command m.played.outcome) ms))
    (no_tables bounds.limits bounds.policy (run.shards i) who (part_of (home_of bounds.shards) i (samples_of datagram)))
one_table bounds i run (Flush ts) outcome ms = refl
one_table bounds i run (Admin moment line) outcome ms =
    ap (λ (ts : List Table). ts ++ tables_at i (filter_map (λ (m : Moment). round_by m.before m.played.command m.played.outcome) ms))
    (no_line_tables bounds.limits bounds.policy (run.shards i) (admin.command line))

tables_from : (bounds : Bounds) (i : ℕ) (run : Run) (played : List Played) → tables (answered bounds.limits bounds.policy (run.shards i) (events_at bounds.shards i played)) ≡ tables_at i (rounds_from bounds run played)
unfolding rounds_of
tables_from bounds i run [] = refl
tables_from bounds i run (p ∷ played) =
    let acts = acts_of_record bounds run.shards i p.command in
    let next = play bounds run p in
    let rest = answered bounds.limits bounds.policy (next.shards i) (events_at bounds.shards i played) in
    ap tables (answered-append bounds.limits bounds.policy (run.shards i) (events_of_record bounds.shards i p.command) (events_at bounds.shards i played))
    ∙ filter_map-append (λ (a : Act). table_in a.reply) acts rest
    ∙ ap (λ (ts : List Table). tables acts ++ ts) (tables_from bounds i next played)
    ∙ one_table bounds i run p.command p.outcome (moments bounds next played)

-- a shard hands out its table in each round
pub tables-history_at : (bounds : Bounds) (i : ℕ) (played : List Played) → tables (history_at bounds i played) ≡ tables_at i (rounds bounds played)
tables-history_at bounds i played = tables_from bounds i (first_run played) played

-- the state of a shard after records, from a state on, is the one after the acts that they ask
state_from : (bounds : Bounds) (i : ℕ) (run : Run) (played : List Played)
    → (run_of bounds run played).shards i ≡ after_all bounds.limits bounds.policy (run.shards i) (answered bounds.limits bounds.policy (run.shards i) (events_at bounds.shards i played))
state_from bounds i run [] = refl
state_from bounds i run (p ∷ played) =
    let acts = acts_of_record bounds run.shards i p.command in
    let next = play bounds run p in
    let rest = answered bounds.limits bounds.policy (next.shards i) (events_at bounds.shards i played) in
    state_from bounds i next played
    ∙ sym (fold-append (after bounds.limits bounds.policy) (run.shards i) acts rest)
    ∙ ap (after_all bounds.limits bounds.policy (run.shards i)) (sym (answered-append bounds.limits bounds.policy (run.shards i) (events_of_record bounds.shards i p.command) (events_at bounds.shards i played)))

pub state-history_at : (bounds : Bounds) (i : ℕ) (played : List Played) → (run_of bounds (first_run played) played).shards i ≡ state_after bounds.limits bounds.policy (history_at bounds i played)
state-history_at bounds i played = state_from bounds i (first_run played) played
