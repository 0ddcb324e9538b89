-- A shard has rows of its own keys alone, whether or not samples are dropped. So no row and no key stands twice in what all
-- shards tell.
use Rattle.std.proofs.Common.{◌≡◌, ℕ, ◌<◌, Bool, true, false, cond, ◌||◌, eqb, List, [], ◌∷◌, ◌++◌, map, refl, sym, ap, subst, ◌∙◌}
use Rattle.std.specs.Prelude.{⊤, Option, Some, None, not, option_map, option_and_then, is_some, flat_map, Result, Ok, Err}
use Rattle.std.specs.List.{AllByRecursion, IsDistinct, list_any, range_with_len}
use Rattle.std.specs.Ordering.{nat_cmp, eq_by_cmp}
use Rattle.std.specs.Cmp.Lexicographic.{slice_cmp}
use Rattle.std.specs.FinMap.{contains_key, entries, entries_sorted, find, get, get-empty, get-entries, retain_keys}
use Rattle.std.specs.FinMap.Entries.{is_some-find}
use Rattle.std.proofs.lemmas.Bool.{eqb-true}
use Rattle.std.proofs.lemmas.List.{map-append}
use Rattle.sd_model_text.specs.Names.{Kind, shard}
use Rattle.sd_model_text.specs.Lines.{Sample, samples_of}
use Rattle.sd_model_shard.specs.Rows.{RowId, row_cmp, Kept, row_of, is_same_row, row_in, DumpRow, dump_of, is_hit, is_of_kind, keys_of, rows_taken_out}
use Rattle.sd_model_shard.specs.Shard.{State, Cause, Limits, Policy, Event, Submit, Swap, Delete, Dump, Look, step, admitted, refusal, left_of, after_swap, after_delete, empty_state, Table}
use Rattle.sd_model_shard.specs.History.{Asked, part_of}
use Rattle.sd_model_shard.proofs.RowLemmas.{rows_total}
use Rattle.sd_model_shard.proofs.SummaryLemmas.{get-kept_rows, get-touched}
use Rattle.sd_model_shard.proofs.DeletionLemmas.{get-rows_left}
use Rattle.sd_model_shard.proofs.EntryLemmas.{StandApart, StandApart-sorted}
use Rattle.sd_model_record.specs.Admin as admin
use Rattle.sd_model_record.specs.Admin.{AdminFault}
use Rattle.sd_model_serve.specs.Rounds.{Round}
use Rattle.sd_model_replay.specs.Replay.{Bounds, Outcome, Played, Run, first_run, events_of_record, states_after, play, run_of, moments, rounds}
use Rattle.sd_model_replay.specs.Script.{ScriptCommand, Packet, Flush, Admin}
use Rattle.sd_model_record.specs.Replies.{admin_events}
use Rattle.sd_model_shard.proofs.ReportedLemmas.{by_key}
use Rattle.sd_model_record.proofs.OrderLemmas.{StandOnce, StandOnce-shards, StandApart-shards, keys_once, rows_once, hit_of_kind}
use Rattle.sd_law_shards.specs.Shards.{AtHome, rows_taken}
use Rattle.sd_law_shards.proofs.ViewLemmas.{after_asked}
use Rattle.sd_law_shards.proofs.EventsLemmas.{asks, submits, other_row}
use Rattle.sd_law_shards.proofs.ReportedLemmas.{find_retained}
use Rattle.sd_law_shards.proofs.ShownLemmas.{rounds_with}
use Rattle.sd_model_replay.proofs.Short.{rounds_from}
use Rattle.sd_model_shard.proofs.Short.{sampled, dump_row}

-- an event that isn't a sample of this row
abbrev pub IsForeign : RowId → Event → Type 0
IsForeign id (Submit s) = is_same_row id (row_of s) ≡ false
IsForeign id event = ⊤

abbrev pub AreForeign : RowId → List Asked → Type 0
AreForeign id asked = AllByRecursion (λ q. IsForeign id q.event) asked

neither : (b : Bool) (o : Option Kept) → o ≡ None → cond b o None ≡ None
neither true o h = h
neither false o h = refl

absent_sample : (state : State) (s : Sample) (answer : Option Cause) (id : RowId) → is_same_row id (row_of s) ≡ false → get state.live id ≡ None → get (admitted state s answer).state.live id ≡ None
absent_sample state s None id foreign none =
    get-touched state.live s id ∙ ap (λ t. cond t (Some (sampled s.kind (row_in state.live (row_of s)) s)) (get state.live id)) foreign ∙ none
absent_sample state s (Some cause) id foreign none = none

absent_delete : (kind : Kind) (pattern : List ℕ) (state : State) (id : RowId) → get state.live id ≡ None → get (after_delete kind pattern state).live id ≡ None
absent_delete kind pattern state id none = get-rows_left kind pattern state.live id ∙ neither (not (is_hit kind pattern id)) (get state.live id) none

absent_step : (limits : Limits) (policy : Policy) (state : State) (event : Event) (id : RowId) → IsForeign id event → get state.live id ≡ None → get (step limits policy state event).state.live id ≡ None
absent_step limits policy state (Submit s) id foreign none = absent_sample state s (refusal limits state s) id foreign none
absent_step limits policy state Swap id foreign none = get-kept_rows policy state.live id ∙ ap (option_and_then (left_of policy id)) none
absent_step limits policy state (Delete kind pattern) id foreign none = absent_delete kind pattern state id none
absent_step limits policy state (Dump kind) id foreign none = none
absent_step limits policy state Look id foreign none = none

absent_asked : (limits : Limits) (policy : Policy) (state : State) (asked : List Asked) (id : RowId) → AreForeign id asked → get state.live id ≡ None → get (after_asked limits policy state asked).live id ≡ None
absent_asked limits policy state [] id foreign none = none
absent_asked limits policy state (q ∷ asked) id foreign none = absent_asked limits policy (step limits policy state q.event).state asked id foreign.1 (absent_step limits policy state q.event id foreign.0 none)

-- the samples of a shard are of none of the rows of others
pub foreign_samples : (shards i : ℕ) (id : RowId) → eqb i (shard id.key shards) ≡ false → (who : ℕ) (samples : List Sample) → AreForeign id (submits who (part_of (λ s. shard s.key shards) i samples))
foreign_samples shards i id away who [] = tt
foreign_samples shards i id away who (s ∷ samples) = by_test (eqb i (shard s.key shards)) refl (foreign_samples shards i id away who samples) where
  by_test : (b : Bool) → eqb i (shard s.key shards) ≡ b → AreForeign id (submits who (part_of (λ s. shard s.key shards) i samples))
      → AreForeign id (submits who (cond b (s ∷ part_of (λ s. shard s.key shards) i samples) (part_of (λ s. shard s.key shards) i samples)))
  by_test true here rest = (other_row shards i id s false away here, rest)
  by_test false here rest = rest

module _ (bounds : Bounds) (i : ℕ) (id : RowId) (away : eqb i (shard id.key bounds.shards) ≡ false) where
  foreign_names : (kind : Kind) (names : List (List ℕ)) → AreForeign id (asks (map (Delete kind) names))
  foreign_names kind [] = tt
  foreign_names kind (name ∷ names) = (tt, foreign_names kind names)

  foreign_line : (answer : Result admin.Command AdminFault) → AreForeign id (asks (admin_events answer))
  foreign_line (Ok admin.Stats) = tt
  foreign_line (Ok admin.Config) = tt
  foreign_line (Ok admin.Quit) = tt
  foreign_line (Ok (admin.Show kind)) = (tt, tt)
  foreign_line (Ok admin.Totals) = (tt, tt)
  foreign_line (Ok (admin.Delete kind names)) = foreign_names kind names
  foreign_line (Ok (admin.Health word)) = tt
  foreign_line (Err fault) = tt

  foreign_command : (c : ScriptCommand) → AreForeign id (events_of_record bounds.shards i c)
  foreign_command (Packet who moment datagram) = foreign_samples bounds.shards i id away who (samples_of datagram)
  foreign_command (Flush ts) = (tt, tt)
  foreign_command (Admin moment line) = foreign_line (admin.command line)

-- nor does one get such a row by a record
pub AtHome-after : (bounds : Bounds) (states : ℕ → State) (c : ScriptCommand) → AtHome bounds.shards states → AtHome bounds.shards (states_after bounds states c)
AtHome-after bounds states c h i id away = absent_asked bounds.limits bounds.policy (states i) (events_of_record bounds.shards i c) id (foreign_command bounds i id away c) (h i id away)

pub AtHome-first : (shards : ℕ) (played : List Played) → AtHome shards (first_run played).shards
AtHome-first shards played i id away = get-empty row_cmp id

at_home_from : (bounds : Bounds) (run : Run) (played : List Played) → AtHome bounds.shards run.shards → AtHome bounds.shards (run_of bounds run played).shards
at_home_from bounds run [] h = h
at_home_from bounds run (p ∷ played) h = at_home_from bounds (play bounds run p) played (AtHome-after bounds run.shards p.command h)

pub AtHome-run : (bounds : Bounds) (played : List Played) → AtHome bounds.shards (run_of bounds (first_run played) played).shards
AtHome-run bounds played = at_home_from bounds (first_run played) played (AtHome-first bounds.shards played)

pub AtHome-delete : (kind : Kind) (name : List ℕ) (shards : ℕ) (states : ℕ → State) → AtHome shards states → AtHome shards (λ i. after_delete kind name (states i))
AtHome-delete kind name shards states h i id away = absent_delete kind name (states i) id (h i id away)

pub AtHome-swap : (policy : Policy) (shards : ℕ) (states : ℕ → State) → AtHome shards states → AtHome shards (λ i. after_swap policy (states i))
AtHome-swap policy shards states h i id away = get-kept_rows policy (states i).live id ∙ ap (option_and_then (left_of policy id)) (h i id away)

-- a row stands in the shard of its key
pub home_of_row : (shards : ℕ) (states : ℕ → State) → AtHome shards states → (i : ℕ) (id : RowId) → contains_key (states i).live id ≡ true → shard id.key shards ≡ i
home_of_row shards states h i id has = by_place (eqb i (shard id.key shards)) refl where
  by_place : (b : Bool) → eqb i (shard id.key shards) ≡ b → shard id.key shards ≡ i
  by_place true is = sym (eqb-true i (shard id.key shards) is)
  by_place false is = absurd (let both = sym (ap is_some (h i id is)) ∙ has in cc)

any_key : {K X : Type 0} (p : K → Bool) (es : List (K × X)) → list_any p (map (λ e. e.0) es) ≡ list_any (λ e. p e.0) es
any_key p [] = refl
any_key p (e ∷ es) = ap (λ b. p e.0 || b) (any_key p es)

-- what a key finds, where it stands in a list
is_found : {X : Type 0} (q : RowId) (es : List (RowId × X)) → list_any (λ other. eq_by_cmp row_cmp q other.0) es ≡ true → is_some (find row_cmp q es) ≡ true
is_found q es has = is_some-find row_cmp q es ∙ any_key (eq_by_cmp row_cmp q) es ∙ has

is_reported : {X : Type 0} (q : List ℕ) (es : List (List ℕ × X)) → list_any (λ other. eq_by_cmp (slice_cmp nat_cmp) q other.0) es ≡ true → is_some (find (slice_cmp nat_cmp) q es) ≡ true
is_reported q es has = is_some-find (slice_cmp nat_cmp) q es ∙ any_key (eq_by_cmp (slice_cmp nat_cmp) q) es ∙ has

some_mapped : {X Y : Type 0} (f : X → Y) (o : Option X) → is_some (option_map f o) ≡ true → is_some o ≡ true
some_mapped f None h = absurd (cc)
some_mapped f (Some x) h = refl

some_passed : (b : Bool) (o : Option Kept) → is_some (cond b o None) ≡ true → is_some o ≡ true
some_passed true o h = h
some_passed false o h = absurd (cc)

module _ (shards : ℕ) (states : ℕ → State) (h : AtHome shards states) where
  -- no row stands twice in the tables of all shards
  pub rows_apart : StandApart row_cmp (flat_map (λ i. entries (states i).live) (range_with_len 0 shards))
  rows_apart =
      StandApart-shards row_cmp rows_total (λ id. shard id.key shards) (λ i. entries (states i).live) shards
      (λ i below. StandApart-sorted row_cmp (entries (states i).live) (entries_sorted (states i).live))
      (λ i below q has. home_of_row shards states h i q (ap is_some (get-entries (states i).live q) ∙ is_found q (entries (states i).live) has))

  -- no key stands twice in what all shards tell of rows of one kind
  reported_apart : {X : Type 0} (key : X → List ℕ) (kind : Kind) (p : RowId → Bool) → ((id : RowId) → p id ≡ true → is_of_kind kind id ≡ true) → (f : State → RowId × Kept → X)
      → ((state : State) (e : RowId × Kept) → key (f state e) ≡ e.0.key) → ((i : ℕ) → i < shards → StandOnce key (map (f (states i)) (entries (retain_keys (states i).live p))))
      → StandOnce key (flat_map (λ i. map (f (states i)) (entries (retain_keys (states i).live p))) (range_with_len 0 shards))
  reported_apart key kind p tells f same once =
      StandOnce-shards key (λ q. shard q shards) (λ i. map (f (states i)) (entries (retain_keys (states i).live p))) shards once
      (λ i below q has.
      let id : RowId = record { kind = kind; key = q } in
      home_of_row shards states h i id
      (some_passed (p id) (get (states i).live id)
      (some_mapped (λ kept. f (states i) (id, kept)) (cond (p id) (get (states i).live id) None)
      (ap is_some (sym (find_retained key kind p tells (f (states i)) (same (states i)) (states i).live q)) ∙ is_reported q (by_key key (map (f (states i)) (entries (retain_keys (states i).live p)))) has))))

  pub all_keys_once : (kind : Kind) (name : List ℕ) → StandOnce (λ key. key) (flat_map (λ i. keys_of (rows_taken_out kind name (states i).live)) (range_with_len 0 shards))
  all_keys_once kind name =
      reported_apart (λ (key : List ℕ). key) kind (is_hit kind name) (hit_of_kind kind name) (λ state row. row.0.key) (λ state e. refl) (λ i below. keys_once kind name (states i).live)

  pub all_rows_once : (kind : Kind) → StandOnce (λ (row : DumpRow). row.key) (flat_map (λ i. dump_of kind (states i).live) (range_with_len 0 shards))
  all_rows_once kind =
      reported_apart (λ (row : DumpRow). row.key) kind (is_of_kind kind) (λ id is. is) (λ state. dump_row) (λ state e. refl) (λ i below. rows_once kind (states i).live)

-- the tables of a round are at home, as states are
abbrev pub TablesAtHome : ℕ → (ℕ → Table) → Type 0
TablesAtHome shards tables = AtHome shards (λ i. record empty_state { live = (tables i).live })

-- in each round the rows are at home
rounds_at_home : (bounds : Bounds) (run : Run) (played : List Played) → AtHome bounds.shards run.shards → AllByRecursion (λ r. TablesAtHome bounds.shards r.tables) (rounds_from bounds run played)
rounds_at_home bounds run [] h = tt
rounds_at_home bounds run (p ∷ played) h = by_command p.command p.outcome (rounds_at_home bounds (play bounds run p) played (AtHome-after bounds run.shards p.command h)) where
  by_command : (c : ScriptCommand) (outcome : Outcome) → AllByRecursion (λ r. TablesAtHome bounds.shards r.tables) (rounds_from bounds (play bounds run p) played)
      → AllByRecursion (λ r. TablesAtHome bounds.shards r.tables) (rounds_with run c outcome (moments bounds (play bounds run p) played))
  by_command (Packet who moment datagram) outcome rest = rest
  by_command (Flush ts) outcome rest = (h, rest)
  by_command (Admin moment line) outcome rest = rest

pub AtHome-rounds : (bounds : Bounds) (played : List Played) → AllByRecursion (λ r. TablesAtHome bounds.shards r.tables) (rounds bounds played)
AtHome-rounds bounds played = rounds_at_home bounds (first_run played) played (AtHome-first bounds.shards played)

-- ids of rows that stand apart
distinct_ids : (es : List (RowId × Kept)) → StandApart row_cmp es → IsDistinct is_same_row (map (λ (e : RowId × Kept). e.0) es)
unfolding IsDistinct
distinct_ids [] apart = tt
distinct_ids (e ∷ es) apart = (others es apart.0, distinct_ids es apart.1) where
  both : (a b : Bool) → (a || b) ≡ false → (a ≡ false) × (b ≡ false)
  both true b h = absurd (cc)
  both false b h = (refl, h)

  others : (ds : List (RowId × Kept)) → list_any (λ other. is_same_row e.0 other.0) ds ≡ false → AllByRecursion (λ id. is_same_row e.0 id ≡ false) (map (λ (d : RowId × Kept). d.0) ds)
  others [] h = tt
  others (d ∷ ds) h =
      let parts = both (is_same_row e.0 d.0) (list_any (λ other. is_same_row e.0 other.0) ds) h in
      (parts.0, others ds parts.1)

ids_listed : (g : ℕ → List (RowId × Kept)) (is : List ℕ) → map (λ (e : RowId × Kept). e.0) (flat_map g is) ≡ flat_map (λ i. map (λ (e : RowId × Kept). e.0) (g i)) is
ids_listed g [] = refl
ids_listed g (i ∷ is) = map-append (λ (e : RowId × Kept). e.0) (g i) (flat_map g is) ∙ ap (λ (rest : List RowId). map (λ (e : RowId × Kept). e.0) (g i) ++ rest) (ids_listed g is)

pub rows_distinct : (shards : ℕ) (r : Round) → TablesAtHome shards r.tables → IsDistinct is_same_row (rows_taken shards r)
rows_distinct shards r h =
    subst (IsDistinct is_same_row) (ids_listed (λ i. entries (r.tables i).live) (range_with_len 0 shards))
    (distinct_ids (flat_map (λ i. entries (r.tables i).live) (range_with_len 0 shards)) (rows_apart shards (λ i. record empty_state { live = (r.tables i).live }) h))
