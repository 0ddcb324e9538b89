-- The history that a replay leaves of a shard has just what its callers asked, each in its order.
use Rattle.std.proofs.Common.{◌≡◌, ◌≢◌, ◌⊎◌, inl, inr, ℕ, ◌<◌, ◌≤◌, true, false, cond, eqb, List, [], ◌∷◌, ◌++◌, length, map, refl, sym, ap, ◌∙◌, arith}
use Rattle.std.specs.List.{AllByRecursion, cons_option, range_with_len}
use Rattle.std.proofs.lemmas.Bool.Decides.{eqb_tells}
use Rattle.std.proofs.lemmas.List.{length-map, map-append}
use Rattle.std.proofs.lemmas.List.Elements.{filter-append}
use Rattle.std.proofs.lemmas.List.FromFn.{get_or-map-range_with_len, length-range_with_len}
use Rattle.sd_model_text.specs.Lines.{Sample, samples_of}
use Rattle.sd_model_shard.specs.Shard.{State, Limits, Policy, Event, Submit, Swap, step}
use Rattle.sd_model_shard.specs.History.{Act, History, Asked, answered, part_of, Arrival}
use Rattle.sd_model_shard.proofs.AnsweredLemmas.{answered-append}
use Rattle.sd_model_record.specs.Admin as admin
use Rattle.sd_model_serve.specs.Receiving.{flusher, administrator, acts_by, asks, events_of, Broadcast}
use Rattle.sd_model_record.specs.Replies.{admin_events}
use Rattle.sd_model_serve.specs.Rounds.{Round, swaps_at, Ran}
use Rattle.sd_model_serve.specs.Receiving as sessions
use Rattle.sd_model_serve.proofs.ActsLemmas.{asks-append}
use Rattle.sd_model_replay.specs.Replay.{Bounds, Outcome, Played, Run, acts_of_record, events_of_record, first_run, history_at, home_of, play, round_by, rounds, samples_of_record}
use Rattle.sd_model_replay.specs.Script.{ScriptCommand, Packet, Flush, Admin, IsLegal}
use Rattle.sd_model_replay.specs.AccountingTheorem.{broadcasts, broadcasts_in}
use Rattle.sd_law_run.specs.Asked.{asked_from, asked_in, brought_by, brought_in}
use Rattle.sd_model_replay.proofs.AccountingLemmas.{legal}
use Rattle.sd_model_replay.proofs.HistoryLemmas.{tables-history_at}
use Rattle.sd_model_replay.proofs.Short.{events_at, rounds_from, samples_at}
use Rattle.sd_model_serve.proofs.Short.{events_by}
use Rattle.sd_model_shard.proofs.Short.{act_of}

apart : (a b : ℕ) → a ≢ b → eqb a b ≡ false
apart a b other = by_test (eqb_tells a b) where
  by_test : (eqb a b ≡ true) × (a ≡ b) ⊎ (eqb a b ≡ false) × (a ≢ b) → eqb a b ≡ false
  by_test (inl (is, same)) = absurd (other same)
  by_test (inr (is, differ)) = is

-- things that one caller asks
abbrev asked_by : {X : Type 0} → (X → Event) → ℕ → List X → List Asked
asked_by f W xs = map (λ x. record { who = W; event = f x }) xs

module _ {X : Type 0} (f : X → Event) (W w : ℕ) (limits : Limits) (policy : Policy) where
  -- another caller has none of them, and this one all
  none_by : eqb w W ≡ false → (state : State) (xs : List X) → acts_by w (answered limits policy state (asked_by f W xs)) ≡ []
  none_by other state [] = refl
  none_by other state (x ∷ xs) =
      let next = step limits policy state (f x) in
      let rest = acts_by w (answered limits policy next.state (asked_by f W xs)) in
      ap (λ b. cond b (act_of limits policy state W (f x) ∷ rest) rest) other ∙ none_by other next.state xs

  all_by : eqb w W ≡ true → (state : State) (xs : List X) → acts_by w (answered limits policy state (asked_by f W xs)) ≡ answered limits policy state (asked_by f W xs)
  all_by same state [] = refl
  all_by same state (x ∷ xs) =
      let next = step limits policy state (f x) in
      let rest = acts_by w (answered limits policy next.state (asked_by f W xs)) in
      ap (λ b. cond b (act_of limits policy state W (f x) ∷ rest) rest) same ∙ ap (λ (acts : History). act_of limits policy state W (f x) ∷ acts) (all_by same next.state xs)

  events_asked : (state : State) (xs : List X) → events_of (answered limits policy state (asked_by f W xs)) ≡ map f xs
  events_asked state [] = refl
  events_asked state (x ∷ xs) = ap (λ es. f x ∷ es) (events_asked (step limits policy state (f x)).state xs)

-- what a receiver brought of the samples of one
module _ (r W : ℕ) where
  abbrev brought_of : List Sample → List Sample
  brought_of samples = map (λ a. a.sample) (part_of (λ (a : Arrival). a.who) r (map (λ s. record { who = W; sample = s }) samples))

  brought_all : eqb r W ≡ true → (samples : List Sample) → brought_of samples ≡ samples
  brought_all same [] = refl
  brought_all same (s ∷ samples) =
      let rest = part_of (λ (a : Arrival). a.who) r (map (λ x. record { who = W; sample = x }) samples) in
      ap (λ b. map (λ (a : Arrival). a.sample) (cond b (record { who = W; sample = s } ∷ rest) rest)) same ∙ ap (λ xs. s ∷ xs) (brought_all same samples)

  brought_none : eqb r W ≡ false → (samples : List Sample) → brought_of samples ≡ []
  brought_none other [] = refl
  brought_none other (s ∷ samples) =
      let rest = part_of (λ (a : Arrival). a.who) r (map (λ x. record { who = W; sample = x }) samples) in
      ap (λ b. map (λ (a : Arrival). a.sample) (cond b (record { who = W; sample = s } ∷ rest) rest)) other ∙ brought_none other samples

-- what the administrator asks is answered by each shard
broadcast_acts : (bounds : Bounds) (i : ℕ) (states : ℕ → State) (events : List Event)
    → answered bounds.limits bounds.policy (states i) (asked_by (λ e. e) administrator events) ≡ sessions.acts_in (broadcasts bounds states events) i
broadcast_acts bounds i states [] = refl
broadcast_acts bounds i states (event ∷ events) =
    ap (λ (acts : History). act_of bounds.limits bounds.policy (states i) administrator event ∷ acts)
    (broadcast_acts bounds i (λ j. (step bounds.limits bounds.policy (states j) event).state) events)

module _ (bounds : Bounds) (receivers i : ℕ) where
  abbrev own_samples : List Sample → List Sample
  own_samples samples = part_of (home_of bounds.shards) i samples

  abbrev line_events : List ℕ → List Event
  line_events line = admin_events (admin.command line)

  -- one record
  of_receiver : (r : ℕ) → r < flusher → (run : Run) (c : ScriptCommand)
      → events_by r (acts_of_record bounds run.shards i c) ≡ asks bounds.shards i (map (λ a. a.sample) (part_of (λ a. a.who) r (samples_of_record c)))
  of_receiver r small run (Packet who moment datagram) = by_test (eqb_tells r who) where
    samples : List Sample
    samples = samples_of datagram

    by_test : (eqb r who ≡ true) × (r ≡ who) ⊎ (eqb r who ≡ false) × (r ≢ who) → events_by r (acts_of_record bounds run.shards i (Packet who moment datagram)) ≡ asks bounds.shards i (brought_of r who (samples_of datagram))
    by_test (inl (same, is)) =
        ap events_of (all_by Submit who r bounds.limits bounds.policy same (run.shards i) (own_samples samples))
        ∙ events_asked Submit who r bounds.limits bounds.policy (run.shards i) (own_samples samples) ∙ ap (asks bounds.shards i) (sym (brought_all r who same samples))
    by_test (inr (other, differ)) =
        ap events_of (none_by Submit who r bounds.limits bounds.policy other (run.shards i) (own_samples samples)) ∙ ap (asks bounds.shards i) (sym (brought_none r who other samples))
  of_receiver r small run (Flush ts) =
      ap events_of (none_by (λ e. e) flusher r bounds.limits bounds.policy (apart r flusher (λ is. omega (arith, is, small))) (run.shards i) (Swap ∷ []))
  of_receiver r small run (Admin moment line) =
      ap events_of (none_by (λ e. e) administrator r bounds.limits bounds.policy (apart r administrator (λ is. omega (arith, is, small))) (run.shards i) (line_events line))

  of_flusher : (run : Run) (c : ScriptCommand) (outcome : Outcome) (rest : List Round) → IsLegal receivers c
      → acts_by flusher (acts_of_record bounds run.shards i c) ++ swaps_at rest i ≡ swaps_at (cons_option (round_by run c outcome) rest) i
  of_flusher run (Packet who moment datagram) outcome rest is =
      let small = is.0.1 in
      ap (λ prefix. prefix ++ swaps_at rest i) (none_by Submit who flusher bounds.limits bounds.policy (apart flusher who (λ same. omega (arith, same, small))) (run.shards i) (own_samples (samples_of datagram)))
  of_flusher run (Flush ts) outcome rest is = refl
  of_flusher run (Admin moment line) outcome rest is =
      ap (λ prefix. prefix ++ swaps_at rest i) (none_by (λ e. e) administrator flusher bounds.limits bounds.policy refl (run.shards i) (line_events line))

  of_administrator : (run : Run) (c : ScriptCommand) → IsLegal receivers c → acts_by administrator (acts_of_record bounds run.shards i c) ≡ sessions.acts_in (broadcasts_in bounds run.shards c) i
  of_administrator run (Packet who moment datagram) is =
      let small = is.0.1 in
      none_by Submit who administrator bounds.limits bounds.policy (apart administrator who (λ same. omega (arith, same, small))) (run.shards i) (own_samples (samples_of datagram))
  of_administrator run (Flush ts) is = refl
  of_administrator run (Admin moment line) is =
      all_by (λ e. e) administrator administrator bounds.limits bounds.policy refl (run.shards i) (line_events line)
      ∙ broadcast_acts bounds i run.shards (line_events line)

  of_nobody : (w : ℕ) → receivers ≤ w → w ≢ flusher → w ≢ administrator → (run : Run) (c : ScriptCommand) → IsLegal receivers c → acts_by w (acts_of_record bounds run.shards i c) ≡ []
  of_nobody w many no_flusher no_administrator run (Packet who moment datagram) is =
      let small = is.0.0 in
      none_by Submit who w bounds.limits bounds.policy (apart w who (λ same. omega (arith, same, small, many))) (run.shards i) (own_samples (samples_of datagram))
  of_nobody w many no_flusher no_administrator run (Flush ts) is = none_by (λ e. e) flusher w bounds.limits bounds.policy (apart w flusher no_flusher) (run.shards i) (Swap ∷ [])
  of_nobody w many no_flusher no_administrator run (Admin moment line) is =
      none_by (λ e. e) administrator w bounds.limits bounds.policy (apart w administrator no_administrator) (run.shards i) (line_events line)

  -- records, from a state on
  abbrev history_from : Run → List Played → History
  history_from run played = answered bounds.limits bounds.policy (run.shards i) (events_at bounds.shards i played)

  abbrev AreLegal : List Played → Type 0
  AreLegal played = AllByRecursion (λ p. IsLegal receivers p.command) played

  -- the acts of a caller in a record's acts, and in those behind them
  parted : (w : ℕ) (run : Run) (p : Played) (played : List Played)
      → acts_by w (history_from run (p ∷ played)) ≡ acts_by w (acts_of_record bounds run.shards i p.command) ++ acts_by w (history_from (play bounds run p) played)
  parted w run p played =
      ap (acts_by w) (answered-append bounds.limits bounds.policy (run.shards i) (events_of_record bounds.shards i p.command) (events_at bounds.shards i played))
      ∙ filter-append (λ (a : Act). eqb w a.who) (acts_of_record bounds run.shards i p.command) (history_from (play bounds run p) played)

  brought-cons : (r : ℕ) (p : Played) (played : List Played) → brought_by r (p ∷ played) ≡ map (λ a. a.sample) (part_of (λ a. a.who) r (samples_of_record p.command)) ++ brought_by r played
  brought-cons r p played =
      ap (map (λ (a : Arrival). a.sample)) (filter-append (λ (a : Arrival). eqb r a.who) (samples_of_record p.command) (samples_at played))
      ∙ map-append (λ (a : Arrival). a.sample) (part_of (λ a. a.who) r (samples_of_record p.command)) (part_of (λ a. a.who) r (samples_at played))

  receiver_from : (r : ℕ) → r < flusher → (run : Run) (played : List Played) → events_by r (history_from run played) ≡ asks bounds.shards i (brought_by r played)
  receiver_from r small run [] = refl
  receiver_from r small run (p ∷ played) =
      let here = map (λ (a : Arrival). a.sample) (part_of (λ a. a.who) r (samples_of_record p.command)) in
      ap events_of (parted r run p played)
      ∙ map-append (λ (a : Act). a.event) (acts_by r (acts_of_record bounds run.shards i p.command)) (acts_by r (history_from (play bounds run p) played))
      ∙ (λ j. of_receiver r small run p.command j ++ receiver_from r small (play bounds run p) played j)
      ∙ sym (asks-append bounds.shards i here (brought_by r played)) ∙ ap (asks bounds.shards i) (sym (brought-cons r p played))

  flusher_from : (run : Run) (played : List Played) → AreLegal played → acts_by flusher (history_from run played) ≡ swaps_at (rounds_from bounds run played) i
  flusher_from run [] are = refl
  flusher_from run (p ∷ played) are =
      parted flusher run p played ∙ ap (λ rest. acts_by flusher (acts_of_record bounds run.shards i p.command) ++ rest) (flusher_from (play bounds run p) played are.1)
      ∙ of_flusher run p.command p.outcome (rounds_from bounds (play bounds run p) played) are.0

  administrator_from : (run : Run) (played : List Played) → AreLegal played → acts_by administrator (history_from run played) ≡ sessions.acts_in (asked_from bounds run played) i
  administrator_from run [] are = refl
  administrator_from run (p ∷ played) are =
      parted administrator run p played
      ∙ (λ j. of_administrator run p.command are.0 j ++ administrator_from (play bounds run p) played are.1 j)
      ∙ sym (map-append (λ (b : Broadcast). record { who = administrator; event = b.event; reply = b.replies i }) (broadcasts_in bounds run.shards p.command) (asked_from bounds (play bounds run p) played))

  nobody_from : (w : ℕ) → receivers ≤ w → w ≢ flusher → w ≢ administrator → (run : Run) (played : List Played) → AreLegal played → acts_by w (history_from run played) ≡ []
  nobody_from w many no_flusher no_administrator run [] are = refl
  nobody_from w many no_flusher no_administrator run (p ∷ played) are =
      parted w run p played
      ∙ (λ j. of_nobody w many no_flusher no_administrator run p.command are.0 j ++ nobody_from w many no_flusher no_administrator (play bounds run p) played are.1 j)

  -- a replay's history is one that its callers tell
  pub replay_ran : (played : List Played) → receivers ≤ flusher → AreLegal played
      → Ran bounds.limits bounds.policy bounds.shards (brought_in receivers played) (rounds bounds played) (asked_in bounds played) i (history_at bounds i played)
  replay_ran played few are =
      let run = first_run played in
      let count : length (brought_in receivers played) ≡ receivers =
      length-map (range_with_len 0 receivers) (λ r. brought_by r played) ∙ length-range_with_len 0 receivers in
      record {
        legal = legal bounds i played;
        submitted = λ r below.
            receiver_from r (omega (arith, below, count, few)) run played
            ∙ ap (asks bounds.shards i) (sym (get_or-map-range_with_len (λ n. brought_by n played) 0 receivers r r [] (omega (arith, below, count)) (omega arith)));
        swapped = flusher_from run played are;
        commanded = administrator_from run played are;
        others = λ w many no_flusher no_administrator. nobody_from w (omega (arith, many, count)) no_flusher no_administrator run played are;
        handed_out = tables-history_at bounds i played;
      }
