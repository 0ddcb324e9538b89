-- The events of one shard, against those of all: a row sees its own.
use Rattle.std.proofs.Common.{◌≡◌, ℕ, ◌<◌, Bool, true, false, cond, eqb, List, [], ◌∷◌, ◌++◌, map, refl, sym, ap, ◌∙◌}
use Rattle.std.specs.Prelude.{not, fold, filter_map, Result, Ok, Err}
use Rattle.std.proofs.lemmas.List.Elements.{filter_map-append}
use Rattle.sd_model_text.specs.Names.{Kind, shard}
use Rattle.sd_model_text.specs.Lines.{Sample, samples_of}
use Rattle.sd_model_shard.specs.Rows.{RowId, row_of, is_same_row, is_hit}
use Rattle.sd_model_shard.specs.Shard.{State, Cause, Limits, Policy, Event, Submit, Swap, Delete, after_delete}
use Rattle.sd_model_shard.specs.History.{Act, History, Asked, answered, part_of, Fate, cause_in, fate_in, fates}
use Rattle.sd_model_shard.proofs.AnsweredLemmas.{answered-append}
use Rattle.sd_model_shard.proofs.DeletionLemmas.{same_row, get-rows_left}
use Rattle.sd_model_record.specs.Admin as admin
use Rattle.sd_model_record.specs.Admin.{AdminFault}
use Rattle.sd_model_replay.specs.Replay.{Bounds, home_of, events_of_record, acts_of_record, Run}
use Rattle.sd_model_replay.specs.Script.{ScriptCommand, Packet, Flush, Admin}
use Rattle.sd_model_record.specs.Replies.{admin_events}
use Rattle.sd_model_serve.specs.Receiving.{administrator, flusher}
use Rattle.sd_law_shards.proofs.ViewLemmas.{View, nothing, view, row_event, row_step, view-asked, after_asked}
use Rattle.sd_model_shard.proofs.Short.{causes}

abbrev pub submits : ℕ → List Sample → List Asked
submits who samples = map (λ s. record { who = who; event = Submit s }) samples

-- events that an admin line asks of each shard
abbrev pub asks : List Event → List Asked
asks events = map (λ event. record { who = administrator; event = event }) events

-- what a record asks of all shards as one
abbrev pub events_of : ScriptCommand → List Asked
events_of (Packet who moment datagram) = submits who (samples_of datagram)
events_of (Flush ts) = record { who = flusher; event = Swap } ∷ []
events_of (Admin moment line) = asks (admin_events (admin.command line))

same_or_none : {A : Type 0} (b : Bool) (x : A) → cond b x x ≡ x
same_or_none true x = refl
same_or_none false x = refl

module _ (shards i : ℕ) (id : RowId) where
  -- a sample of another shard is of another row
  pub other_row : (s : Sample) (b : Bool) → eqb i (shard id.key shards) ≡ b → eqb i (shard s.key shards) ≡ not b → is_same_row id (row_of s) ≡ false
  other_row s b mine here = by_tie (is_same_row id (row_of s)) refl where
    both : (b : Bool) → b ≡ not b → ⊥
    both true h = absurd (cc)
    both false h = absurd (cc)

    by_tie : (t : Bool) → is_same_row id (row_of s) ≡ t → t ≡ false
    by_tie true is = absurd (both b (sym mine ∙ ap (λ (r : RowId). eqb i (shard r.key shards)) (same_row id (row_of s) is) ∙ here))
    by_tie false is = refl

module _ (bounds : Bounds) (i : ℕ) (id : RowId) where
  module _ (policy : Policy) where
    -- which it leaves
    unmoved : (s : Sample) (v : View) → is_same_row id (row_of s) ≡ false → row_event policy id v (Submit s) ≡ v
    unmoved s v h = rw h refl

    packet_mine : (who : ℕ) (samples : List Sample) (v : View) → eqb i (shard id.key bounds.shards) ≡ true
        → fold (row_step policy id) v (submits who (part_of (home_of bounds.shards) i samples)) ≡ fold (row_step policy id) v (submits who samples)
    packet_mine who [] v mine = refl
    packet_mine who (s ∷ samples) v mine = by_test (eqb i (home_of bounds.shards s)) refl (λ w. packet_mine who samples w mine) where
      by_test : (b : Bool) → eqb i (home_of bounds.shards s) ≡ b
          → ((w : View) → fold (row_step policy id) w (submits who (part_of (home_of bounds.shards) i samples)) ≡ fold (row_step policy id) w (submits who samples))
          → fold (row_step policy id) v (submits who (cond b (s ∷ part_of (home_of bounds.shards) i samples) (part_of (home_of bounds.shards) i samples))) ≡ fold (row_step policy id) (row_event policy id v (Submit s)) (submits who samples)
      by_test true here rest = rest (row_event policy id v (Submit s))
      by_test false here rest = rest v ∙ ap (λ (w : View). fold (row_step policy id) w (submits who samples)) (sym (unmoved s v (other_row bounds.shards i id s true mine here)))

    packet_other : (who : ℕ) (samples : List Sample) (v : View) → eqb i (shard id.key bounds.shards) ≡ false
        → fold (row_step policy id) v (submits who (part_of (home_of bounds.shards) i samples)) ≡ v
    packet_other who [] v mine = refl
    packet_other who (s ∷ samples) v mine = by_test (eqb i (home_of bounds.shards s)) refl (packet_other who samples v mine) where
      by_test : (b : Bool) → eqb i (home_of bounds.shards s) ≡ b
          → fold (row_step policy id) v (submits who (part_of (home_of bounds.shards) i samples)) ≡ v
          → fold (row_step policy id) v (submits who (cond b (s ∷ part_of (home_of bounds.shards) i samples) (part_of (home_of bounds.shards) i samples))) ≡ v
      by_test true here rest = ap (λ (w : View). fold (row_step policy id) w (submits who (part_of (home_of bounds.shards) i samples))) (unmoved s v (other_row bounds.shards i id s false mine here)) ∙ rest
      by_test false here rest = rest

    command_mine : (c : ScriptCommand) (v : View) → eqb i (shard id.key bounds.shards) ≡ true → fold (row_step policy id) v (events_of_record bounds.shards i c) ≡ fold (row_step policy id) v (events_of c)
    command_mine (Packet who moment datagram) v mine = packet_mine who (samples_of datagram) v mine
    command_mine (Flush ts) v mine = refl
    command_mine (Admin moment line) v mine = refl

    -- deletions leave nothing of nothing
    names_other : (kind : Kind) (names : List (List ℕ)) → fold (row_step policy id) nothing (asks (map (Delete kind) names)) ≡ nothing
    names_other kind [] = refl
    names_other kind (name ∷ names) =
        ap (λ (v : View). fold (row_step policy id) v (asks (map (Delete kind) names))) (same_or_none (not (is_hit kind name id)) nothing) ∙ names_other kind names

    line_other : (answer : Result admin.Command AdminFault) → fold (row_step policy id) nothing (asks (admin_events answer)) ≡ nothing
    line_other (Ok admin.Stats) = refl
    line_other (Ok admin.Config) = refl
    line_other (Ok admin.Quit) = refl
    line_other (Ok (admin.Show kind)) = refl
    line_other (Ok admin.Totals) = refl
    line_other (Ok (admin.Delete kind names)) = names_other kind names
    line_other (Ok (admin.Health word)) = refl
    line_other (Err fault) = refl

    command_other : (c : ScriptCommand) → eqb i (shard id.key bounds.shards) ≡ false → fold (row_step policy id) nothing (events_of_record bounds.shards i c) ≡ nothing
    command_other (Packet who moment datagram) mine = packet_other who (samples_of datagram) nothing mine
    command_other (Flush ts) mine = refl
    command_other (Admin moment line) mine = line_other (admin.command line)

-- The shards have of each row what is seen of it, the one of its key, and nothing, the others.
abbrev pub Reflects : ℕ → (ℕ → State) → (RowId → View) → Type 0
Reflects shards states seen = (i : ℕ) → i < shards → (id : RowId) → view (states i) id ≡ cond (eqb i (shard id.key shards)) (seen id) nothing

-- what is seen of a row after a record
abbrev pub seen_after : Policy → (RowId → View) → ScriptCommand → RowId → View
seen_after policy seen c id = fold (row_step policy id) (seen id) (events_of c)

-- no shard drops a sample of a record
abbrev pub NoneIn : Bounds → Run → ScriptCommand → Type 0
NoneIn bounds run c = (i : ℕ) → i < bounds.shards → causes (acts_of_record bounds run.shards i c) ≡ []

pub Reflects-command : (bounds : Bounds) (run : Run) (seen : RowId → View) (c : ScriptCommand) → NoneIn bounds run c → Reflects bounds.shards run.shards seen
    → Reflects bounds.shards (λ i. after_asked bounds.limits bounds.policy (run.shards i) (events_of_record bounds.shards i c)) (seen_after bounds.policy seen c)
Reflects-command bounds run seen c none h i below id =
    view-asked bounds.limits bounds.policy (run.shards i) id (events_of_record bounds.shards i c) (none i below)
    ∙ ap (λ (v : View). fold (row_step bounds.policy id) v (events_of_record bounds.shards i c)) (h i below id)
    ∙ by_shard (eqb i (shard id.key bounds.shards)) refl where
      by_shard : (b : Bool) → eqb i (shard id.key bounds.shards) ≡ b → fold (row_step bounds.policy id) (cond b (seen id) nothing) (events_of_record bounds.shards i c) ≡ cond b (seen_after bounds.policy seen c id) nothing
      by_shard true mine = command_mine bounds i id bounds.policy c (seen id) mine
      by_shard false mine = command_other bounds i id bounds.policy c mine

-- what is seen of a row after a deletion
abbrev pub seen_left : Kind → List ℕ → (RowId → View) → RowId → View
seen_left kind name seen id = cond (not (is_hit kind name id)) (seen id) nothing

pub Reflects-delete : (kind : Kind) (name : List ℕ) (shards : ℕ) (states : ℕ → State) (seen : RowId → View) → Reflects shards states seen → Reflects shards (λ i. after_delete kind name (states i)) (seen_left kind name seen)
Reflects-delete kind name shards states seen h i below id =
    get-rows_left kind name (states i).live id ∙ ap (λ (v : View). cond (not (is_hit kind name id)) v nothing) (h i below id) ∙ by_shard (eqb i (shard id.key shards)) where
      by_shard : (b : Bool) → cond (not (is_hit kind name id)) (cond b (seen id) nothing) nothing ≡ cond b (seen_left kind name seen id) nothing
      by_shard true = refl
      by_shard false = same_or_none (not (is_hit kind name id)) nothing

-- no drop in events and those behind them
causes-append : (xs ys : History) → causes (xs ++ ys) ≡ causes xs ++ causes ys
causes-append xs ys =
    ap (filter_map (λ (f : Fate). cause_in f.placed)) (filter_map-append (λ (a : Act). fate_in a.who a.event a.reply) xs ys)
    ∙ filter_map-append (λ (f : Fate). cause_in f.placed) (fates xs) (fates ys)

none_either : (xs ys : List Cause) → xs ++ ys ≡ [] → (xs ≡ []) × (ys ≡ [])
none_either [] ys h = (refl, h)
none_either (x ∷ xs) ys h = absurd (cc)

pub none_cut : (limits : Limits) (policy : Policy) (state : State) (xs ys : List Asked) → causes (answered limits policy state (xs ++ ys)) ≡ []
    → (causes (answered limits policy state xs) ≡ []) × (causes (answered limits policy (after_asked limits policy state xs) ys) ≡ [])
none_cut limits policy state xs ys none =
    let prefix = answered limits policy state xs in
    let back = answered limits policy (after_asked limits policy state xs) ys in
    none_either (causes prefix) (causes back) (sym (causes-append prefix back) ∙ sym (ap causes (answered-append limits policy state xs ys)) ∙ none)
