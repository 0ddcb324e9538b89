-- A shard row by row: what each event does to one row, where no sample is dropped.
use Rattle.std.proofs.Common.{◌≡◌, ℕ, Bool, true, false, cond, List, [], ◌∷◌, refl, sym, ap, ◌∙◌}
use Rattle.std.specs.Prelude.{Option, Some, None, not, option_and_then, unwrap_or, pos, fold}
use Rattle.std.specs.FinMap.{get, get-empty}
use Rattle.sd_model_text.specs.Lines.{Sample}
use Rattle.sd_model_shard.specs.Rows.{RowId, row_cmp, Kept, row_of, is_same_row, without_samples, row_in, is_hit}
use Rattle.sd_model_shard.specs.Shard.{State, empty_state, Cause, Limits, Policy, Event, Submit, Swap, Delete, Dump, Look, step, admitted, refusal, with_sample, left_of}
use Rattle.sd_model_shard.specs.History.{Asked, after_all, answered}
use Rattle.sd_model_shard.proofs.SummaryLemmas.{get-kept_rows, get-touched}
use Rattle.sd_model_shard.proofs.DeletionLemmas.{same_row, get-rows_left}
use Rattle.sd_model_shard.proofs.Short.{act_of, sampled, causes}

-- What a shard has of one row, where it is live.
abbrev pub View : Type 0
View = Option Kept

abbrev pub nothing : View
nothing = None

abbrev pub view : State → RowId → View
view state id = get state.live id

-- what an event does to a row, where its sample is taken
abbrev pub row_event : Policy → RowId → View → Event → View
row_event policy id v (Submit s) = cond (is_same_row id (row_of s)) (Some (sampled s.kind (unwrap_or v (without_samples (pos 0) 0)) s)) v
row_event policy id v Swap = option_and_then (left_of policy id) v
row_event policy id v (Delete kind pattern) = cond (not (is_hit kind pattern id)) v nothing
row_event policy id v (Dump kind) = v
row_event policy id v Look = v

abbrev pub row_step : Policy → RowId → View → Asked → View
row_step policy id v q = row_event policy id v q.event

pub view-empty : (id : RowId) → view empty_state id ≡ nothing
view-empty id = get-empty row_cmp id

-- a sample that is taken
view-sample : (policy : Policy) (state : State) (s : Sample) (id : RowId) → view (with_sample state s) id ≡ row_event policy id (view state id) (Submit s)
view-sample policy state s id = get-touched state.live s id ∙ by_tie (is_same_row id (row_of s)) refl where
  by_tie : (b : Bool) → is_same_row id (row_of s) ≡ b
      → cond b (Some (sampled s.kind (row_in state.live (row_of s)) s)) (get state.live id) ≡ cond b (Some (sampled s.kind (row_in state.live id) s)) (get state.live id)
  by_tie true is = ap (λ (r : RowId). Some (sampled s.kind (row_in state.live r) s)) (sym (same_row id (row_of s) is))
  by_tie false is = refl

-- the state after events, which the step answers
abbrev pub after_asked : Limits → Policy → State → List Asked → State
after_asked limits policy state asked = after_all limits policy state (answered limits policy state asked)

sample_taken : (limits : Limits) (policy : Policy) (state : State) (who : ℕ) (s : Sample) (answer : Option Cause) (id : RowId) (asked : List Asked)
    → (causes (answered limits policy (admitted state s answer).state asked) ≡ [] → view (after_asked limits policy (admitted state s answer).state asked) id ≡ fold (row_step policy id) (view (admitted state s answer).state id) asked)
    → causes (record { who = who; event = Submit s; reply = (admitted state s answer).reply } ∷ answered limits policy (admitted state s answer).state asked) ≡ []
    → view (after_asked limits policy (admitted state s answer).state asked) id ≡ fold (row_step policy id) (row_event policy id (view state id) (Submit s)) asked
sample_taken limits policy state who s None id asked rest none = rest none ∙ ap (λ (v : View). fold (row_step policy id) v asked) (view-sample policy state s id)
sample_taken limits policy state who s (Some cause) id asked rest none = absurd (cc)

-- Row by row, events do to a shard that drops nothing what they do to the row.
pub view-asked : (limits : Limits) (policy : Policy) (state : State) (id : RowId) (asked : List Asked) → causes (answered limits policy state asked) ≡ [] → view (after_asked limits policy state asked) id ≡ fold (row_step policy id) (view state id) asked
view-asked limits policy state id [] none = refl
view-asked limits policy state id (q ∷ asked) none =
    by_event q.who q.event (λ h. view-asked limits policy (step limits policy state q.event).state id asked h) none where
      by_event : (who : ℕ) (event : Event)
          → (causes (answered limits policy (step limits policy state event).state asked) ≡ [] → view (after_asked limits policy (step limits policy state event).state asked) id ≡ fold (row_step policy id) (view (step limits policy state event).state id) asked)
          → causes (act_of limits policy state who event ∷ answered limits policy (step limits policy state event).state asked) ≡ []
          → view (after_asked limits policy (step limits policy state event).state asked) id ≡ fold (row_step policy id) (row_event policy id (view state id) event) asked
      by_event who (Submit s) rest none = sample_taken limits policy state who s (refusal limits state s) id asked rest none
      by_event who Swap rest none = rest none ∙ ap (λ (v : View). fold (row_step policy id) v asked) (get-kept_rows policy state.live id)
      by_event who (Delete kind pattern) rest none = rest none ∙ ap (λ (v : View). fold (row_step policy id) v asked) (get-rows_left kind pattern state.live id)
      by_event who (Dump kind) rest none = rest none
      by_event who Look rest none = rest none
