-- A shard that has rows of its own keys alone gets no others by a step of its own.
use Rattle.std.proofs.Common.{◌≡◌, ℕ, Bool, true, false, cond, eqb, eq-eqb, refl, sym, ap, ◌∙◌}
use Rattle.std.specs.Prelude.{Option, Some, None, not, option_and_then}
use Rattle.std.specs.FinMap.{get, get-empty}
use Rattle.sd_model_text.specs.Names.{shard}
use Rattle.sd_model_text.specs.Lines.{Sample}
use Rattle.sd_model_shard.specs.Rows.{RowId, row_cmp, Kept, row_of, is_same_row, row_in, is_hit}
use Rattle.sd_model_shard.specs.Shard.{State, Cause, Event, Submit, Swap, Delete, Dump, Look, empty_state, step, admitted, refusal, left_of}
use Rattle.sd_model_shard.proofs.SummaryLemmas.{get-kept_rows, get-touched}
use Rattle.sd_model_shard.proofs.DeletionLemmas.{get-rows_left, same_row}
use Rattle.sd_pool.specs.Setup.{Setup, IsOwn, OnlyOf}
use Rattle.sd_model_shard.proofs.Short.{sampled}

neither : (b : Bool) (o : Option Kept) → o ≡ None → cond b o None ≡ None
neither true o h = h
neither false o h = refl

-- a row of another shard's key isn't that of a sample of this shard's
other_row : (i shards : ℕ) (id : RowId) (s : Sample) → shard s.key shards ≡ i → eqb i (shard id.key shards) ≡ false → is_same_row id (row_of s) ≡ false
other_row i shards id s own away = by_tie (is_same_row id (row_of s)) refl where
  by_tie : (t : Bool) → is_same_row id (row_of s) ≡ t → t ≡ false
  by_tie true is = absurd (let both : eqb i (shard id.key shards) ≡ true = eq-eqb i (shard id.key shards) (sym own ∙ ap (λ (r : RowId). shard r.key shards) (sym (same_row id (row_of s) is))) in let clash = sym both ∙ away in cc)
  by_tie false is = refl

none_sampled : (state : State) (s : Sample) (answer : Option Cause) (id : RowId) → is_same_row id (row_of s) ≡ false → get state.live id ≡ None → get (admitted state s answer).state.live id ≡ None
none_sampled state s None id other none =
    let kept : Kept = sampled s.kind (row_in state.live (row_of s)) s in
    get-touched state.live s id ∙ ap (λ t. cond t (Some kept) (get state.live id)) other ∙ none
none_sampled state s (Some cause) id other none = none

pub OnlyOf-step : (setup : Setup) (state : State) (event : Event) → IsOwn setup event → OnlyOf setup.shard setup.shards state.live → OnlyOf setup.shard setup.shards (step setup.limits setup.policy state event).state.live
OnlyOf-step setup state (Submit s) own only id away =
    none_sampled state s (refusal setup.limits state s) id (other_row setup.shard setup.shards id s own away) (only id away)
OnlyOf-step setup state Swap own only id away = get-kept_rows setup.policy state.live id ∙ ap (option_and_then (left_of setup.policy id)) (only id away)
OnlyOf-step setup state (Delete kind pattern) own only id away = get-rows_left kind pattern state.live id ∙ neither (not (is_hit kind pattern id)) (get state.live id) (only id away)
OnlyOf-step setup state (Dump kind) own only id away = only id away
OnlyOf-step setup state Look own only id away = only id away

pub OnlyOf-empty : (i shards : ℕ) → OnlyOf i shards empty_state.live
OnlyOf-empty i shards id away = get-empty row_cmp id
