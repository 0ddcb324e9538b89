use Rattle.std.proofs.Common.{◌≡◌, ◌⊎◌, ℕ, ◌<◌, ◌≤◌, Bool, true, false, List, ◌∷◌, [], length, map, inl, inr, arith, length-append}
use Rattle.std.proofs.lemmas.List.{length-map}
use Rattle.sd_model_outside.specs.Uses.{Delivery}
use Rattle.sd_model_serve.specs.Rounds.{round_text, OutletRoom, AreChosen, chosen}
use Rattle.sd_model_run.proofs.outlets.texts_are_queued_or_skipped.Goals as goal
use Rattle.sd_model_run.proofs.Short.{MayBeSkipped}

pub returns-clause-all : goal.returns-clause-all
returns-clause-all c room form back trace went =
    let texts = length-map trace.ticked (round_text form back) in
    let rounds = length-append trace.ticked (trace.last ∷ []) in
    omega (arith, went.others, texts, rounds)

-- the first text had no reason to be skipped
by_choice : (room : OutletRoom) (text : List ℕ) (texts queued : List (List ℕ)) → 0 < room.buffers → length text ≤ room.bytes → (choice : List Bool) → AreChosen room 0 choice (text ∷ texts) → queued ≡ chosen choice (text ∷ texts) → (rest : List (List ℕ)) × (queued ≡ text ∷ rest)
by_choice room text texts queued some fits [] so is = absurd so
by_choice room text texts queued some fits (true ∷ choice) so is = (chosen choice texts, is)
by_choice room text texts queued some fits (false ∷ choice) so is = absurd (no_reason so.0) where
  no_reason : MayBeSkipped room 0 text → ⊥
  no_reason (inl longer) = omega (arith, longer, fits)
  no_reason (inr (inl full)) = omega (arith, full, some)
  no_reason (inr (inr spent)) = omega (arith, spent)

pub returns-clause-first : goal.returns-clause-first
returns-clause-first c room text texts o some fits went = by_choice room text texts (map (λ (d : Delivery). d.text) o.queued) some fits went.choice went.chosen_so went.queued
