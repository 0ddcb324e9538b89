-- A turn with a history keeps the rule.
use Rattle.std.proofs.Common.{◌≡◌, ℕ, ◌<◌, true, List, [], ◌∷◌, ◌++◌, sym, refl, ap, ◌∙◌, subst, append-nil, Some}
use mathlib.Core.Option.{none}
use Rattle.atomic_table.specs.Table.{State, Me, step, Allows}
use Rattle.sd_turn.specs.Lists.{Each}
use Rattle.sd_turn.specs.declared.view.View.{View}
use Rattle.sd_turn.specs.Views.{IsPlain, own_of, seen_of, holding, released}
use Rattle.sd_turn.specs.Rule.{Kept, Grows}
use Rattle.sd_turn.proofs.TableSteps.{single, plain_is, gives_turn}
use Rattle.sd_turn.specs.History.{history_protocol, noting, gave, Holds}
use Rattle.sd_turn.proofs.EntryLists.{begins_more, own_entries, other_entries, inside_more}

module _ {S N F : Type 0} (fixed : S → F) (stands : S → List N → Type 0) (legal : F → List N → Type 0) (who : N → ℕ) (f : F) (count : ℕ) where
  abbrev Rule : State S (View N F) → Type 0
  Rule = Kept (history_protocol fixed stands legal who) f count

  abbrev solo : ℕ → List N → List N → View N F
  solo number own log = single (history_protocol fixed stands legal who) f count number own log true

  abbrev Longer : ℕ → List N → List N → List N → List N → Type 0
  Longer = Grows (history_protocol fixed stands legal who) f count

  -- entries more, all of the seat's number
  entries_grow : (number : ℕ) (own log es : List N) → Each (λ e. who e ≡ number) es → number < count → legal f (log ++ es) → Longer number own log (own ++ es) (log ++ es)
  entries_grow number own log es mine below fine = record {
    sound = λ s. (fine, inside_more who number count log es below mine s.1);
    mine = λ fits. (([], sym (append-nil (log ++ es))), ap (λ l. l ++ es) fits.1 ∙ sym (own_entries who number log es mine));
    amounts = λ k. refl;
    others = λ a apart fits. (begins_more a.seen log es fits.0, fits.1 ∙ sym (other_entries who number a.number log es (λ q. apart (sym q)) mine));
    unused = λ n apart unused. other_entries who number n log es (λ q. apart (sym q)) mine ∙ unused;
  }

  -- the entries are noted as the turn is given back
  pub gives_at : (slots id number : ℕ) (me : Me S (View N F)) (es chosen : List N) → Holds fixed stands f number es me → chosen ≡ es → Each (λ e. who e ≡ number) es → number < count → ((y : S) (log : List N) → stands y log → legal (fixed y) log)
      → Allows Rule slots id me 0 (λ _. 0) (λ _. gave chosen (step slots 0 0 0 none) me 0)
  gives_at slots id number me es chosen has same mine below stands_legal =
      let own : List N = own_of me.0 in
      let log : List N = seen_of me.0 in
      let fine : legal f (log ++ es) = subst (λ k. legal k (log ++ es)) has.2 (stands_legal has.0 (log ++ es) has.3) in
      subst (λ (z : Me S (View N F) × List N). Allows Rule slots id z.0 0 (λ _. 0) (λ _. gave z.1 (step slots 0 0 0 none) z.0 0)) (λ i. (sym has.1 i, sym same i))
      (gives_turn (history_protocol fixed stands legal who) f count slots id number own log (own ++ es) (log ++ es) has.0 has.2 has.3 refl (entries_grow number own log es mine below fine)
      (λ _. gave es (step slots 0 0 0 none) (solo number own log, (0, has.0) ∷ []) 0) (λ _. refl))

  -- a plain seat that has taken the turn holds it
  pub holds_taken : (number : ℕ) (v : View N F) (me : Me S (View N F)) → IsPlain number v → v.fixed ≡ Some f → (y : S) (log : List N) → me ≡ (holding v log, (0, y) ∷ []) → fixed y ≡ f → stands y log → Holds fixed stands f number [] me
  holds_taken number v me plain of y log is_me mine is_state =
      let v_is = plain_is (history_protocol fixed stands legal who) f count number v plain of in
      let m : Me S (View N F) = (solo number (own_of v) log, (0, y) ∷ []) in
      let is_m : me ≡ m = is_me ∙ ap (λ (x : View N F). (holding x log, (0, y) ∷ [])) v_is in
      subst (λ (z : Me S (View N F)). Holds fixed stands f number [] z) (sym is_m) (y, refl, mine, subst (stands y) (sym (append-nil log)) is_state)

-- what a turn leaves
pub finishes : {N F : Type 0} (number : ℕ) (v : View N F) (log es : List N) → IsPlain number v
    → let w = released (noting (holding v log) es) in IsPlain number w × (seen_of w ≡ log ++ es) × (own_of w ≡ own_of v ++ es) × (w.fixed ≡ v.fixed)
finishes {N} {F} number v log es plain =
    subst (λ (z : View N F). let w = released (noting (holding z log) es) in IsPlain number w × (seen_of w ≡ log ++ es) × (own_of w ≡ own_of z ++ es) × (w.fixed ≡ z.fixed))
    (sym plain) (refl, refl, refl, refl)
