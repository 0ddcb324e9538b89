-- Histories that grow.
use Rattle.std.proofs.Common.{◌≡◌, List, [], ◌∷◌, ◌++◌, map, refl, sym}
use Rattle.sd_model_shard.specs.Shard.{State, Limits, Policy, step}
use Rattle.sd_model_shard.specs.History.{History, Act, Asked, after, after_all, LegalFrom, answered}

pub LegalFrom-push : (limits : Limits) (policy : Policy) (state : State) (acts : History) (a : Act) → LegalFrom limits policy state acts → a.reply ≡ (step limits policy (after_all limits policy state acts) a.event).reply → LegalFrom limits policy state (acts ++ a ∷ [])
LegalFrom-push limits policy state [] a h is = (is, tt)
LegalFrom-push limits policy state (x ∷ acts) a h is = (h.0, LegalFrom-push limits policy (after limits policy state x) acts a h.1 is)

pub LegalFrom-last : (limits : Limits) (policy : Policy) (state : State) (acts : History) (a : Act) → LegalFrom limits policy state (acts ++ a ∷ []) → a.reply ≡ (step limits policy (after_all limits policy state acts) a.event).reply
LegalFrom-last limits policy state [] a h = h.0
LegalFrom-last limits policy state (x ∷ acts) a h = LegalFrom-last limits policy (after limits policy state x) acts a h.1

pub LegalFrom-answered : (limits : Limits) (policy : Policy) (state : State) (asked : List Asked) → LegalFrom limits policy state (answered limits policy state asked)
LegalFrom-answered limits policy state [] = tt
LegalFrom-answered limits policy state (q ∷ asked) = (refl, LegalFrom-answered limits policy (step limits policy state q.event).state asked)

abbrev pub asked_in : History → List Asked
asked_in acts = map (λ a. record { who = a.who; event = a.event }) acts

-- a legal history is its events with the replies of the step
pub legal_is_answered : (limits : Limits) (policy : Policy) (state : State) (acts : History) → LegalFrom limits policy state acts → answered limits policy state (asked_in acts) ≡ acts
legal_is_answered limits policy state [] h = refl
legal_is_answered limits policy state (a ∷ acts) h =
    let first = sym h.0 in
    let rest = legal_is_answered limits policy (after limits policy state a) acts h.1 in
    λ i. record { who = a.who; event = a.event; reply = first i } ∷ rest i
