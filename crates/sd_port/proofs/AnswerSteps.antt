-- A line that was executed.
use Rattle.std.proofs.Common.{◌≡◌, ◌∙◌, ℕ, true, false, cond, List, [], ◌∷◌, ◌++◌, Option, Some, None, append_assoc, refl, sym, ap, subst}
use Rattle.sd_model_live.specs.Port.{HearsFacts, ProxyEvent, AboutHealth, AsksConfig, AsksNodes, AsksTotals, Leaves, PortCommand, PortExchange, health_said, leaves, line_events, looks_of_command, port_command}
use Rattle.sd_live.specs.Live.{looks_of, publishes, seen}
use Rattle.sd_proxy_desk.specs.Shared.{events_of, number_of_seat}
use Rattle.sd_proxy_desk.specs.declared.hub.ProxyPass.{ProxyPass}
use Rattle.sd_port.specs.Doing.{HasExecuted, HasDone, LooksFor}
use Rattle.sd_port.proofs.DoneSteps.{done-none}

-- who asks for the end doesn't look
no_looks : (answer : Option PortCommand) (up : ℕ) → leaves answer ≡ true → looks_of_command answer up ≡ []
no_looks None up quits = refl
no_looks (Some (AboutHealth word)) up quits = refl
no_looks (Some AsksTotals) up quits = refl
no_looks (Some AsksNodes) up quits = absurd (cc)
no_looks (Some AsksConfig) up quits = refl
no_looks (Some Leaves) up quits = refl

-- a line that asks for the end does nothing
pub quits_so : (e : PortExchange) (own : ProxyPass) → leaves (port_command e.line) ≡ true → HasExecuted e own own
quits_so e own quits =
    let events : line_events e ≡ [] = ap (λ b. cond b [] (HearsFacts e.facts ∷ health_said (port_command e.line))) quits in
    subst (λ ups. HasDone (line_events e) ups own own) (sym (no_looks (port_command e.line) e.up quits))
    (subst (λ es. HasDone es [] own own) (sym events) (done-none own))

-- another one hears the facts, says the health where it does, and looks where it does
pub executed_so : (e : PortExchange) (answer : Option PortCommand) (own own_now : ProxyPass) (heard : List ProxyEvent) → answer ≡ port_command e.line → leaves answer ≡ false
    → heard ≡ events_of own.seat ++ HearsFacts e.facts ∷ [] → events_of own_now.seat ≡ heard ++ health_said answer → number_of_seat own_now.seat ≡ number_of_seat own.seat
    → publishes own_now.pass ≡ publishes own.pass → LooksFor (seen own.pass) (seen own_now.pass) (looks_of own.pass) (looks_of own_now.pass) (looks_of_command answer e.up) → HasExecuted e own own_now
executed_so e answer own own_now heard is goes_on hears says number publishing looked =
    let events : line_events e ≡ HearsFacts e.facts ∷ health_said answer =
    ap (λ a. cond (leaves a) [] (HearsFacts e.facts ∷ health_said a)) (sym is) ∙ ap (λ b. cond b [] (HearsFacts e.facts ∷ health_said answer)) goes_on in
    record {
      did = says ∙ ap (λ (l : List ProxyEvent). l ++ health_said answer) hears ∙ append_assoc (events_of own.seat) (HearsFacts e.facts ∷ []) (health_said answer)
          ∙ ap (λ es. events_of own.seat ++ es) (sym events);
      number = number;
      publishes = publishing;
      looked = subst (λ a. LooksFor (seen own.pass) (seen own_now.pass) (looks_of own.pass) (looks_of own_now.pass) (looks_of_command a e.up)) is looked;
    }
