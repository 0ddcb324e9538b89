-- The calls of the desk that a line makes.
use Rattle.sd_model_outside.specs.Backend.{each_of}
use Rattle.std.proofs.Common.{◌≡◌, ◌∙◌, List, [], ◌∷◌, ◌++◌, sym, ap, append-nil, append_assoc}
use Rattle.std.specs.Prelude.{Bool, true, false, if◌then◌else◌}
use Rattle.sd_model_record.specs.Admin.{command}
use Rattle.sd_shared_desk.specs.Counts.{Part}
use Rattle.sd_model_record.specs.Desk.{Facts, no_tally}
use Rattle.sd_model_record.specs.DeskHistory.{DeskCall, Look, Reported as ReportedOf}
use Rattle.sd_model_serve.specs.Sessions.{health_calls, line_calls, Exchange, is_quit}

-- the look of a line
abbrev look_of : Exchange → DeskCall
look_of e = record { event = Look; answer = ReportedOf e.facts }

-- a line that asks for the end calls nothing
quit_calls : (e : Exchange) → is_quit (command e.line) ≡ true → line_calls e ≡ []
quit_calls e is = ap (λ (b : Bool). if b then [] else (look_of e ∷ health_calls (command e.line))) is

pub quit_called : (e : Exchange) (part : Part) → is_quit (command e.line) ≡ true → part.own ≡ part.own ++ line_calls e
quit_called e part is = sym (append-nil part.own) ∙ ap (λ (l : List DeskCall). part.own ++ l) (sym (quit_calls e is))

-- another one looks, and then sets the health
pub line_called : (e : Exchange) (part mid now : Part) → is_quit (command e.line) ≡ false → mid.own ≡ part.own ++ look_of e ∷ [] → now.own ≡ mid.own ++ health_calls (command e.line) → now.own ≡ part.own ++ line_calls e
line_called e part mid now is first second =
    second ∙ ap (λ (l : List DeskCall). l ++ health_calls (command e.line)) first ∙ append_assoc part.own (look_of e ∷ []) (health_calls (command e.line))
    ∙ ap (λ (b : Bool). part.own ++ (if b then [] else (look_of e ∷ health_calls (command e.line)))) (sym is)

-- what the desk tells where nothing was asked of it
pub no_facts : Facts
no_facts = record { start = 0; last = 0; totals = no_tally; up = true; rounds = 0; faults = each_of (λ b. 0); repeater_faults = 0; admin_faults = 0 }
