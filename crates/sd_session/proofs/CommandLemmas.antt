-- Sessions ask for deletions and dumps alone.
use Rattle.std.proofs.Common.{ℕ, zero, suc, ◌+◌, take, List, [], ◌∷◌, ◌++◌, subst, sym, map}
use Rattle.std.specs.List.{AllByRecursion, AllZip}
use Rattle.std.proofs.lemmas.List.{map-append}
use Rattle.sd_model_outside.specs.Outside.{Object}
use Rattle.sd_model_settings.specs.Settings as file
use Rattle.sd_model_shard.specs.Shard.{Event, Delete}
use Rattle.sd_model_record.specs.Admin.{command, AdminFault}
use Rattle.sd_model_record.specs.Replies.{admin_events}
use Rattle.sd_model_serve.specs.Sessions.{Visit, IsVisitOf, asked_by, Dialogue, EndsSession, HasTalked, SessionEnd, lines_in, Exchange, admin_talk, GoesOn}
use Rattle.sd_model_serve.specs.Sessions as model
use Rattle.sd_session.specs.Commands.{AreCommands}
use Rattle.std.specs.Prelude.{Result, Ok, Err}
use Rattle.sd_model_text.specs.Names.{Kind}
use Rattle.sd_model_record.specs.Admin as admin
use Rattle.sd_model_serve.proofs.Short.{asked_in}
use Rattle.sd_model_serve.specs.Receiving.{Broadcast, events_in}

names_commands : (kind : Kind) (names : List (List ℕ)) → AreCommands (map (Delete kind) names)
names_commands kind [] = tt
names_commands kind (name ∷ names) = (tt, names_commands kind names)

-- an admin line asks for deletions, dumps and looks alone
pub line_commands : (answer : Result admin.Command AdminFault) → AreCommands (admin_events answer)
line_commands (Ok admin.Stats) = tt
line_commands (Ok admin.Config) = tt
line_commands (Ok admin.Quit) = tt
line_commands (Ok (admin.Show kind)) = (tt, tt)
line_commands (Ok admin.Totals) = (tt, tt)
line_commands (Ok (admin.Delete kind names)) = names_commands kind names
line_commands (Ok (admin.Health word)) = tt
line_commands (Err fault) = tt

-- commands, and behind them others
commands-append : (xs ys : List Event) → AreCommands xs → AreCommands ys → AreCommands (xs ++ ys)
commands-append [] ys a b = b
commands-append (x ∷ xs) ys a b = (a.0, commands-append xs ys a.1 b)

-- commands alone were asked of all shards
abbrev Asked : List Broadcast → Type 0
Asked asked = AreCommands (events_in asked)

commands-taken : (n : ℕ) (events : List Event) → AreCommands events → AreCommands (take n events)
commands-taken zero events none = tt
commands-taken (suc n) [] none = tt
commands-taken (suc n) (e ∷ events) none = (none.0, commands-taken n events none.1)

joined : (xs ys : List Broadcast) → Asked xs → Asked ys → Asked (xs ++ ys)
joined xs ys a b = subst AreCommands (sym (map-append (λ (c : Broadcast). c.event) xs ys)) (commands-append (events_in xs) (events_in ys) a b)

exchanges_commands : (says : ℕ → Type 0) (es more : List Exchange) → AllByRecursion (GoesOn says) es → Asked (asked_in more) → Asked (asked_in (es ++ more))
exchanges_commands says [] more all rest = rest
exchanges_commands says (e ∷ es) more all rest = joined e.asked (asked_in (es ++ more)) (subst AreCommands (sym all.0.all) (line_commands (command e.line))) (exchanges_commands says es more all.1 rest)

one_commands : (e : Exchange) → Asked e.asked → Asked (asked_in (e ∷ []))
one_commands e h = joined e.asked [] h tt

last_commands : (shards : ℕ) (settings : file.Settings) (says : ℕ → Type 0) (ended : SessionEnd) (last : List Exchange) (rest : List ℕ) (faults : ℕ) (source_now sink sink_now : Object) → EndsSession (admin_talk shards settings says) ended last rest faults source_now sink sink_now → Asked (asked_in last)
last_commands shards settings says model.Quit last rest faults source_now sink sink_now h = subst (λ (es : List Exchange). Asked (asked_in es)) (sym h.1) (one_commands h.0 (subst Asked (sym h.2.1) tt))
last_commands shards settings says model.AtEnd last rest faults source_now sink sink_now h = subst (λ (es : List Exchange). Asked (asked_in es)) (sym h.0) tt
last_commands shards settings says model.ReadFault last rest faults source_now sink sink_now h = subst (λ (es : List Exchange). Asked (asked_in es)) (sym h.0) tt
last_commands shards settings says model.WriteFault [] rest faults source_now sink sink_now h = tt
last_commands shards settings says model.WriteFault (e ∷ []) rest faults source_now sink sink_now h =
    one_commands e (subst AreCommands (sym h.1.0.prefix) (commands-taken (h.1.0.whole + 1) (admin_events (command e.line)) (line_commands (command e.line))))
last_commands shards settings says model.WriteFault (e ∷ d ∷ es) rest faults source_now sink sink_now h = absurd (h.1)
last_commands shards settings says model.LineTooLong last rest faults source_now sink sink_now h = subst (λ (es : List Exchange). Asked (asked_in es)) (sym h.0) tt

pub talked_commands : (shards : ℕ) (settings : file.Settings) (says : ℕ → Type 0) (d : Dialogue Exchange) (source source_now sink sink_now : Object) → HasTalked (admin_talk shards settings says) d source source_now sink sink_now → Asked (asked_in (lines_in d))
talked_commands shards settings says d source source_now sink sink_now h =
    exchanges_commands says d.exchanges d.last h.lines (last_commands shards settings says d.ended d.last d.rest source.faults source_now _ sink_now h.ends)

pub visits_commands : (shards : ℕ) (settings : file.Settings) (says : ℕ → Type 0) (visits : List Visit) (dialogues : List (Dialogue Exchange)) → AllZip (IsVisitOf shards settings says) visits dialogues → Asked (asked_by dialogues)
visits_commands shards settings says [] [] all = tt
visits_commands shards settings says [] (d ∷ dialogues) all = absurd (all)
visits_commands shards settings says (v ∷ visits) [] all = absurd (all)
visits_commands shards settings says (v ∷ visits) (d ∷ dialogues) all =
    joined (asked_in (lines_in d)) (asked_by dialogues) (talked_commands shards settings says d v.asking v.asking_now v.answered v.answered_now all.0.talked) (visits_commands shards settings says visits dialogues all.1)
