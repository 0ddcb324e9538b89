-- How a call answers, where its replay can end in one way only, and where its settings are refused.
use Rattle.std.proofs.Common.{◌≡◌, ◌⊎◌, ℕ, ◌<◌, IsTrue, List, ◌++◌, length, refl, sym, ap, subst, ◌∙◌, Option, Some, None, Ok, Err, inl, inr}
use Rattle.sd_model_outside.specs.Outside.{Object, Rose, File, object_at}
use Rattle.sd_model_settings.specs.Settings.{SettingsFlaw, settings, Settings}
use Rattle.sd_model_replay.specs.Replay.{is_used, targets_of}
use Rattle.sd_model_outside.specs.Backend.{Backend}
use Rattle.sd_model_replay.specs.Script.{ScriptCommand, end_word, ScriptFlaw}
use Rattle.sd_model_replay.specs.AccountingTheorem.{totals_after, Seen, ReplayTrace, AccountingTheorem, End, Complete, Faulted, ReadFailed, WriteFailed, LimitReached, EndsAs}
use Rattle.sd_replay.specs.Replayed.{Replayed}
use Rattle.sd_model_call.specs.Call.{Form, Account, Answer, Done, NoMemory, Misset, NotOpened, NotRead, Answers, Accounts, HasReplayed, ending}
use Rattle.sd_model_call.specs.Opening.{World, Part, OfSettings, OfScript, OfSource, OfBeat, OfWire, OfBackend, OfDoor, OfStreams, IsAccepted, IsFlawed, opened_all, replay_openings, settled}
use Rattle.sd_law_call.specs.Completeness.{Asks, AsksPlainly, IsSteady, IsUnhindered, IsCutOff, IsLongest, IsWhole, IsBlocked, IsOutward, WasExecuted, NoneMissed, refusal, start_of}
use Rattle.sd_law_call.specs.ServerCompleteness.{HasFaultOf}
use Rattle.sd_law_call.proofs.BegunLemmas.{Same, accepted_so, at_same, has_flaw, not_begun, not_taken, same_all}
use Rattle.sd_law_call.proofs.ReplayEnds.{executes}
use Rattle.sd_law_call.proofs.Openings.{IsNamed, all_named}
use Rattle.sd_model_call.proofs.Short.{AnswersReplay, started}

module _ (script : List ℕ) (values : Settings) (now : Object) (old : World) (new : Seen) where
  abbrev world : World
  world = settled values now old

  abbrev begin : Seen
  begin = started script values world

  tells : Same (λ o. o.content) (opened_all world (replay_openings script values)) world
  tells = same_all (λ o. o.content) (λ place o. refl) (replay_openings script values) world

  faults : Same (λ o. o.faults) (opened_all world (replay_openings script values)) world
  faults = same_all (λ o. o.faults) (λ place o. refl) (replay_openings script values) world

  -- what is known of a script and an output is known once the script is opened
  steady_started : (commands : List ScriptCommand) (bytes : List ℕ) → IsSteady values old.seen new commands bytes → IsSteady values begin new commands bytes
  steady_started commands bytes h = record {
    script = tells.script ∙ h.script;
    legal = h.legal;
    script_faults = subst (λ (n : ℕ). ¬ Rose n new.script.faults) (sym faults.script) h.script_faults;
  }

  pub unhindered_started : (commands : List ScriptCommand) (rest : List ℕ) → IsUnhindered values old.seen new commands rest → IsUnhindered values begin new commands rest
  unhindered_started commands rest h = record {
    steady = steady_started commands (end_word ++ rest) h.steady;
    few = h.few;
    output_faults = subst (λ (o : Object). ¬ Rose o.faults new.output.faults) (sym faults.output) h.output_faults;
  }

  pub cut_started : (commands : List ScriptCommand) (flaw : ScriptFlaw) (bytes : List ℕ) → IsCutOff values old.seen new commands flaw bytes → IsCutOff values begin new commands flaw bytes
  cut_started commands flaw bytes h = record { steady = steady_started commands bytes h.steady; few = h.few; begins = h.begins }

  pub longest_started : (commands : List ScriptCommand) (bytes : List ℕ) → IsLongest values old.seen new commands bytes → IsLongest values begin new commands bytes
  longest_started commands bytes h = record { steady = steady_started commands bytes h.steady; most = h.most }

  pub none_missed_started : NoneMissed values old.seen new → NoneMissed values begin new
  none_missed_started none = record { backends = backends; wires = wires } where
    backends : (back : Backend) → IsTrue (is_used values back) → ¬ Rose (begin.backs back).faults (new.backs back).faults
    backends back used = subst (λ (n : ℕ). ¬ Rose n (new.backs back).faults) (sym (faults.backs back)) (none.backends back used)

    wires : (i : ℕ) → i < length (targets_of values) → ¬ Rose (object_at i begin.wires).faults (object_at i new.wires).faults
    wires i below = subst (λ (n : ℕ). ¬ Rose n (object_at i new.wires).faults) (sym (at_same (λ o. o.faults) i begin.wires old.seen.wires faults.wires)) (none.wires i below)

-- a replay that the program began, from what was seen then
pub replayed : (name script : List ℕ) (answer : Answer) (a : Account) (old new : World) → AccountingTheorem a.force a.trace a.start a.end → (h : HasReplayed name script answer a old new)
    → Replayed h.values h.end (start_of h.values script old new) new.seen
replayed name script answer a old new theorem h =
    let kept : h.settings ≡ new.settings = sym (ap (λ (w : World). w.settings) h.others) in
    subst (λ (force : Settings). Replayed force h.end (start_of h.values script old new) new.seen) h.force
    (subst (λ (o : Object). Replayed a.force h.end (started script h.values (settled h.values o old)) new.seen) kept
    (subst (λ (at : Seen). Replayed a.force h.end at new.seen) h.since
    (subst (λ (at : Seen). Replayed a.force h.end a.start at) h.until (record { trace = a.trace; theorem = theorem; ends = h.ends }))))

-- a call of these words, where a replay of their script ends in one way only
module _ (words : List (List ℕ)) (values : Settings) (old new : World) (plainly : AsksPlainly words values old new) where
  abbrev pub name : List ℕ
  name = plainly.asks.settings

  abbrev pub script : List ℕ
  script = plainly.asks.script

  in_force : (taken : Settings) (now : Object) → IsAccepted taken (File name) old.settings now → taken ≡ values
  in_force taken now h = let same : Ok taken ≡ Ok values = sym (accepted_so name plainly.bytes old plainly.asks.content taken now h) ∙ plainly.accepted in cc

  pub answers_so : (answer : Answer) (h : Accounts words old new answer) → AnswersReplay name script answer h.account old new
  answers_so answer h = subst (λ (f : Option Form). Answers f answer h.account old new) plainly.asks.form h.answers

  -- a replay ran by these settings
  replayed_so : (answer : Answer) (a : Account) → AccountingTheorem a.force a.trace a.start a.end → (h : HasReplayed name script answer a old new) → Replayed values h.end (start_of values script old new) new.seen
  replayed_so answer a theorem h =
      subst (λ (v : Settings). Replayed v h.end (start_of v script old new) new.seen) (in_force h.values h.settings h.taken) (replayed name script answer a old new theorem h)

  -- these answers, or that no memory was left, or that a wire or a backend couldn't be opened
  abbrev pub IsAmong : (Answer → Type 0) → Answer → Type 0
  IsAmong Expected answer = (Expected answer ⊎ (answer ≡ NoMemory)) ⊎ ((part : Part) × IsOutward part × (answer ≡ NotOpened part))

  module _ (Expected : Answer → Type 0)
      (only : (end : End) → Replayed values end (start_of values script old new) new.seen → Expected (ending end))
      (script_faults : ¬ Rose old.seen.script.faults new.seen.script.faults) where
    by_part : (s : Settings) (part : Part) → IsNamed s part × HasFaultOf part old new → IsAmong Expected (NotOpened part)
    by_part s OfSettings h = absurd h.0
    by_part s OfScript h = absurd (script_faults h.1)
    by_part s (OfSource i) h = absurd h.0
    by_part s OfBeat h = absurd h.0
    by_part s (OfWire i) h = inr (OfWire i, tt, refl)
    by_part s (OfBackend b) h = inr (OfBackend b, tt, refl)
    by_part s OfDoor h = absurd h.0
    by_part s OfStreams h = absurd h.0

    by_flaw : (flaw : SettingsFlaw) → IsFlawed flaw (File name) old.settings new.settings → IsAmong Expected (Misset flaw)
    by_flaw flaw has = let same : Err flaw ≡ Ok values = sym (has_flaw name plainly.bytes old plainly.asks.content flaw new.settings has) ∙ plainly.accepted in absurd (cc)

    full_by : (answer : Answer) (a : Account) → AccountingTheorem a.force a.trace a.start a.end → AnswersReplay name script answer a old new → IsAmong Expected answer
    full_by answer a theorem (inl (inl taken, idle)) =
        not_taken name old new (IsAmong Expected) (inl (inr refl)) answer taken (λ rose. absurd (plainly.settings_faults rose)) (λ rose. absurd (plainly.settings_faults rose)) by_flaw
    full_by answer a theorem (inl (inr not, idle)) =
        not_begun name old new (IsAmong Expected) (inl (inr refl)) (replay_openings script) (IsNamed not.values) answer not (all_named script not.values) (by_part not.values)
    full_by answer a theorem (inr h) = subst (IsAmong Expected) (sym h.answer_is) (inl (inl (only h.end (replayed_so answer a theorem h))))

    pub full_answer : (answer : Answer) → Accounts words old new answer → IsAmong Expected answer
    full_answer answer h = full_by answer h.account h.theorem (answers_so answer h)

  -- a wire or a backend that couldn't be opened is named, and counts a fault then
  module _ (part : Part) (outward : IsOutward part) where
    abbrev IsClosed : Answer → Type 0
    IsClosed answer = answer ≡ NotOpened part → IsNamed values part × HasFaultOf part old new

    not_settings : (answer : Answer) → answer ≡ NotOpened OfSettings → IsClosed answer
    not_settings answer is closed = let same : OfSettings ≡ part = (let both : NotOpened OfSettings ≡ NotOpened part = sym is ∙ closed in cc) in absurd (subst IsOutward (sym same) outward)

    not_ending : (end : End) → IsClosed (ending end)
    not_ending (Complete totals) closed = absurd (cc)
    not_ending (Faulted at flaw) closed = absurd (cc)
    not_ending ReadFailed closed = absurd (cc)
    not_ending WriteFailed closed = absurd (cc)
    not_ending (LimitReached turns) closed = absurd (cc)

    by_opening : (taken : Settings) → taken ≡ values → (other : Part) → IsNamed taken other × HasFaultOf other old new → IsClosed (NotOpened other)
    by_opening taken same other h closed =
        let one : other ≡ part = cc in
        subst (λ (p : Part). IsNamed values p × HasFaultOf p old new) one (subst (λ (v : Settings). IsNamed v other) same h.0, h.1)

    closed_by : (answer : Answer) (a : Account) → AnswersReplay name script answer a old new → IsClosed answer
    closed_by answer a (inl (inl taken, idle)) =
        not_taken name old new IsClosed (λ is. absurd (cc)) answer taken (λ rose. not_settings (NotOpened OfSettings) refl) (λ rose is. absurd (cc)) (λ flaw has is. absurd (cc))
    closed_by answer a (inl (inr not, idle)) =
        not_begun name old new IsClosed (λ is. absurd (cc)) (replay_openings script) (IsNamed not.values) answer not (all_named script not.values) (by_opening not.values (in_force not.values not.settings not.taken))
    closed_by answer a (inr h) = subst IsClosed (sym h.answer_is) (not_ending h.end)

  pub outward_opens : (part : Part) → IsOutward part → NoneMissed values old.seen new.seen → Accounts words old new (NotOpened part) → ⊥
  outward_opens part outward none h = none_rose part outward (closed_by part outward (NotOpened part) h.account (answers_so (NotOpened part) h) refl) where
    none_rose : (p : Part) → IsOutward p → IsNamed values p × HasFaultOf p old new → ⊥
    none_rose OfSettings out at = out
    none_rose OfScript out at = out
    none_rose (OfSource i) out at = out
    none_rose OfBeat out at = out
    none_rose (OfWire i) out at = none.wires i at.0 at.1
    none_rose (OfBackend b) out at = none.backends b at.0 at.1
    none_rose OfDoor out at = out
    none_rose OfStreams out at = out

  -- a call that says that it did what a script asks executed its records
  pub done_executes : (commands : List ScriptCommand) (rest : List ℕ) → IsUnhindered values old.seen new.seen commands rest
      → Accounts words old new Done → WasExecuted values (start_of values script old new) new.seen commands rest
  done_executes commands rest free h = by_answer (answers_so Done h) where
    begin : Seen
    begin = start_of values script old new

    known : IsUnhindered values begin new.seen commands rest
    known = unhindered_started script values new.settings old new.seen commands rest free

    whole : (trace : ReplayTrace) (end : End) → Done ≡ ending end → EndsAs values end trace begin new.seen → EndsAs values (Complete (totals_after values trace.played)) trace begin new.seen
    whole trace (Complete totals) is ends = subst (λ t. EndsAs values (Complete t) trace begin new.seen) ends.read.2 ends
    whole trace (Faulted at flaw) is ends = absurd (cc)
    whole trace ReadFailed is ends = absurd (cc)
    whole trace WriteFailed is ends = absurd (cc)
    whole trace (LimitReached turns) is ends = absurd (cc)

    by_answer : AnswersReplay name script Done h.account old new → WasExecuted values begin new.seen commands rest
    by_answer (inl (inl taken, idle)) =
        not_taken name old new (λ answer. Done ≡ answer → WasExecuted values begin new.seen commands rest) (λ is. absurd (cc)) Done taken (λ rose is. absurd (cc)) (λ rose is. absurd (cc)) (λ flaw has is. absurd (cc)) refl
    by_answer (inl (inr not, idle)) =
        not_begun name old new (λ answer. Done ≡ answer → WasExecuted values begin new.seen commands rest) (λ is. absurd (cc)) (replay_openings script) (IsNamed not.values) Done not (all_named script not.values) (λ part at is. absurd (cc)) refl
    by_answer (inr ran) =
        let r = replayed_so Done h.account h.theorem ran in
        executes values begin new.seen commands rest known.steady known.few r.trace r.theorem (whole r.trace ran.end ran.answer_is r.ends)

-- a call of settings that are refused
module _ (words : List (List ℕ)) (old new : World) (bytes : List ℕ) (refused : Answer) (asks : Asks words old new bytes) (is : refusal (settings bytes) ≡ Some refused) where
  -- settings that were taken aren't refused
  not_refused : {P : Type 0} (values : Settings) (now : Object) → IsAccepted values (File asks.settings) old.settings now → P
  not_refused values now h =
      let both : None ≡ Some refused = sym (ap refusal (accepted_so asks.settings bytes old asks.content values now h)) ∙ is in absurd (cc)

  -- the answer that is expected, or that no memory was left, or that the settings couldn't be opened or read, which counted a fault
  abbrev IsRefused : Answer → Type 0
  IsRefused answer = IsWhole refused answer ⊎ Rose old.settings.faults new.settings.faults × ((answer ≡ NotOpened OfSettings) ⊎ (answer ≡ NotRead OfSettings))

  flawed_so : (flaw : SettingsFlaw) → IsFlawed flaw (File asks.settings) old.settings new.settings → IsRefused (Misset flaw)
  flawed_so flaw has =
      let said : Some (Misset flaw) ≡ Some refused = sym (ap refusal (has_flaw asks.settings bytes old asks.content flaw new.settings has)) ∙ is in inl (inl cc)

  refused_by : (answer : Answer) (a : Account) → AnswersReplay asks.settings asks.script answer a old new → IsRefused answer
  refused_by answer a (inl (inl taken, idle)) =
      not_taken asks.settings old new IsRefused (inl (inr refl)) answer taken (λ rose. inr (rose, inl refl)) (λ rose. inr (rose, inr refl)) flawed_so
  refused_by answer a (inl (inr not, idle)) = not_refused not.values not.settings not.taken
  refused_by answer a (inr h) = not_refused h.values h.settings h.taken

  refused_so : (answer : Answer) → Accounts words old new answer → IsRefused answer
  refused_so answer h = refused_by answer h.account (subst (λ (f : Option Form). Answers f answer h.account old new) asks.form h.answers)

  pub blocked_answer : (answer : Answer) → Accounts words old new answer → IsBlocked refused answer
  blocked_answer answer h = elim (refused_so answer h) [
    | inl whole ↦ inl whole
    | inr stopped ↦ inr stopped.1
  ]

  pub blocked_whole : (answer : Answer) → ¬ Rose old.settings.faults new.settings.faults → Accounts words old new answer → IsWhole refused answer
  blocked_whole answer steady h = elim (refused_so answer h) [
    | inl whole ↦ whole
    | inr stopped ↦ absurd (steady stopped.0)
  ]
