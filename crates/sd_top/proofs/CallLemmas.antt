-- What a call answers, by the step that ended it.
use Rattle.std.proofs.Common.{◌≡◌, List, ℕ, [], Option, Some, None, inl, inr, refl, sym, subst}
use Rattle.sd_model_outside.specs.Outside.{File, Object}
use Rattle.sd_model_outside.proofs.OutsideLemmas.{Reads-nil}
use Rattle.sd_model_settings.specs.Settings as file
use Rattle.sd_model_settings.specs.Settings.{default_settings, Settings}
use Rattle.sd_model_record.proofs.WireLemmas.{AreRepeated-none}
use Rattle.sd_model_replay.specs.Replay.{bounds_of}
use Rattle.sd_model_replay.specs.AccountingTheorem.{Seen, ReplayTrace, AccountingTheorem, End}
use Rattle.sd_replay.specs.Replayed.{Replayed}
use Rattle.sd_law_record.proofs.AccountingLemmas.{are_accounted}
use Rattle.sd_model_replay.proofs.HistoryLemmas.{arrivals-history_at, state-history_at}
use Rattle.sd_model_call.specs.Call.{Form, Replay, Drill, form, Account, Answer, NoForm, Answers, Accounts, IsIdle, IsNotTaken, StopsAmong, ending}
use Rattle.sd_model_call.specs.Opening.{World, IsAccepted, replay_openings, settled}
use Rattle.sd_top.specs.Replaying.{IsDrill, IsReplay}
use Rattle.sd_model_call.proofs.Short.{AnswersReplay, started}

-- no record and no byte
abbrev nothing : ReplayTrace
nothing = record { played = []; ahead = [] }

-- what is in force where no settings were accepted
abbrev plain : Settings
plain = default_settings

-- the accounting theorem where nothing was executed
nothing_done : (now : Seen) → AccountingTheorem plain nothing now now
nothing_done now =
    record {
      read = Reads-nil now.script.content;
      legal = tt;
      accounted = are_accounted plain [];
      submitted = λ i below. arrivals-history_at (bounds_of plain) i [];
      state = λ i below. state-history_at (bounds_of plain) i [];
      used = tt;
      texts = λ back. refl;
      sends = AreRepeated-none now.wires;
    }

-- the account of a call that executed nothing
abbrev idle_account : Seen → Account
idle_account now = record { force = plain; trace = nothing; start = now; end = now }

-- nothing was executed
idle : (now : World) → IsIdle (idle_account now.seen) now
idle now = record { played = refl; ahead = refl; since = refl; until = refl }

-- the words are of no form
pub by_words : (words : List (List ℕ)) (old : World) → form words ≡ None → Accounts words old old NoForm
by_words words old none =
    record {
      account = idle_account old.seen;
      theorem = nothing_done old.seen;
      answers = subst (λ (f : Option Form). Answers f NoForm (idle_account old.seen) old old) (sym none) (refl, (refl, idle old));
    }

-- they ask for a replay
pub by_files : (words : List (List ℕ)) (settings script : List ℕ) (old new : World) (answer : Answer) → form words ≡ Some (Replay settings script) → IsReplay settings script answer old new → Accounts words old new answer
by_files words settings script old new answer asked h =
    record {
      account = h.account;
      theorem = h.theorem;
      answers = subst (λ (f : Option Form). Answers f answer h.account old new) (sym asked) h.answers;
    }

-- they ask for what executes no record of a script, whose account is its own
pub by_own : (words : List (List ℕ)) (asks : Form) (old new : World) (answer : Answer) → form words ≡ Some asks → Answers (Some asks) answer (idle_account new.seen) old new → Accounts words old new answer
by_own words asks old new answer asked h =
    record {
      account = idle_account new.seen;
      theorem = nothing_done new.seen;
      answers = subst (λ (f : Option Form). Answers f answer (idle_account new.seen) old new) (sym asked) h;
    }

-- they ask for a drill, which used nothing but the output
pub by_drill : (words : List (List ℕ)) (n : ℕ) (old : World) (output : Object) (answer : Answer) → form words ≡ Some (Drill n) → IsDrill n answer old.seen.output output → Accounts words old (record old { seen = record old.seen { output = output } }) answer
by_drill words n old output answer asked (inl (is, kept)) =
    let new : World = record old { seen = record old.seen { output = output } } in
    let same : new ≡ old = λ i. record old { seen = record old.seen { output = kept i } } in
    record {
      account = idle_account new.seen;
      theorem = nothing_done new.seen;
      answers = subst (λ (f : Option Form). Answers f answer (idle_account new.seen) old new) (sym asked) (inl (is, (same, idle new)));
    }
by_drill words n old output answer asked (inr h) =
    let new : World = record old { seen = record old.seen { output = output } } in
    record {
      account = h.account;
      theorem = h.theorem;
      answers = subst (λ (f : Option Form). Answers f answer h.account old new) (sym asked) (inr (record { drilled = h.drilled; complete = h.complete; written = h.written; only = refl }));
    }

module _ (old new : World) (settings script : List ℕ) where
  -- such a call executed nothing
  stopped : (answer : Answer) → AnswersReplay settings script answer (idle_account new.seen) old new → IsReplay settings script answer old new
  stopped answer answers = record { account = idle_account new.seen; theorem = nothing_done new.seen; answers = answers }

  -- the settings ended it, and nothing else was opened
  pub by_settings : (answer : Answer) → IsNotTaken answer (File settings) old.settings new.settings → new ≡ record old { settings = new.settings } → IsReplay settings script answer old new
  by_settings answer why only = stopped answer (inl (inl (record { why = why; only = only }), idle new))

  -- the settings were taken
  module _ (values : file.Settings) (now : Object) (taken : IsAccepted values (File settings) old.settings now) where
    -- an opening, or memory, ended it
    pub by_opening : (answer : Answer) → StopsAmong (replay_openings script values) answer (settled values now old) new → IsReplay settings script answer old new
    by_opening answer stops = stopped answer (inl (inr (record { values = values; settings = now; taken = taken; stops = stops }), idle new))

    -- a replay ended it
    pub by_replay : (answer : Answer) (end : End) → answer ≡ ending end → new ≡ record (settled values now old) { seen = new.seen } → Replayed values end (started script values (settled values now old)) new.seen → IsReplay settings script answer old new
    by_replay answer end is others h =
        record {
          account = record { force = values; trace = h.trace; start = started script values (settled values now old); end = new.seen };
          theorem = h.theorem;
          answers = inr (record { values = values; settings = now; taken = taken; force = refl; since = refl; until = refl; end = end; ends = h.ends; answer_is = is; others = others });
        }
