-- By what the replay of such a call can end in.
use Rattle.std.proofs.Common.{◌≡◌, ◌⊎◌, length, ap, subst, inl, inr}
use Rattle.std.specs.Prelude.{min}
use Rattle.sd_model_outside.specs.Outside.{last_count}
use Rattle.sd_model_replay.specs.Script.{script_text}
use Rattle.sd_model_replay.specs.AccountingTheorem.{End, Faulted, LimitReached}
use Rattle.sd_model_call.specs.Opening.{Part}
use Rattle.sd_model_call.specs.Call.{Accounts, Answer, Done, NoMemory, NotOpened, NotWritten, ending}
use Rattle.sd_law_call.specs.Completeness.{EndsSo, IsOutward, IsReported}
use Rattle.sd_law_call.proofs.ReplayEnds.{replay_completes, replay_stops, replay_wears_out, executes_well}
use Rattle.sd_law_call.proofs.CallEnds.{unhindered_started, cut_started, longest_started, none_missed_started, full_answer, outward_opens, done_executes}
use Rattle.sd_law_call.proofs.completeness.unhindered_calls_complete.Goals as goal
use Rattle.sd_model_serve.specs.Receiving.{most_turns}

-- the answer to an end, or that the output failed
abbrev TellsSo : End → Answer → Type 0
TellsSo ended answer = (answer ≡ ending ended) ⊎ (answer ≡ NotWritten)

tells : (ended end : End) → EndsSo ended end → TellsSo ended (ending end)
tells ended end (inl is) = inl (ap ending is)
tells ended end (inr is) = inr (ap ending is)

reported : (ended : End) (answer : Answer) → (TellsSo ended answer ⊎ (answer ≡ NoMemory)) ⊎ ((part : Part) × IsOutward part × (answer ≡ NotOpened part)) → IsReported (ending ended) answer
reported ended answer (inl (inl (inl is))) = inl (inl (inl is))
reported ended answer (inl (inl (inr failed))) = inr failed
reported ended answer (inl (inr none)) = inl (inl (inr none))
reported ended answer (inr closed) = inl (inr closed)

pub returns-clause-answer : goal.returns-clause-answer
returns-clause-answer c words values old new commands rest answer plainly free h =
    full_answer words values old new plainly (λ a. a ≡ Done) (λ end r. ap ending (replay_completes _ _ _ _ _ end (unhindered_started plainly.asks.script values new.settings old new.seen commands rest free) r).1) free.steady.script_faults answer h

pub returns-clause-outward : goal.returns-clause-outward
returns-clause-outward c words values old new ended answer plainly none h full = elim full [
  | inl whole ↦ whole
  | inr closed ↦ absurd (outward_opens words values old new plainly closed.0 closed.1 none (subst (λ (a : Answer). Accounts words old new a) closed.2 h))
]

pub returns-clause-whole : goal.returns-clause-whole
returns-clause-whole c words values old new commands rest answer plainly free none h =
    returns-clause-outward c words values old new Done answer plainly none h (returns-clause-answer c words values old new commands rest answer plainly free h)

pub returns-clause-done : goal.returns-clause-done
returns-clause-done c words values old new commands rest plainly free h = done_executes words values old new plainly commands rest free h

pub returns-clause-well : goal.returns-clause-well
returns-clause-well c words values old new commands rest plainly free none h =
    executes_well _ _ _ commands rest (none_missed_started plainly.asks.script values new.settings old new.seen none) (done_executes words values old new plainly commands rest free h)

pub returns-clause-cut_off : goal.returns-clause-cut_off
returns-clause-cut_off c words values old new commands flaw bytes answer plainly cut h =
    let ended = Faulted (min (length (script_text commands)) last_count) flaw in
    reported ended answer
    (full_answer words values old new plainly (TellsSo ended) (λ end r. tells ended end (replay_stops _ _ _ _ flaw _ end (cut_started plainly.asks.script values new.settings old new.seen commands flaw bytes cut) r)) cut.steady.script_faults answer h)

pub returns-clause-longest : goal.returns-clause-longest
returns-clause-longest c words values old new commands bytes answer plainly longest h =
    let ended = LimitReached most_turns in
    reported ended answer
    (full_answer words values old new plainly (TellsSo ended) (λ end r. tells ended end (replay_wears_out _ _ _ _ _ end (longest_started plainly.asks.script values new.settings old new.seen commands bytes longest) r)) longest.steady.script_faults answer h)
