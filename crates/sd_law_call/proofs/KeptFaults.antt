-- What a call keeps of each object: its count of faults doesn't fall.
use Rattle.std.proofs.Common.{◌≡◌, ℕ, zero, suc, ◌≤◌, List, [], ◌∷◌, set, refl, sym, ap, subst, ◌∙◌, arith, Option, Some, None, inl, inr}
use Rattle.sd_model_outside.specs.Outside.{Place, File, Object, Used, HasRead, opened, object_at}
use Rattle.sd_model_outside.specs.Backend.{Backend}
use Rattle.sd_model_outside.proofs.BackendLemmas.{each_with_one}
use Rattle.sd_model_replay.specs.Replay.{deliveries}
use Rattle.sd_model_replay.specs.AccountingTheorem.{ReplayTrace, AccountingTheorem, End, Complete, Faulted, ReadFailed, WriteFailed, LimitReached, OutputAfter}
use Rattle.sd_model_call.specs.Drill.{drill_text}
use Rattle.sd_model_call.specs.Call.{Form, Replay, Serve, Proxy, Drill, form, Account, Answer, Done, Answers, Accounts, HasReplayed, IsNotTaken, NotBegun, NotTaken, StopsAmong, WritesTotals}
use Rattle.sd_model_call.specs.Opening.{World, Opening, Part, OfSettings, OfScript, OfSource, OfBeat, OfWire, OfBackend, OfDoor, OfStreams, IsAccepted, OnlySettings, opened_all, part_in, replay_openings, settled, with_part}
use Rattle.sd_law_call.specs.Completeness.{IsScripted, start_of}
use Rattle.sd_model_outside.proofs.DeliveryLemmas.{all_counts}
use Rattle.sd_law_record.proofs.SendLemmas.{sends_count}
use Rattle.sd_law_call.proofs.BegunLemmas.{Same, at_same, same_faults}
use Rattle.sd_law_call.proofs.CallEnds.{replayed}
use Rattle.sd_model_settings.specs.Settings.{Settings}
use Rattle.sd_model_call.proofs.Short.{OnlyOutput, IsLeftOff, AnswersReplay}
use Rattle.sd_model_outside.proofs.Short.{sends_on}
use Rattle.sd_model_replay.proofs.Short.{sendings}

pub record Kept (old new : World) : Type 0 where
  pub settings : old.settings.faults ≤ new.settings.faults
  pub script : old.seen.script.faults ≤ new.seen.script.faults
  pub backs : (b : Backend) → (old.seen.backs b).faults ≤ (new.seen.backs b).faults
  pub output : Used old.seen.output new.seen.output
  pub wires : (i : ℕ) → (object_at i old.seen.wires).faults ≤ (object_at i new.seen.wires).faults

used_same : (old new : Object) → new ≡ old → Used old new
used_same old new same = let faults = ap (λ (o : Object). o.faults) same in record { faults = omega (arith, faults); opened_at = ap (λ (o : Object). o.opened_at) same }

used_next : (a b c : Object) → Used a b → Used b c → Used a c
used_next a b c one two = record { faults = omega (arith, one.faults, two.faults); opened_at = two.opened_at ∙ one.opened_at }

-- the output is used, however a replay ends
output_used : (settings : Settings) (end : End) (trace : ReplayTrace) (old new : Object) → OutputAfter settings end trace old new → Used old new
output_used settings (Complete totals) trace old new h = let faults = ap (λ (o : Object). o.faults) h in record { faults = omega (arith, faults); opened_at = ap (λ (o : Object). o.opened_at) h }
output_used settings WriteFailed trace old new h = record { faults = h.failed.used.faults; opened_at = h.failed.used.opened_at }
output_used settings (Faulted at flaw) trace old new h = let faults = ap (λ (o : Object). o.faults) h in record { faults = omega (arith, faults); opened_at = ap (λ (o : Object). o.opened_at) h }
output_used settings ReadFailed trace old new h = let faults = ap (λ (o : Object). o.faults) h in record { faults = omega (arith, faults); opened_at = ap (λ (o : Object). o.opened_at) h }
output_used settings (LimitReached turns) trace old new h = let faults = ap (λ (o : Object). o.faults) h in record { faults = omega (arith, faults); opened_at = ap (λ (o : Object). o.opened_at) h }

read_faults : (bytes : List ℕ) (place : Place) (old new : Object) → HasRead bytes (opened place old) new → old.faults ≤ new.faults
read_faults bytes place old new h = let faults = ap (λ (o : Object). o.faults) h in omega (arith, faults)

-- a wire in the place of another whose count isn't higher
set_rises : (wires : List Object) (i j : ℕ) (o : Object) → (object_at i wires).faults ≤ o.faults → (object_at j wires).faults ≤ (object_at j (set wires i o)).faults
set_rises [] i j o rises = omega arith
set_rises (w ∷ wires) zero zero o rises = rises
set_rises (w ∷ wires) zero (suc j) o rises = omega arith
set_rises (w ∷ wires) (suc i) zero o rises = omega arith
set_rises (w ∷ wires) (suc i) (suc j) o rises = set_rises wires i j o rises

kept_next : (a b c : World) → Kept a b → Kept b c → Kept a c
kept_next a b c one two = record {
  settings = omega (arith, one.settings, two.settings);
  script = omega (arith, one.script, two.script);
  backs = λ b. omega (arith, one.backs b, two.backs b);
  output = used_next a.seen.output b.seen.output c.seen.output one.output two.output;
  wires = λ i. omega (arith, one.wires i, two.wires i);
}

-- of a world that differs in one part alone, whose count isn't lower
kept_part : (part : Part) (o : Object) (w : World) → (part_in w part).faults ≤ o.faults → Kept w (with_part part o w)
kept_part OfSettings o w rises = record { settings = rises; script = omega arith; backs = λ b. omega arith; output = used_same w.seen.output w.seen.output refl; wires = λ i. omega arith }
kept_part OfScript o w rises = record { settings = omega arith; script = rises; backs = λ b. omega arith; output = used_same w.seen.output w.seen.output refl; wires = λ i. omega arith }
kept_part (OfSource j) o w rises = record { settings = omega arith; script = omega arith; backs = λ b. omega arith; output = used_same w.seen.output w.seen.output refl; wires = λ i. omega arith }
kept_part OfBeat o w rises = record { settings = omega arith; script = omega arith; backs = λ b. omega arith; output = used_same w.seen.output w.seen.output refl; wires = λ i. omega arith }
kept_part (OfWire j) o w rises =
    record { settings = omega arith; script = omega arith; backs = λ b. omega arith; output = used_same w.seen.output w.seen.output refl; wires = λ i. set_rises w.seen.wires j i o rises }
kept_part (OfBackend b) o w rises =
    record {
      settings = omega arith;
      script = omega arith;
      backs = each_with_one (λ c x. (w.seen.backs c).faults ≤ x.faults) b o w.seen.backs rises (λ c. omega arith);
      output = used_same w.seen.output w.seen.output refl;
      wires = λ i. omega arith;
    }
kept_part OfDoor o w rises = record { settings = omega arith; script = omega arith; backs = λ b. omega arith; output = used_same w.seen.output w.seen.output refl; wires = λ i. omega arith }
kept_part OfStreams o w rises = record { settings = omega arith; script = omega arith; backs = λ b. omega arith; output = used_same w.seen.output w.seen.output refl; wires = λ i. omega arith }

-- of a world with the same counts and the same output
kept_same : (a b : World) → Same (λ o. o.faults) b a → Kept a b
kept_same a b same = record {
  settings = omega (arith, same.settings);
  script = omega (arith, same.script);
  backs = λ b. omega (arith, same.backs b);
  output = used_same a.seen.output b.seen.output same.output;
  wires = λ i. omega (arith, at_same (λ o. o.faults) i b.seen.wires a.seen.wires same.wires);
}

module _ (old new : World) where
  -- one that changed nothing but the settings
  kept_settings : old.settings.faults ≤ new.settings.faults → OnlySettings old new → Kept old new
  kept_settings rises only = subst (Kept old) (sym only) (kept_part OfSettings new.settings old rises)

  -- one whose settings were accepted
  kept_settled : (values : Settings) (now : Object) (name : List ℕ) → IsAccepted values (File name) old.settings now → Kept old (settled values now old)
  kept_settled values now name taken = record {
    settings = read_faults taken.bytes (File name) old.settings now taken.read.read;
    script = omega arith;
    backs = λ b. omega arith;
    output = used_same old.seen.output old.seen.output refl;
    wires = λ i. omega arith;
  }

  -- and then parts were opened
  kept_opened : (values : Settings) (now : Object) (name : List ℕ) (parts : List Opening) → IsAccepted values (File name) old.settings now → Kept old (opened_all (settled values now old) parts)
  kept_opened values now name parts taken =
      kept_next old (settled values now old) (opened_all (settled values now old) parts) (kept_settled values now name taken) (kept_same (settled values now old) (opened_all (settled values now old) parts) (same_faults parts (settled values now old)))

  kept_not_taken : (name : List ℕ) (answer : Answer) → NotTaken name answer old new → Kept old new
  kept_not_taken name answer h = kept_settings (by_why h.why) h.only where
    left_off : IsLeftOff (File name) old.settings new.settings → old.settings.faults ≤ new.settings.faults
    left_off (inl same) = let faults = ap (λ (o : Object). o.faults) same in omega (arith, faults)
    left_off (inr (bytes, read)) = read_faults bytes (File name) old.settings new.settings read

    by_why : IsNotTaken answer (File name) old.settings new.settings → old.settings.faults ≤ new.settings.faults
    by_why (inl (is, left)) = left_off left
    by_why (inr (inl (is, fails))) = fails.used.faults
    by_why (inr (inr (inl (is, fails)))) = let first = read_faults fails.bytes (File name) old.settings fails.before fails.read in omega (arith, first, fails.failed.used.faults)
    by_why (inr (inr (inr (flaw, is, has)))) = read_faults has.bytes (File name) old.settings new.settings has.read.read

  kept_not_begun : (parts : Settings → List Opening) (name : List ℕ) (answer : Answer) → NotBegun parts name answer old new → Kept old new
  kept_not_begun parts name answer h = by_stop h.stops where
    by_stop : StopsAmong (parts h.values) answer (settled h.values h.settings old) new → Kept old new
    by_stop (inl (is, some)) = subst (Kept old) (sym some.opened) (kept_opened h.values h.settings name some.before h.taken)
    by_stop (inr (part, is, stops)) =
        let before = opened_all (settled h.values h.settings old) stops.before in
        subst (Kept old) (sym stops.others) (kept_next old before (with_part part (part_in new part) before) (kept_opened h.values h.settings name stops.before h.taken) (kept_part part (part_in new part) before stops.failed.used.faults))

  kept_run : (name script : List ℕ) (answer : Answer) (a : Account) → AccountingTheorem a.force a.trace a.start a.end → HasReplayed name script answer a old new → Kept old new
  kept_run name script answer a theorem h =
      let r = replayed name script answer a old new theorem h in
      let begin = start_of h.values script old new in
      let same = same_faults (replay_openings script h.values) (settled h.values new.settings old) in
      let back : (b : Backend) → Used (begin.backs b) (new.seen.backs b) = λ b. (all_counts (deliveries h.values b r.trace.played) (begin.backs b) (new.seen.backs b) (r.theorem.texts b)).used in
      let read = read_faults h.taken.bytes (File name) old.settings h.settings h.taken.read.read in
      let left = ap (λ (w : World). w.settings.faults) h.others in
      record {
        settings = omega (arith, read, left);
        script = omega (arith, same.script, r.ends.script.faults);
        backs = λ b. omega (arith, same.backs b, (back b).faults);
        output = used_next old.seen.output begin.output new.seen.output (used_same old.seen.output begin.output same.output) (output_used h.values h.end r.trace begin.output new.seen.output r.ends.output);
        wires = λ i. omega (arith, at_same (λ o. o.faults) i begin.wires old.seen.wires same.wires, (sends_count (sends_on i (sendings r.trace.played)) (object_at i begin.wires) (object_at i new.seen.wires) (r.theorem.sends.each i)).used.faults);
      }

  kept_by : (name script : List ℕ) (answer : Answer) (a : Account) → AccountingTheorem a.force a.trace a.start a.end → AnswersReplay name script answer a old new → Kept old new
  kept_by name script answer a theorem (inl (inl taken, idle)) = kept_not_taken name answer taken
  kept_by name script answer a theorem (inl (inr not, idle)) = kept_not_begun (replay_openings script) name answer not
  kept_by name script answer a theorem (inr h) = kept_run name script answer a theorem h

  -- a call that changed nothing but the output
  kept_output : OnlyOutput old new → Used old.seen.output new.seen.output → Kept old new
  kept_output only used = subst (Kept old) (sym only) (record { settings = omega arith; script = omega arith; backs = λ b. omega arith; output = used; wires = λ i. omega arith })

  -- a call that changed nothing
  kept_all : new ≡ old → Kept old new
  kept_all same = kept_settings (let faults = ap (λ (w : World). w.settings.faults) same in omega (arith, faults)) (same ∙ ap (λ (w : World). record old { settings = w.settings }) (sym same))

  drill_output : (text : List ℕ) (answer : Answer) → WritesTotals text Done answer old.seen.output new.seen.output → Used old.seen.output new.seen.output
  drill_output text answer (inl (is, written)) = let faults = ap (λ (o : Object). o.faults) written in record { faults = omega (arith, faults); opened_at = ap (λ (o : Object). o.opened_at) written }
  drill_output text answer (inr (is, failed)) = failed.used

  kept_form : (f : Option Form) (answer : Answer) (a : Account) → IsScripted f → AccountingTheorem a.force a.trace a.start a.end → Answers f answer a old new → Kept old new
  kept_form None answer a asks theorem (is, nothing) = kept_all nothing.0
  kept_form (Some (Replay name script)) answer a asks theorem h = kept_by name script answer a theorem h
  kept_form (Some (Serve name)) answer a asks theorem h = absurd asks
  kept_form (Some (Proxy name)) answer a asks theorem h = absurd asks
  kept_form (Some (Drill n)) answer a asks theorem (inl (is, nothing)) = kept_all nothing.0
  kept_form (Some (Drill n)) answer a asks theorem (inr h) = kept_output h.only (drill_output (drill_text n) answer h.written)

pub kept : (words : List (List ℕ)) (old new : World) (answer : Answer) → IsScripted (form words) → Accounts words old new answer → Kept old new
kept words old new answer asks h = kept_form old new (form words) answer h.account asks h.theorem h.answers
