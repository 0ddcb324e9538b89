-- What a drill answers, by how its replay ended.
use Rattle.sd_model_outside.specs.Backend.{Backend, Graphite}
use Rattle.std.proofs.Common.{◌≡◌, ℕ, ◌≤◌, List, [], ◌∷◌, ◌++◌, Ok, codes, refl, sym, ap, subst, ◌∙◌, inl, inr}
use Rattle.sd_model_outside.specs.Outside.{Object, Number, HasFailedBehind, given}
use Rattle.sd_model_outside.proofs.WriteLemmas.{behind-later, behind-longer, given-given}
use Rattle.sd_model_settings.specs.Settings as file
use Rattle.sd_model_settings.specs.Settings.{default_settings}
use Rattle.sd_model_settings.proofs.OnLiterals.{settings_on_literals}
use Rattle.sd_model_record.specs.Totals.{Total, total_line, totals_text}
use Rattle.sd_model_replay.specs.AccountingTheorem.{totals_after, Seen, End, Complete, WriteFailed}
use Rattle.sd_model_record.proofs.TotalLemmas.{totals_text-snoc}
use Rattle.sd_replay.specs.Replayed.{Replayed}
use Rattle.sd_model_call.specs.Call.{Account, Answer, Done, Drilled, WritesTotals, drill_end, NotWritten, ending}
use Rattle.sd_model_call.specs.Drill.{bytes_counted, drill_start, drill_text, drilled}
use Rattle.sd_model_call.proofs.DrillEnds.{DrillEnd, drill_totals}
use Rattle.sd_law_call.proofs.DrillEnds.{drill_ends}
use Rattle.sd_replay.specs.Ends.{end_of}
use Rattle.sd_script.specs.declared.fault.ScriptFault.TheVariants.{Word, Length, Truncated}
use Rattle.sd_replay.specs.declared.run.ReplayEnd.{ReplayEnd}
use Rattle.sd_replay.specs.declared.run.ReplayEnd.TheVariants as code
use Rattle.sd_admin.specs.declared.totals.Totals.{Totals as CodeTotals}
use Rattle.sd_top.specs.Replaying.{IsDrill}
use Rattle.sd_model_call.proofs.Short.{most_packets}

-- the settings of an empty file
empty_file : file.settings [] ≡ Ok default_settings
unfolding settings_on_literals
empty_file = refl

pub in_force : (values : file.Settings) → file.settings [] ≡ Ok values → values ≡ default_settings
in_force values is = let same : Ok values ≡ Ok default_settings = sym is ∙ empty_file in cc

-- a replay of the code that didn't end with `Ok` isn't complete
pub not_complete : (r : ReplayEnd) → ((totals : CodeTotals) → r ≡ code.Ok totals → ⊥) → (totals : List Total) → end_of r ≡ Complete totals → ⊥
not_complete (code.Ok t) other totals is = other t refl
not_complete (code.Script (Word at)) other totals is = absurd (cc)
not_complete (code.Script (Length at)) other totals is = absurd (cc)
not_complete (code.Script (Truncated at)) other totals is = absurd (cc)
not_complete code.ReadFault other totals is = absurd (cc)
not_complete code.WriteFault other totals is = absurd (cc)
not_complete (code.Worn turns) other totals is = absurd (cc)

module _ (n : ℕ) (few : n ≤ most_packets) (values : file.Settings) (is : values ≡ default_settings) (output : Object) (start end : Seen) (began : start ≡ drill_start n output)
    (script_faults : end.script.faults ≡ 0) (back_faults : (b : Backend) → (end.backs b).faults ≡ 0) (e : End) (replayed : Replayed values e start end) where
  ran : Replayed default_settings e (drill_start n output) end
  ran = subst (λ (from : Seen). Replayed default_settings e from end) began (subst (λ (v : file.Settings). Replayed v e start end) is replayed)

  abbrev account : Account
  account = record { force = default_settings; trace = ran.trace; start = drill_start n output; end = end }

  ended : DrillEnd n e ran.trace output end
  ended = drill_ends n few output end script_faults back_faults ran.trace ran.theorem e ran.ends

  all_drilled : Drilled n account output
  all_drilled =
      record {
        force = refl;
        since = refl;
        played = ended.played;
        counted = ended.counted;
        end = e;
        ends = ran.ends;
        reported = elim ended.ends [
          | inl complete ↦ inl complete.0
          | inr failed ↦ inr failed.0
        ];
      }

  has_drilled : (answer : Answer) (new : Object) → (answer ≡ Done → e ≡ drill_end n) → WritesTotals (drill_text n) Done answer output new → IsDrill n answer output new
  unfolding all_drilled
  has_drilled answer new complete written = inr (record { account = account; theorem = ran.theorem; drilled = all_drilled; complete = complete; written = written })

  -- where the output failed
  has_failed : (new : Object) → HasFailedBehind (drill_text n) output new → IsDrill n NotWritten output new
  has_failed new failed = has_drilled NotWritten new (λ is. absurd (cc)) (inr (refl, failed))

  -- a prefix of the totals is one of the text
  before_it : HasFailedBehind (drill_totals n) output end.output → HasFailedBehind (drill_text n) output end.output
  before_it failed =
      let bytes : Total = (codes "bytes", bytes_counted default_settings (drilled n)) in
      subst (λ (text : List ℕ). HasFailedBehind text output end.output) (sym (totals_text-snoc (totals_after default_settings (drilled n)) bytes))
      (behind-longer (drill_totals n) (total_line bytes) output end.output failed)

  -- a replay that isn't complete failed to write the totals
  pub by_failure : (answer : Answer) → answer ≡ ending e → ((totals : List Total) → e ≡ Complete totals → ⊥) → IsDrill n answer output end.output
  by_failure answer is other = elim ended.ends [
    | inl complete ↦ absurd (other _ complete.0)
    | inr failed ↦ subst (λ (a : Answer). IsDrill n a output end.output) (sym (is ∙ ap ending failed.0)) (has_failed end.output (before_it failed.1))
  ]

  -- the totals were written, and then the number of Graphite's bytes was
  module _ (totals : List Total) (complete : e ≡ Complete totals) (count : ℕ) (counted : (end.backs Graphite).content ≡ Number count) where
    abbrev bytes_line : List ℕ
    bytes_line = total_line (codes "bytes", count)

    totals_written : (e ≡ drill_end n) × (end.output ≡ given (drill_totals n) output)
    totals_written = elim ended.ends [
      | inl h ↦ h
      | inr failed ↦ let both : Complete totals ≡ WriteFailed = sym complete ∙ failed.0 in absurd (cc)
    ]

    text : drill_totals n ++ bytes_line ≡ drill_text n
    text = let both : Number count ≡ Number (bytes_counted default_settings (drilled n)) = sym counted ∙ ended.counted in
        let same : count ≡ bytes_counted default_settings (drilled n) = cc in
        let totals : List Total = totals_after default_settings (drilled n) in
        sym (totals_text-snoc totals (codes "bytes", count)) ∙ ap (λ m. totals_text (totals ++ (codes "bytes", m) ∷ [])) same

    pub by_bytes : (new : Object) → new ≡ given bytes_line end.output → IsDrill n Done output new
    by_bytes new written = has_drilled Done new (λ is. totals_written.0) (inl (refl, written ∙ ap (given bytes_line) totals_written.1 ∙ given-given (drill_totals n) bytes_line output ∙ ap (λ t. given t output) text))

    pub by_bytes_failed : (new : Object) → HasFailedBehind bytes_line end.output new → IsDrill n NotWritten output new
    by_bytes_failed new failed =
        has_failed new (subst (λ t. HasFailedBehind t output new) text (behind-later (drill_totals n) bytes_line output end.output new totals_written.1 failed))
