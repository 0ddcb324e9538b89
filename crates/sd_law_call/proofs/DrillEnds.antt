-- How a replay of a made script ends, over objects that count no fault.
use Rattle.std.proofs.Common.{◌≡◌, ℕ, zero, suc, ◌+◌, ◌*◌, ◌/◌, ◌<◌, ◌≤◌, Bool, true, false, IsTrue, List, [], ◌∷◌, ◌++◌, length, map, min, refl, sym, ap, subst, ◌∙◌, arith, inl, inr}
use Rattle.std.specs.Prelude.{if◌then◌else◌, flat_map, sum_by}
use Rattle.std.specs.List.{AllByRecursion, range_with_len}
use Rattle.std.proofs.lemmas.List.Sums.{sum_by-cons}
use Rattle.sd_model_outside.specs.Outside.{Number, Object, Rose, HasFailedBehind, appended, begun, ended, given, last_count}
use Rattle.sd_model_outside.specs.Uses.{Mark, NotUsed, Written, Fault, Delivery, AfterMark, AfterDeliveries}
use Rattle.sd_model_replay.specs.Replay.{bounds_of, is_used, Played, Run, first_run, play, deliveries, moments}
use Rattle.sd_model_outside.specs.Backend.{Backend, Graphite}
use Rattle.sd_model_replay.specs.Script.{ScriptCommand, Packet, Flush, Admin, end_word}
use Rattle.sd_model_replay.specs.MadeScript.{made_commands, made_moment, made_packet, flush_behind}
use Rattle.sd_model_settings.specs.Settings.{default_settings, Settings}
use Rattle.sd_model_settings.proofs.OnLiterals.{defaults_on_literals}
use Rattle.sd_model_call.specs.Drill.{well, bytes_counted, drill_start, drilled}
use Rattle.sd_model_replay.specs.AccountingTheorem.{output_in, output_of, totals_after, Seen, ReplayTrace, AccountingTheorem, End, Complete, EndsAs}
use Rattle.sd_model_record.specs.Totals.{totals_text}
use Rattle.sd_law_call.specs.Completeness.{IsSteady, NoneMissed}
use Rattle.sd_model_replay.proofs.MadeLemmas.{legal_commands}
use Rattle.sd_model_outside.proofs.WriteLemmas.{behind-later}
use Rattle.sd_law_call.proofs.ReplayEnds.{IsSilent, all_executed, commands_of, deliveries_from, ends_whole, no_reply, played_well, silent_in}
use Rattle.sd_model_call.proofs.DrillEnds.{DrillEnd, drill_totals}
use Rattle.sd_model_serve.specs.Receiving.{most_turns}
use Rattle.sd_model_call.proofs.Short.{well_mark, most_packets}

-- the flush behind a packet, before others: one record more at most, to which nothing is replied
flush_by_length : (b : Bool) (ts n : ℕ) (behind : List ScriptCommand) → length behind ≤ n → length ((if b then Flush ts ∷ [] else []) ++ behind) ≤ n + 1
flush_by_length true ts n behind few = omega (arith, few)
flush_by_length false ts n behind few = omega (arith, few)

flush_by_silent : (b : Bool) (ts : ℕ) (behind : List ScriptCommand) → AllByRecursion IsSilent behind → AllByRecursion IsSilent ((if b then Flush ts ∷ [] else []) ++ behind)
flush_by_silent true ts behind all = (tt, all)
flush_by_silent false ts behind all = all

length-made_from : (n j k : ℕ) → length (flat_map (λ i. made_packet i ∷ flush_behind n i) (range_with_len j k)) ≤ 2 * k
length-made_from n j zero = omega arith
length-made_from n j (suc k) =
    let others = flat_map (λ i. made_packet i ∷ flush_behind n i) (range_with_len (j + 1) k) in
    let rest : length (flush_behind n j ++ others) ≤ 2 * k + 1 = flush_by_length _ (made_moment (j / 1000 + 1)) (2 * k) others (length-made_from n (j + 1) k) in
    omega (arith, rest)

length-made : (n : ℕ) → length (made_commands n) ≤ 2 * n
unfolding made_commands
length-made n = length-made_from n 0 n

silent_packet : (j : ℕ) → IsSilent (made_packet j)
unfolding made_packet
silent_packet j = tt

silent_from : (n j k : ℕ) → AllByRecursion IsSilent (flat_map (λ i. made_packet i ∷ flush_behind n i) (range_with_len j k))
silent_from n j zero = tt
silent_from n j (suc k) = (silent_packet j, flush_by_silent _ (made_moment (j / 1000 + 1)) _ (silent_from n (j + 1) k))

made_silent : (n : ℕ) → AllByRecursion IsSilent (made_commands n)
unfolding made_commands
made_silent n = silent_from n 0 n

-- records to which nothing is replied write nothing
module _ (s : Settings) where
  nothing_from : (run : Run) (played : List Played) → AllByRecursion IsSilent (commands_of played) → flat_map (λ m. output_in s m.before m.played.command) (moments (bounds_of s) run played) ≡ []
  nothing_from run [] silent = refl
  nothing_from run (p ∷ played) silent =
      ap (λ out. out ++ flat_map (λ m. output_in s m.before m.played.command) (moments (bounds_of s) (play (bounds_of s) run p) played)) (silent_in s run p.command silent.0) ∙ nothing_from (play (bounds_of s) run p) played silent.1

  nothing_written : (played : List Played) → AllByRecursion IsSilent (commands_of played) → output_of s played ≡ []
  nothing_written played silent = nothing_from (first_run played) played silent

-- what is told of a backend that counts its bytes, after flushes that were all written
abbrev IsWritten : Delivery → Type 0
IsWritten d = d.mark ≡ Written

min_min : (a b c : ℕ) → min (min (a + b) last_count + c) last_count ≡ min (a + (b + c)) last_count
min_min a b c = omega arith

count_one : (mark : Mark) (text : List ℕ) (k : ℕ) (old new : Object) → mark ≡ Written → old.content ≡ Number k → AfterMark mark text old new → new.content ≡ Number (min (k + length text) last_count)
count_one Written text k old new is content h = ap (λ (o : Object). o.content) h ∙ ap (λ w. ended (appended (begun w) text)) content
count_one NotUsed text k old new is content h = absurd (cc)
count_one Fault text k old new is content h = absurd (cc)

abbrev length_of : Delivery → ℕ
length_of d = length d.text

count_all : (ds : List Delivery) (k : ℕ) (old new : Object) → k ≤ last_count → AllByRecursion IsWritten ds → old.content ≡ Number k → AfterDeliveries ds old new → new.content ≡ Number (min (k + sum_by length_of ds) last_count)
count_all [] k old new fits all content h = ap (λ (o : Object). o.content) h ∙ content ∙ ap Number (omega (arith, fits))
count_all (d ∷ ds) k old new fits all content (mid, one, others) =
    let first = count_one d.mark d.text k old mid all.0 content one in
    count_all ds (min (k + length d.text) last_count) mid new (omega arith) all.1 first others
    ∙ ap Number (min_min k (length d.text) (sum_by length_of ds) ∙ ap (λ n. min (k + n) last_count) (sym (sum_by-cons length_of d ds)))

-- flushes of records that are executed well are written where Graphite is used
module _ (s : Settings) (used : is_used s Graphite ≡ true) where
  all_written : (run : Run) (cs : List ScriptCommand) → AllByRecursion IsWritten (deliveries_from s run Graphite (map (well s) cs))
  all_written run [] = tt
  all_written run (Packet who moment datagram ∷ cs) = all_written (play (bounds_of s) run (well s (Packet who moment datagram))) cs
  all_written run (Flush ts ∷ cs) = (ap well_mark used, all_written (play (bounds_of s) run (well s (Flush ts))) cs)
  all_written run (Admin moment line ∷ cs) = all_written (play (bounds_of s) run (well s (Admin moment line))) cs

uses_graphite : is_used default_settings Graphite ≡ true
unfolding defaults_on_literals
uses_graphite = refl

module _ (n : ℕ) (few : n ≤ most_packets) (output : Object) (new : Seen) (script_faults : new.script.faults ≡ 0) (back_faults : (back : Backend) → (new.backs back).faults ≡ 0) (trace : ReplayTrace)
    (theorem : AccountingTheorem default_settings trace (drill_start n output) new) where
  steady : IsSteady default_settings (drill_start n output) new (made_commands n) (end_word ++ [])
  unfolding defaults_on_literals
  steady = record { script = refl; legal = legal_commands n (omega (arith, few)); script_faults = λ rose. absurd (omega (arith, rose, script_faults)) }

  few_records : length (made_commands n) < most_turns
  few_records = omega (arith, few, length-made n)

  none_missed : NoneMissed default_settings (drill_start n output) new
  unfolding defaults_on_literals
  none_missed = record { backends = backends; wires = λ i below. absurd (omega (arith, below)) } where
    backends : (back : Backend) → IsTrue (is_used default_settings back) → ¬ Rose ((drill_start n output).backs back).faults (new.backs back).faults
    backends back used rose = absurd (omega (arith, rose, back_faults back))

  all_played : commands_of trace.played ≡ made_commands n → trace.played ≡ drilled n
  unfolding drilled
  all_played is = played_well default_settings (drill_start n output) new trace theorem none_missed ∙ ap (map (well default_settings)) is

  all_silent : AllByRecursion IsSilent (commands_of (drilled n))
  unfolding drilled
  all_silent = subst (AllByRecursion IsSilent) (commands_well (made_commands n)) (made_silent n) where
    command_well : (c : ScriptCommand) → c ≡ (well default_settings c).command
    command_well (Packet who moment datagram) = refl
    command_well (Flush ts) = refl
    command_well (Admin moment line) = refl

    commands_well : (cs : List ScriptCommand) → cs ≡ commands_of (map (well default_settings) cs)
    commands_well [] = refl
    commands_well (c ∷ cs) = λ i. command_well c i ∷ commands_well cs i

  nothing : output_of default_settings (drilled n) ≡ []
  nothing = nothing_written default_settings (drilled n) all_silent

  counts : trace.played ≡ drilled n → (new.backs Graphite).content ≡ Number (bytes_counted default_settings (drilled n))
  unfolding drilled
  counts is =
      count_all (deliveries default_settings Graphite (drilled n)) 0 ((drill_start n output).backs Graphite) (new.backs Graphite) (omega arith)
      (all_written default_settings uses_graphite (first_run (drilled n)) (made_commands n)) refl
      (subst (λ ps. AfterDeliveries (deliveries default_settings Graphite ps) ((drill_start n output).backs Graphite) (new.backs Graphite)) is (theorem.texts Graphite))
      ∙ ap Number (omega arith)

  pub drill_ends : (end : End) → EndsAs default_settings end trace (drill_start n output) new → DrillEnd n end trace output new
  drill_ends end ends = elim (ends_whole default_settings (drill_start n output) new (made_commands n) [] steady few_records trace theorem end ends) [
    | inl complete ↦
        let h = subst (λ (e : End). EndsAs default_settings e trace (drill_start n output) new) complete.1 ends in
        let is = all_played (all_executed default_settings (drill_start n output) new (made_commands n) [] steady few_records trace theorem h.read.1) in
        let totals = h.read.2 ∙ ap (totals_after default_settings) is in
        record {
          played = is;
          counted = counts is;
          ends = inl (
            complete.1 ∙ ap Complete totals,
            h.output ∙ ap (λ out. given (out ++ totals_text complete.0) output) (ap (output_of default_settings) is ∙ nothing) ∙ ap (λ t. given (totals_text t) output) totals,
          );
        }
    | inr failed ↦
        let h = (subst (λ (e : End). EndsAs default_settings e trace (drill_start n output) new) failed ends).output in
        elim h.writing [
          | inl totals ↦
              let is = all_played (all_executed default_settings (drill_start n output) new (made_commands n) [] steady few_records trace theorem totals.ends) in
              let text = totals.totals ∙ ap (λ ps. totals_text (totals_after default_settings ps)) is in
              let before = ap (output_of default_settings) (totals.all ∙ is) ∙ nothing in
              record {
                played = is;
                counted = counts is;
                ends = inr (
                  failed,
                  behind-later [] (drill_totals n) output (given [] output) new.output refl
                      (subst (λ t. HasFailedBehind t (given [] output) new.output) text (subst (λ out. HasFailedBehind h.text (given out output) new.output) before h.failed)),
                );
              }
          | inr reply ↦ absurd (no_reply default_settings (drill_start n output) new (made_commands n) [] steady few_records trace theorem (made_silent n) h reply)
        ]
  ]
