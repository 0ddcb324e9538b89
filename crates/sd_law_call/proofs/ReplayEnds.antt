-- How a replay ends whose script tells its records, where no fault was counted.
use Rattle.sd_model_outside.proofs.BackendLemmas.{at_each, same_each}
use Rattle.std.proofs.Common.{◌≡◌, ◌⊎◌, ℕ, suc, ◌+◌, ◌<◌, Bool, true, false, cond, get_or, IsTrue, List, [], ◌∷◌, ◌++◌, length, map, min, refl, sym, ap, subst, ◌∙◌, arith, append_assoc, append-nil, length-append, inl, inr}
use Rattle.std.specs.Prelude.{⊤}
use Rattle.std.specs.List.{AllByRecursion}
use Rattle.std.proofs.lemmas.List.{length-map}
use Rattle.std.proofs.lemmas.List.Sums.{sum_by-cons}
use Rattle.sd_model_outside.specs.Outside.{Content, Unknown, Left, Number, Bytes, Buffer, Rounds, Packets, Datagrams, Ticks, Sessions, Replies, Rose, put_back, given, last_count, object_at}
use Rattle.sd_model_outside.specs.Uses.{Mark, fault_of, Delivery, AfterDeliveries, FitsUse, missed, AreRepeated}
use Rattle.sd_model_replay.specs.Replay.{bounds_of, is_used, targets_of, Outcome, Played, Run, IsOutcome, first_run, run_of, play, deliveries}
use Rattle.sd_model_outside.specs.Backend.{Backend, at_backend, each_of}
use Rattle.sd_model_replay.specs.Script.{ScriptCommand, Packet, Flush, Admin, spelled, end_word, script_text, IsLegal, BeginsEnd, ScriptFlaw, Next, Executed, Ending, Faulty, Begins}
use Rattle.sd_law_call.specs.Behind.{BeginsRecord, behind}
use Rattle.sd_model_settings.specs.Entries.{Target}
use Rattle.sd_law_record.specs.Sends.{failed_among}
use Rattle.sd_model_shard.specs.Shard.{table_of}
use Rattle.sd_model_call.specs.Drill.{well}
use Rattle.sd_model_replay.specs.AccountingTheorem.{output_in, output_of, totals_after, Seen, ReplayTrace, AccountingTheorem, End, Complete, Faulted, ReadFailed, WriteFailed, LimitReached, StopsFor, IsInReply, IsBrokenOff, EndsAs}
use Rattle.sd_model_record.specs.Totals.{Total, totals_text}
use Rattle.sd_replay.specs.Replayed.{Replayed}
use Rattle.sd_law_call.specs.Completeness.{EndsSo, IsSteady, IsUnhindered, IsCutOff, IsLongest, WasExecuted, WasExecutedWell, NoneMissed}
use Rattle.sd_law_call.proofs.ReadingLemmas.{Behind, ended_script, cut_script, one_script, one_end, not_end, begins, begins_record}
use Rattle.sd_script.proofs.NextLemmas.{one_next, next_stays}
use Rattle.sd_model_outside.proofs.DeliveryLemmas.{all_counts, none_missed, written_mark}
use Rattle.sd_model_replay.proofs.ReplayLemmas.{delivery_of}
use Rattle.sd_law_record.proofs.SendLemmas.{failed_among-sends_on, sends_count}
use Rattle.sd_model_settings.specs.Settings.{Settings}
use Rattle.sd_model_replay.proofs.Short.{rounds_from, sendings}
use Rattle.sd_model_serve.specs.Receiving.{most_turns}
use Rattle.sd_model_call.proofs.Short.{well_mark, well_sent}
use Rattle.sd_model_outside.proofs.Short.{sends_on}

-- what a script tells that it has left, where it told what it had
pub record LeftBehind (prefix whole : List ℕ) (content : Content) : Type 0 where
  pub bytes : List ℕ
  pub is : content ≡ Left bytes
  pub stands : whole ≡ prefix ++ bytes

pub left_behind : (prefix whole : List ℕ) (content : Content) → Left whole ≡ put_back prefix content → LeftBehind prefix whole content
left_behind prefix whole (Left bytes) same = record { bytes = bytes; is = refl; stands = cc }
left_behind prefix whole Unknown same = absurd (cc)
left_behind prefix whole (Number n) same = absurd (cc)
left_behind prefix whole (Bytes bytes) same = absurd (cc)
left_behind prefix whole (Buffer size bytes) same = absurd (cc)
left_behind prefix whole (Rounds rounds open_list) same = absurd (cc)
left_behind prefix whole (Packets packets) same = absurd (cc)
left_behind prefix whole (Datagrams left) same = absurd (cc)
left_behind prefix whole (Ticks left) same = absurd (cc)
left_behind prefix whole (Sessions left back) same = absurd (cc)
left_behind prefix whole (Replies left questions) same = absurd (cc)

abbrev pub commands_of : List Played → List ScriptCommand
commands_of played = map (λ p. p.command) played

all_legal : (receivers : ℕ) (played : List Played) → AllByRecursion (λ p. IsLegal receivers p.command) played → AllByRecursion (IsLegal receivers) (commands_of played)
all_legal receivers [] legal = tt
all_legal receivers (p ∷ played) legal = (legal.0, all_legal receivers played legal.1)

-- a replay stops for this
abbrev pub IsStop : Next → Type 0
IsStop (Executed command) = ⊥
IsStop Ending = ⊥
IsStop (Faulty flaw) = ⊤

-- this is no record that is executed
abbrev IsLast : Next → Type 0
IsLast (Executed command) = ⊥
IsLast Ending = ⊤
IsLast (Faulty flaw) = ⊤

-- what stands next is no other where a replay stops for it
not_stop : (receivers : ℕ) (bytes : List ℕ) (next other : Next) (left right : Content) → IsStop next → (IsStop other → ⊥) → Begins receivers next bytes left → Begins receivers other bytes right → ⊥
not_stop receivers bytes next other left right stop other_stop first second = other_stop (subst IsStop (one_next receivers bytes next other left right first second) stop)

module _ (settings : Settings) (old new : Seen) (commands : List ScriptCommand) (bytes : List ℕ) (steady : IsSteady settings old new commands bytes) (trace : ReplayTrace) (theorem : AccountingTheorem settings trace old new) where
  abbrev executed : List ScriptCommand
  executed = commands_of trace.played

  -- what the script has left, and how its text goes on behind the records that were executed
  record Reached : Type 0 where
    left : List ℕ
    is : new.script.content ≡ Left left
    content : behind trace new ≡ Left (trace.ahead ++ left)
    same : script_text commands ++ bytes ≡ script_text executed ++ (trace.ahead ++ left)

  reached : Reached
  reached =
      let l = left_behind (script_text executed ++ trace.ahead) (script_text commands ++ bytes) new.script.content (sym steady.script ∙ theorem.read) in
      record {
        left = l.bytes;
        is = l.is;
        content = ap (put_back trace.ahead) l.is;
        same = l.stands ∙ append_assoc (script_text executed) trace.ahead l.bytes;
      }

  -- what the replay stopped for stands next in all that the script has left
  stop_stands : (r : Reached) (next : Next) (at : ℕ) → StopsFor settings next at trace new → Begins settings.sizes.receivers next (trace.ahead ++ r.left) (Left [])
  stop_stands r next at ends =
      next_stays settings.sizes.receivers trace.ahead r.left next (subst (λ content. Begins settings.sizes.receivers next trace.ahead content) r.is ends.begins)

  -- where the replay came to the end, the end stands behind
  end_stands : (r : Reached) (rest : List ℕ) → trace.ahead ≡ end_word ++ rest → end_word ++ (rest ++ r.left) ≡ trace.ahead ++ r.left
  end_stands r rest word = sym (append_assoc end_word rest r.left) ∙ ap (λ bs. bs ++ r.left) (sym word)

  -- no fault, no failure
  no_read_failed : EndsAs settings ReadFailed trace old new → ⊥
  no_read_failed ends = absurd (steady.script_faults ends.script_faults)

-- a record to which nothing is replied, whatever it holds: only an admin line has replies
abbrev pub IsSilent : ScriptCommand → Type 0
IsSilent (Packet who moment datagram) = ⊤
IsSilent (Flush ts) = ⊤
IsSilent (Admin moment line) = ⊥

-- nothing is written of a record that is silent
pub silent_in : (settings : Settings) (run : Run) (c : ScriptCommand) → IsSilent c → output_in settings run c ≡ []
silent_in settings run (Packet who moment datagram) silent = refl
silent_in settings run (Flush ts) silent = refl
silent_in settings run (Admin moment line) silent = absurd silent

-- the last of records that are silent, with others behind it
last_silent : (before : List Played) (last : Played) (behind : List ScriptCommand) → AllByRecursion IsSilent (commands_of (before ++ last ∷ []) ++ behind) → IsSilent last.command
last_silent [] last behind all = all.0
last_silent (p ∷ before) last behind all = last_silent before last behind all.1

-- no write of a reply failed to records that are silent
no_reply_failed : (settings : Settings) (old new : Seen) (commands behind : List ScriptCommand) (trace : ReplayTrace) → AllByRecursion IsSilent commands → commands ≡ commands_of trace.played ++ behind
    → (h : IsBrokenOff settings trace old.output new.output) → IsInReply settings trace h.before h.text → ⊥
no_reply_failed settings old new commands behind trace silent whole h reply =
    let played = subst (λ ps. AllByRecursion IsSilent (commands_of ps ++ behind)) reply.order (subst (AllByRecursion IsSilent) whole silent) in
    let nothing = reply.replies ∙ silent_in settings (run_of (bounds_of settings) (first_run trace.played) h.before) reply.last.command (last_silent h.before reply.last behind played) in
    omega (arith, h.failed.prefix.1, ap length nothing)

-- of a script that ends behind its records
module _ (settings : Settings) (old new : Seen) (commands : List ScriptCommand) (rest : List ℕ) (steady : IsSteady settings old new commands (end_word ++ rest)) (few : length commands < most_turns) (trace : ReplayTrace) (theorem : AccountingTheorem settings trace old new) where
  ended_behind : (r : Reached settings old new commands (end_word ++ rest) steady trace theorem)
      → Behind settings.sizes.receivers commands (commands_of trace.played) (end_word ++ rest) (trace.ahead ++ r.left)
  ended_behind r =
      ended_script settings.sizes.receivers commands (commands_of trace.played) rest (trace.ahead ++ r.left) steady.legal (all_legal settings.sizes.receivers trace.played theorem.legal) r.same

  reached_end : Reached settings old new commands (end_word ++ rest) steady trace theorem
  reached_end = reached settings old new commands (end_word ++ rest) steady trace theorem

  no_stop : (next : Next) (at : ℕ) → IsStop next → StopsFor settings next at trace new → ⊥
  no_stop next at stop ends =
      let r = reached_end in
      let h = ended_behind r in
      let stands = subst (λ bs. Begins settings.sizes.receivers next bs (Left [])) h.stands (stop_stands settings old new commands (end_word ++ rest) steady trace theorem r next at ends) in
      elim (begins settings.sizes.receivers h.behind rest (Left []) h.legal) [
        | inl end ↦ not_stop settings.sizes.receivers (script_text h.behind ++ (end_word ++ rest)) next Ending (Left []) (Left []) stop (λ h. h) stands end
        | inr one ↦ not_stop settings.sizes.receivers (script_text h.behind ++ (end_word ++ rest)) next (Executed one.0) (Left []) (Left []) stop (λ h. h) stands one.1
      ]

  -- a replay comes to the end of such a script, or a write failed
  pub ends_whole : (end : End) → EndsAs settings end trace old new → ((totals : List Total) × (end ≡ Complete totals)) ⊎ (end ≡ WriteFailed)
  ends_whole (Complete totals) ends = inl (totals, refl)
  ends_whole (Faulted at flaw) ends = absurd (no_stop (Faulty flaw) at tt ends.read)
  ends_whole ReadFailed ends = absurd (no_read_failed settings old new commands (end_word ++ rest) steady trace theorem ends)
  ends_whole WriteFailed ends = inr refl
  ends_whole (LimitReached turns) ends =
      let h = ended_behind reached_end in
      absurd (omega (arith, few, ends.read.1, ap length h.whole, length-append (commands_of trace.played) h.behind, length-map trace.played (λ (p : Played). p.command)))

  -- and not of a reply, where nothing is replied
  pub no_reply : AllByRecursion IsSilent commands → (h : IsBrokenOff settings trace old.output new.output) → IsInReply settings trace h.before h.text → ⊥
  no_reply silent h reply = let b = ended_behind reached_end in no_reply_failed settings old new commands b.behind trace silent b.whole h reply

  ends_complete : ¬ Rose old.output.faults new.output.faults → (end : End) → EndsAs settings end trace old new → (totals : List Total) × (end ≡ Complete totals)
  ends_complete steady_output end ends = elim (ends_whole end ends) [
    | inl complete ↦ complete
    | inr failed ↦ absurd (steady_output (subst (λ (e : End). EndsAs settings e trace old new) failed ends).output.failed.rose)
  ]

  -- where the end was come to, no record stands behind those that were executed
  none_behind : (r : Reached settings old new commands (end_word ++ rest) steady trace theorem) → BeginsEnd trace.ahead → (ended_behind r).behind ≡ []
  none_behind r word =
      let h = ended_behind r in
      (one_end settings.sizes.receivers h.behind (end_word ++ rest) (word.0 ++ r.left) (end_stands settings old new commands (end_word ++ rest) steady trace theorem r word.0 word.1 ∙ h.stands)).0

  pub all_executed : BeginsEnd trace.ahead → commands_of trace.played ≡ commands
  all_executed word =
      let h = ended_behind reached_end in
      sym (h.whole ∙ ap (λ cs. commands_of trace.played ++ cs) (none_behind reached_end word) ∙ append-nil (commands_of trace.played))

  pub executes : EndsAs settings (Complete (totals_after settings trace.played)) trace old new → WasExecuted settings old new commands rest
  executes ends =
      let r = reached_end in
      let h = ended_behind r in
      record {
        trace = trace;
        theorem = theorem;
        all = all_executed ends.read.1;
        left = r.content ∙ ap Left (h.stands ∙ ap (λ cs. script_text cs ++ (end_word ++ rest)) (none_behind r ends.read.1));
        output = ends.output;
      }

pub replay_completes : (settings : Settings) (old new : Seen) (commands : List ScriptCommand) (rest : List ℕ) (end : End) → IsUnhindered settings old new commands rest → Replayed settings end old new → (totals : List Total) × (end ≡ Complete totals)
replay_completes settings old new commands rest end free h = ends_complete settings old new commands rest free.steady free.few h.trace h.theorem free.output_faults end h.ends

-- of a script that is cut off behind its records
module _ (settings : Settings) (old new : Seen) (commands : List ScriptCommand) (flaw : ScriptFlaw) (bytes : List ℕ) (cut : IsCutOff settings old new commands flaw bytes) (trace : ReplayTrace) (theorem : AccountingTheorem settings trace old new) where
  reached_cut : Reached settings old new commands bytes cut.steady trace theorem
  reached_cut = reached settings old new commands bytes cut.steady trace theorem

  no_record_there : ¬ BeginsRecord settings.sizes.receivers bytes
  no_record_there (command, rest, legal, is) = not_stop settings.sizes.receivers bytes (Faulty flaw) (Executed command) (Left []) (Left []) tt (λ h. h) cut.begins (legal, (rest, is))

  cut_behind : (r : Reached settings old new commands bytes cut.steady trace theorem) → Behind settings.sizes.receivers commands (commands_of trace.played) bytes (trace.ahead ++ r.left)
  cut_behind r =
      cut_script settings.sizes.receivers commands (commands_of trace.played) bytes (trace.ahead ++ r.left) no_record_there cut.steady.legal (all_legal settings.sizes.receivers trace.played theorem.legal) r.same

  -- what stands behind the records executed, and is no record, is what the script is cut off by
  found : (r : Reached settings old new commands bytes cut.steady trace theorem) (other : Next) → IsLast other → Begins settings.sizes.receivers other (trace.ahead ++ r.left) (Left []) → (commands ≡ commands_of trace.played) × (Faulty flaw ≡ other)
  found r other last begins_other = found_by h.behind h.whole h.legal h.stands where
    h : Behind settings.sizes.receivers commands (commands_of trace.played) bytes (trace.ahead ++ r.left)
    h = cut_behind r

    found_by : (behind : List ScriptCommand) → commands ≡ commands_of trace.played ++ behind → AllByRecursion (IsLegal settings.sizes.receivers) behind → trace.ahead ++ r.left ≡ script_text behind ++ bytes → (commands ≡ commands_of trace.played) × (Faulty flaw ≡ other)
    found_by [] whole legal stands = (
      whole ∙ append-nil (commands_of trace.played),
      one_next settings.sizes.receivers bytes (Faulty flaw) other (Left []) (Left []) cut.begins (subst (λ bs. Begins settings.sizes.receivers other bs (Left [])) stands begins_other),
    )
    found_by (c ∷ behind) whole legal stands =
        let there = subst (λ bs. Begins settings.sizes.receivers other bs (Left [])) stands begins_other in
        let record_there = begins_record settings.sizes.receivers c behind bytes (Left []) legal in
        absurd (subst IsLast (one_next settings.sizes.receivers (script_text (c ∷ behind) ++ bytes) other (Executed c) (Left []) (Left []) there record_there) last)

  no_end_there : (rest : List ℕ) → trace.ahead ≡ end_word ++ rest → ⊥
  no_end_there rest word =
      let r = reached_cut in
      let end = found r Ending tt (rest ++ r.left, sym (end_stands settings old new commands bytes cut.steady trace theorem r rest word)) in
      subst IsStop end.1 tt

  ends_stop : (other : ScriptFlaw) (at : ℕ) → StopsFor settings (Faulty other) at trace new → Faulted at other ≡ Faulted (min (length (script_text commands)) last_count) flaw
  ends_stop other at ends =
      let r = reached_cut in
      let same = found r (Faulty other) tt (stop_stands settings old new commands bytes cut.steady trace theorem r (Faulty other) at ends) in
      let same_flaw : flaw ≡ other = (let both : Faulty flaw ≡ Faulty other = same.1 in cc) in
      ap (λ f. Faulted at f) (sym same_flaw) ∙ ap (λ n. Faulted n flaw) (ends.place ∙ ap (λ cs. min (length (script_text cs)) last_count) (sym same.0))

  ends_cut : (end : End) → EndsAs settings end trace old new → EndsSo (Faulted (min (length (script_text commands)) last_count) flaw) end
  ends_cut (Complete totals) ends = absurd (no_end_there ends.read.1.0 ends.read.1.1)
  ends_cut (Faulted at other) ends = inl (ends_stop other at ends.read)
  ends_cut ReadFailed ends = absurd (no_read_failed settings old new commands bytes cut.steady trace theorem ends)
  ends_cut WriteFailed ends = inr refl
  ends_cut (LimitReached turns) ends =
      let h = cut_behind reached_cut in
      absurd (omega (arith, cut.few, ends.read.1, ap length h.whole, length-append (commands_of trace.played) h.behind, length-map trace.played (λ (p : Played). p.command)))

pub replay_stops : (settings : Settings) (old new : Seen) (commands : List ScriptCommand) (flaw : ScriptFlaw) (bytes : List ℕ) (end : End) → IsCutOff settings old new commands flaw bytes → Replayed settings end old new → EndsSo (Faulted (min (length (script_text commands)) last_count) flaw) end
replay_stops settings old new commands flaw bytes end cut h = ends_cut settings old new commands flaw bytes cut h.trace h.theorem end h.ends

-- of a script of as many records as there may be
module _ (settings : Settings) (old new : Seen) (commands : List ScriptCommand) (bytes : List ℕ) (longest : IsLongest settings old new commands bytes) (trace : ReplayTrace) (theorem : AccountingTheorem settings trace old new) where
  reached_more : Reached settings old new commands bytes longest.steady trace theorem
  reached_more = reached settings old new commands bytes longest.steady trace theorem

  -- a record stands behind fewer of them
  record_behind : (r : Reached settings old new commands bytes longest.steady trace theorem) → length trace.played < most_turns → BeginsRecord settings.sizes.receivers (trace.ahead ++ r.left)
  record_behind r few =
      let counted = length-map trace.played (λ (p : Played). p.command) in
      elim (one_script settings.sizes.receivers commands (commands_of trace.played) bytes (trace.ahead ++ r.left) longest.steady.legal (all_legal settings.sizes.receivers trace.played theorem.legal) r.same) [
        | inl h ↦ one_behind h.behind h.legal h.stands (omega (arith, few, longest.most, ap length h.whole, length-append (commands_of trace.played) h.behind, counted))
        | inr h ↦ absurd (omega (arith, few, longest.most, h.0, counted))
      ] where
        one_behind : (behind : List ScriptCommand) → AllByRecursion (IsLegal settings.sizes.receivers) behind → trace.ahead ++ r.left ≡ script_text behind ++ bytes → 0 < length behind → BeginsRecord settings.sizes.receivers (trace.ahead ++ r.left)
        one_behind [] all stands some = absurd (omega (arith, some))
        one_behind (c ∷ behind) all stands some = (c, script_text behind ++ bytes, all.0, stands ∙ append_assoc (spelled c) (script_text behind) bytes)

  no_end_behind : (rest : List ℕ) → length trace.played < most_turns → trace.ahead ≡ end_word ++ rest → ⊥
  no_end_behind rest few word =
      let r = reached_more in
      let one = record_behind r few in
      absurd (not_end one.0 one.1 (rest ++ r.left) (sym one.3 ∙ sym (end_stands settings old new commands bytes longest.steady trace theorem r rest word)))

  no_stop_behind : (next : Next) (at : ℕ) → IsStop next → StopsFor settings next at trace new → ⊥
  no_stop_behind next at stop ends =
      let r = reached_more in
      let one = record_behind r ends.few in
      not_stop settings.sizes.receivers (trace.ahead ++ r.left) next (Executed one.0) (Left []) (Left []) stop (λ h. h)
      (stop_stands settings old new commands bytes longest.steady trace theorem r next at ends) (one.2, (one.1, one.3))

  ends_by_limit : (end : End) → EndsAs settings end trace old new → EndsSo (LimitReached most_turns) end
  ends_by_limit (Complete totals) ends = absurd (no_end_behind ends.read.1.0 ends.read.0 ends.read.1.1)
  ends_by_limit (Faulted at flaw) ends = absurd (no_stop_behind (Faulty flaw) at tt ends.read)
  ends_by_limit ReadFailed ends = absurd (no_read_failed settings old new commands bytes longest.steady trace theorem ends)
  ends_by_limit WriteFailed ends = inr refl
  ends_by_limit (LimitReached turns) ends = inl (ap LimitReached ends.read.0)

pub replay_wears_out : (settings : Settings) (old new : Seen) (commands : List ScriptCommand) (bytes : List ℕ) (end : End) → IsLongest settings old new commands bytes → Replayed settings end old new → EndsSo (LimitReached most_turns) end
replay_wears_out settings old new commands bytes end longest h = ends_by_limit settings old new commands bytes longest h.trace h.theorem end h.ends

-- what a send counts as a fault
abbrev fault_of_send : Bool → ℕ
fault_of_send f = cond f 1 0

-- sends of which none failed
none_failed : (failed : List Bool) (targets : List Target) → length failed ≡ length targets → ((i : ℕ) → i < length targets → fault_of_send (get_or failed i false) ≡ 0) → failed ≡ well_sent targets
none_failed [] [] count none = refl
none_failed (f ∷ failed) (t ∷ targets) count none = one f (none 0 (omega arith)) (none_failed failed targets (omega (arith, count)) (λ i below. none (suc i) (omega (arith, below)))) where
  one : (g : Bool) → fault_of_send g ≡ 0 → failed ≡ well_sent targets → g ∷ failed ≡ false ∷ well_sent targets
  one true is rest = absurd (omega (arith, is))
  one false is rest = ap (λ (gs : List Bool). false ∷ gs) rest
none_failed [] (t ∷ targets) count none = absurd (omega (arith, count))
none_failed (f ∷ failed) [] count none = absurd (omega (arith, count))

-- Records executed where no backend that is used missed a flush, and no packet was missed on the wire of a target.
module _ (settings : Settings) where
  -- what rounds have for a backend, from a state on
  abbrev pub deliveries_from : Run → Backend → List Played → List Delivery
  deliveries_from run back played = map (delivery_of settings back) (rounds_from (bounds_of settings) run played)

  -- no backend that is used missed one
  abbrev IsMet : Run → List Played → Type 0
  IsMet run played = (back : Backend) → IsTrue (is_used settings back) → missed (deliveries_from run back played) ≡ 0

  written_or_unused : (used : Bool) (mark : Mark) → FitsUse used mark → (IsTrue used → fault_of mark ≡ 0) → mark ≡ well_mark used
  written_or_unused true mark fits none = written_mark mark (none refl) fits
  written_or_unused false mark fits none = fits

  -- a flush more, before others
  missed-flush : (run : Run) (ts : ℕ) (outcome : Outcome) (played : List Played) (back : Backend) → missed (deliveries_from run back (record { command = Flush ts; outcome = outcome } ∷ played))
      ≡ fault_of (at_backend outcome.marks back) + missed (deliveries_from (play (bounds_of settings) run (record { command = Flush ts; outcome = outcome })) back played)
  missed-flush run ts outcome played back =
      sum_by-cons (λ (d : Delivery). fault_of d.mark) (delivery_of settings back (record { ts = ts; tally = run.desk.tally; tables = λ i. table_of (run.shards i); marks = outcome.marks }))
      (deliveries_from (play (bounds_of settings) run (record { command = Flush ts; outcome = outcome })) back played)

  -- no packet was missed on the wire of a target
  abbrev AreAllSent : List Played → Type 0
  AreAllSent played = (i : ℕ) → i < length (targets_of settings) → failed_among (sends_on i (sendings played)) ≡ 0

  -- one record, before others that were executed well
  one_well : (run : Run) (c : ScriptCommand) (outcome : Outcome) (played : List Played) → IsOutcome settings c outcome → IsMet run (record { command = c; outcome = outcome } ∷ played) → AreAllSent (record { command = c; outcome = outcome } ∷ played)
      → (IsMet (play (bounds_of settings) run (record { command = c; outcome = outcome })) played → AreAllSent played → played ≡ map (well settings) (commands_of played))
      → record { command = c; outcome = outcome } ∷ played ≡ well settings c ∷ map (well settings) (commands_of played)
  one_well run (Packet who moment datagram) outcome played is met sent others =
      let failed = none_failed outcome.failed (targets_of settings) is.1 (λ i below. omega (arith, sent i below, failed_among-sends_on datagram outcome.failed (sendings played) i)) in
      let marks = is.0 in
      ap (λ ps. record { command = Packet who moment datagram; outcome = outcome } ∷ ps) (others met (λ i below. omega (arith, sent i below, failed_among-sends_on datagram outcome.failed (sendings played) i)))
      ∙ (λ i. record { command = Packet who moment datagram; outcome = record { marks = marks i; failed = failed i } } ∷ map (well settings) (commands_of played))
  one_well run (Flush ts) outcome played is met sent others =
      let written : Backend → Mark = λ back. well_mark (is_used settings back) in
      let marks = same_each outcome.marks (each_of written) (λ back. written_or_unused (is_used settings back) (at_backend outcome.marks back) (is.1 back) (λ on. omega (arith, met back on, missed-flush run ts outcome played back)) ∙ sym (at_each written back)) in
      let failed = is.0 in
      ap (λ ps. record { command = Flush ts; outcome = outcome } ∷ ps) (others (λ back on. omega (arith, met back on, missed-flush run ts outcome played back)) sent)
      ∙ (λ i. record { command = Flush ts; outcome = record { marks = marks i; failed = failed i } } ∷ map (well settings) (commands_of played))
  one_well run (Admin moment line) outcome played is met sent others =
      let marks = is.0 in
      let failed = is.1 in
      ap (λ ps. record { command = Admin moment line; outcome = outcome } ∷ ps) (others met sent)
      ∙ (λ i. record { command = Admin moment line; outcome = record { marks = marks i; failed = failed i } } ∷ map (well settings) (commands_of played))

  all_well : (run : Run) (played : List Played) → AllByRecursion (λ p. IsOutcome settings p.command p.outcome) played → IsMet run played → AreAllSent played → played ≡ map (well settings) (commands_of played)
  all_well run [] used met sent = refl
  all_well run (p ∷ played) used met sent = one_well run p.command p.outcome played used.0 met sent (all_well (play (bounds_of settings) run p) played used.1)

-- records executed between two times, where no backend that is used missed a flush, and no packet was missed, were
-- executed well
pub played_well : (settings : Settings) (old new : Seen) (trace : ReplayTrace) → AccountingTheorem settings trace old new → NoneMissed settings old new → trace.played ≡ map (well settings) (commands_of trace.played)
played_well settings old new trace theorem none =
    let played = trace.played in
    let met : IsMet settings (first_run played) played = λ back on. none_missed (missed (deliveries settings back played)) (old.backs back) (new.backs back) (none.backends back on)
    (all_counts (deliveries settings back played) (old.backs back) (new.backs back) (theorem.texts back)) in
    let sent : AreAllSent settings played = λ i below. none_missed (failed_among (sends_on i (sendings played))) (object_at i old.wires) (object_at i new.wires) (none.wires i below)
    (sends_count (sends_on i (sendings played)) (object_at i old.wires) (object_at i new.wires) (theorem.sends.each i)) in
    all_well settings (first_run played) played theorem.used met sent

pub executes_well : (settings : Settings) (old new : Seen) (commands : List ScriptCommand) (rest : List ℕ) → NoneMissed settings old new → WasExecuted settings old new commands rest → WasExecutedWell settings old new commands
executes_well settings old new commands rest none out =
    let alike : out.trace.played ≡ map (well settings) commands = played_well settings old new out.trace out.theorem none ∙ ap (map (well settings)) out.all in
    record {
      backends = λ back. subst (λ ps. AfterDeliveries (deliveries settings back ps) (old.backs back) (new.backs back)) alike (out.theorem.texts back);
      wires = subst (λ ps. AreRepeated (sendings ps) old.wires new.wires) alike out.theorem.sends;
      output = subst (λ ps. new.output ≡ given (output_of settings ps ++ totals_text (totals_after settings ps)) old.output) alike out.output;
    }
