-- How a call answers that is asked to serve, where nothing hinders it, and what its answers say of its objects.
use Rattle.std.proofs.Common.{◌≡◌, ◌⊎◌, ℕ, ◌+◌, ◌<◌, ◌≤◌, Bool, true, false, List, [], ◌∷◌, ◌++◌, length, map, drop, refl, sym, ap, subst, ◌∙◌, Option, Ok, Err, inl, inr, arith, length-append}
use Rattle.std.specs.Prelude.{◌||◌, min, slice_index}
use Rattle.sd_model_shard.specs.Shard.{last_number}
use Rattle.std.specs.List.{AllByRecursion, list_any}
use Rattle.std.proofs.Math.Bool.{or-false}
use Rattle.std.proofs.lemmas.List.{length-map}
use Rattle.sd_model_outside.specs.Outside.{File, Host, Datagrams, Object, Rose, last_count, object_at}
use Rattle.sd_model_outside.specs.Uses.{IsSpent}
use Rattle.sd_model_settings.specs.Settings.{Settings, SettingsFlaw, settings}
use Rattle.sd_model_replay.specs.Replay.{targets_of, is_used}
use Rattle.sd_model_serve.specs.Receiving.{LoopEnd, Spent, Failed, Enough, LimitReached, EndsFlusher, EndsKeeper, IsShort, most_turns, ReceiverTrace}
use Rattle.sd_model_stream.specs.Streams.{any_reached_limit, LineTrace}
use Rattle.sd_model_run.specs.Run.{ServerTrace, AreLineTraces, rounds_in}
use Rattle.sd_model_call.specs.Call.{Form, Serve, form, Answer, Done, NoMemory, NoForm, Misset, BadScript, NotOpened, NotRead, NotWritten, Worn, WritesTotals}
use Rattle.sd_model_call.specs.Opening.{World, Opening, Part, OfSettings, OfScript, OfSource, OfBeat, OfWire, OfBackend, OfDoor, OfStreams, IsAccepted, IsFlawed, backend_openings, opening_where, repeated, settled, wire_openings}
use Rattle.sd_law_call.specs.Completeness.{IsWhole, IsBlocked}
use Rattle.sd_model_record.specs.Totals.{totals_text}
use Rattle.sd_model_call.specs.Server.{backend_place, AnswersServer, HasServed, ServerAccounts, door_openings, has_streams, reached_limit, run_totals, server_openings, source_openings}
use Rattle.sd_law_call.specs.ServerCompleteness.{AStreamTookMost, AreAllSpent, AsksFor, HasFaultOf, IsCauseOf, IsOpenedToServe, IsOutermost, IsServed, IsUnhinderedServer, NoneFailed, OneTookMost, TookMost}
use Rattle.sd_law_call.proofs.BegunLemmas.{Same, all_numbered, accepted_so, at_same, has_flaw, none_failed, not_begun, not_taken, same_start, uncut}
use Rattle.sd_law_call.proofs.LoopEnds.{AllDone, AreEnded, ComesFrom, OneSourceTookMost, all_done, beat_spent, both_false, comes_from, whole_done, limit_at_one}
use Rattle.sd_law_call.proofs.Openings.{all_backends, all_append, all_where}
use Rattle.sd_model_run.proofs.Short.{AreReceiverTraces}
use Rattle.sd_model_call.proofs.Short.{target_place, flush_interval, server_begun, run_answer}

-- a part that a server opens
abbrev is_served : Opening → Type 0
is_served o = IsOpenedToServe o.part

all_served : (s : Settings) → AllByRecursion is_served (server_openings s)
all_served s =
    let at_streams : Opening = record { part = OfStreams; place = Host s.addresses.address s.transport.tcp_port } in
    let at_door : Opening = record { part = OfDoor; place = Host s.addresses.mgmt_address s.server.mgmt_port } in
    let doors = door_openings s in
    let each_door : AllByRecursion is_served doors = all_append is_served (opening_where (has_streams s) at_streams) (at_door ∷ []) (all_where is_served (has_streams s) at_streams (λ on. tt)) (tt, tt) in
    let backs = backend_openings s (backend_place s) in
    all_append is_served (source_openings s) (wire_openings s.sizes.receivers s ++ (backs ++ doors)) (all_numbered IsOpenedToServe OfSource (λ i. tt) 0 (repeated s.sizes.receivers (Datagrams s.addresses.address s.server.port s.transport.receive_buffer ∷ [])))
    (all_append is_served (wire_openings s.sizes.receivers s) (backs ++ doors) (all_numbered IsOpenedToServe OfWire (λ i. tt) 0 (repeated s.sizes.receivers (map target_place (targets_of s))))
    (all_append is_served backs doors (all_backends is_served s (backend_place s) (λ b used. tt)) each_door))

are_ended : (asked made run : ℕ) (rs : List ReceiverTrace) (ss ns ws wn : List Object) → AreReceiverTraces asked made run rs ss ns ws wn → AreEnded asked made (map (λ r. r.ended) rs) ss ns
are_ended asked made run [] ss ns ws wn h = tt
are_ended asked made run (r ∷ rs) [] ns ws wn h = h
are_ended asked made run (r ∷ rs) (s ∷ ss) [] ws wn h = h
are_ended asked made run (r ∷ rs) (s ∷ ss) (n ∷ ns) ws wn h = (
  record { turned = h.0.turned; turns = h.0.turns; seen = h.0.seen; known = h.0.known; ends = h.0.ends },
  are_ended asked made run rs ss ns (drop run ws) (drop run wn) h.1,
)

either_true : (a b : Bool) → (a || b) ≡ true → (a ≡ true) ⊎ (b ≡ true)
either_true true b h = inl refl
either_true false b h = inr h

-- loops that took the most turns
flusher_reached_limit : (asked : ℕ) (f : LoopEnd) (made : ℕ) (beat beat_now : Object) → EndsFlusher asked f beat beat_now made → beat_now.turns ≡ beat.turns + made → reached_limit f ≡ true → TookMost beat beat_now
flusher_reached_limit asked Spent made beat beat_now ends ticks is = absurd (cc)
flusher_reached_limit asked Failed made beat beat_now ends ticks is = absurd (cc)
flusher_reached_limit asked (Enough n) made beat beat_now ends ticks is = absurd (cc)
flusher_reached_limit asked (LimitReached n) made beat beat_now ends ticks is = ticks ∙ ap (λ j. beat.turns + j) (ends.1 ∙ ends.0)

keeper_reached_limit : (asked : ℕ) (k : LoopEnd) (seen turned : ℕ) (door door_now : Object) → EndsKeeper asked k door_now seen turned → door_now.turns ≡ door.turns + turned → reached_limit k ≡ true → TookMost door door_now
keeper_reached_limit asked Spent seen turned door door_now ends visits is = absurd (cc)
keeper_reached_limit asked Failed seen turned door door_now ends visits is = absurd ends
keeper_reached_limit asked (Enough n) seen turned door door_now ends visits is = absurd (cc)
keeper_reached_limit asked (LimitReached n) seen turned door door_now ends visits is = visits ∙ ap (λ j. door.turns + j) ends.1

-- one of the streams that were read took the most reads
abbrev StreamsReachedLimit : List LineTrace → Type 0
StreamsReachedLimit ls = list_any (λ (l : LineTrace). any_reached_limit l.streams) ls ≡ true

lines_reached_limit : (asked made : ℕ) (streams : Bool) (ls : List LineTrace) (door door_now : Object) → AreLineTraces asked made streams ls door door_now → list_any reached_limit (map (λ l. l.ended) ls) ≡ true → TookMost door door_now ⊎ StreamsReachedLimit ls
lines_reached_limit asked made false [] door door_now h is = absurd (cc)
lines_reached_limit asked made false (l ∷ ls) door door_now h is = absurd h
lines_reached_limit asked made true [] door door_now h is = absurd h
lines_reached_limit asked made true (l ∷ k ∷ ls) door door_now h is = absurd h
lines_reached_limit asked made true (l ∷ []) door door_now h is = by_test (any_reached_limit l.streams) refl where
  by_test : (b : Bool) → any_reached_limit l.streams ≡ b → TookMost door door_now ⊎ StreamsReachedLimit (l ∷ [])
  by_test true limit_reached = inr (or-false (any_reached_limit l.streams) ∙ limit_reached)
  by_test false none = inl (keeper_reached_limit asked l.ended h.seen h.turned door door_now (h.ends none) h.turns (sym (or-false (reached_limit l.ended)) ∙ is))

-- a call that served
module _ (name : List ℕ) (says : ℕ → Type 0) (answer : Answer) (old new : World) (h : HasServed name says answer old new) where
  abbrev start : World
  start = server_begun h.values (settled h.values h.settings old)

  abbrev trace : ServerTrace
  trace = h.trace

  abbrev asked : ℕ
  asked = h.values.sizes.run_flushes

  abbrev received : List LoopEnd
  received = map (λ r. r.ended) trace.receiver_traces

  abbrev keepers : List LoopEnd
  keepers = trace.keeper_ended ∷ map (λ l. l.ended) trace.line_traces

  faults : Same (λ o. o.faults) start old
  faults = same_start (λ o. o.faults) (λ place o. refl) (λ content o. refl) (λ interval o. refl) (server_openings h.values) (flush_interval h.values) h.values h.settings name old h.taken

  turns : Same (λ o. o.turns) start old
  turns = same_start (λ o. o.turns) (λ place o. refl) (λ content o. refl) (λ interval o. refl) (server_openings h.values) (flush_interval h.values) h.values h.settings name old h.taken

  -- how many flushes may have been seen
  abbrev most : ℕ
  most = trace.desk.facts.rounds

  loops : AreEnded asked most received start.served.sources new.served.sources
  loops = are_ended asked trace.desk.facts.rounds _ trace.receiver_traces start.served.sources new.served.sources start.seen.wires new.seen.wires h.theorem.run.received

  -- what the answer of a run comes from
  ends : (a : Answer) → run_answer trace ≡ a → ComesFrom received trace.flusher_ended keepers start.served.sources new.served.sources start.served.beat new.served.beat a
  ends a is = comes_from asked most (length trace.ticked) received trace.flusher_ended keepers start.served.sources new.served.sources start.served.beat new.served.beat loops h.theorem.run.flushed.ends a is

  -- which loop beside the receivers took the most turns
  abbrev OtherTookMost : (beat beat_now door door_now streams streams_now : Object) → Type 0
  OtherTookMost beat beat_now door door_now streams streams_now = TookMost beat beat_now ⊎ TookMost door door_now ⊎ TookMost streams streams_now ⊎ StreamsReachedLimit trace.line_traces

  other_reached_limit : list_any reached_limit (trace.flusher_ended ∷ keepers) ≡ true → OtherTookMost start.served.beat new.served.beat start.served.door new.served.door start.served.streams new.served.streams
  other_reached_limit is = by_flusher (either_true (reached_limit trace.flusher_ended) _ is) where
    by_line_reader : TookMost start.served.streams new.served.streams ⊎ StreamsReachedLimit trace.line_traces → OtherTookMost start.served.beat new.served.beat start.served.door new.served.door start.served.streams new.served.streams
    by_line_reader (inl most) = inr (inr (inl most))
    by_line_reader (inr limit_reached) = inr (inr (inr limit_reached))

    by_keeper : (reached_limit trace.keeper_ended ≡ true) ⊎ (list_any reached_limit (map (λ l. l.ended) trace.line_traces) ≡ true) → OtherTookMost start.served.beat new.served.beat start.served.door new.served.door start.served.streams new.served.streams
    by_keeper (inl limit_reached) = inr (inl (keeper_reached_limit asked trace.keeper_ended h.theorem.run.kept.seen h.theorem.run.kept.turned start.served.door new.served.door h.theorem.run.kept.ends h.theorem.run.kept.turns limit_reached))
    by_keeper (inr limit_reached) = by_line_reader (lines_reached_limit asked trace.desk.facts.rounds (has_streams h.values) trace.line_traces start.served.streams new.served.streams h.theorem.run.lines_read limit_reached)

    by_flusher : (reached_limit trace.flusher_ended ≡ true) ⊎ (list_any reached_limit keepers ≡ true) → OtherTookMost start.served.beat new.served.beat start.served.door new.served.door start.served.streams new.served.streams
    by_flusher (inl limit_reached) = inl (flusher_reached_limit asked trace.flusher_ended (length trace.ticked) start.served.beat new.served.beat h.theorem.run.flushed.ends h.theorem.run.flushed.turns limit_reached)
    by_flusher (inr limit_reached) = by_keeper (either_true (reached_limit trace.keeper_ended) _ limit_reached)

  one_reached_limit : OneSourceTookMost start.served.sources new.served.sources ⊎ (list_any reached_limit (trace.flusher_ended ∷ keepers) ≡ true) → OneTookMost old new ⊎ StreamsReachedLimit trace.line_traces
  one_reached_limit (inl (i, most)) = inl (inl (i, most ∙ ap (λ n. min (n + most_turns) last_count) (at_same (λ o. o.turns) i start.served.sources old.served.sources turns.sources)))
  one_reached_limit (inr is) = by_other (other_reached_limit is) where
    by_other : OtherTookMost start.served.beat new.served.beat start.served.door new.served.door start.served.streams new.served.streams → OneTookMost old new ⊎ StreamsReachedLimit trace.line_traces
    by_other (inl most) = inl (inr (inl (most ∙ ap (λ n. n + most_turns) turns.beat)))
    by_other (inr (inl most)) = inl (inr (inr (inl (most ∙ ap (λ n. n + most_turns) turns.door))))
    by_other (inr (inr (inl most))) = inl (inr (inr (inr (most ∙ ap (λ n. n + most_turns) turns.streams))))
    by_other (inr (inr (inr limit_reached))) = inr limit_reached

  cause : (a : Answer) → ComesFrom received trace.flusher_ended keepers start.served.sources new.served.sources start.served.beat new.served.beat a → IsCauseOf name (StreamsReachedLimit trace.line_traces) a old new
  cause a (inl (i, is, rose)) =
      let from = subst (λ (n : ℕ). Rose n (object_at i new.served.sources).faults) (at_same (λ o. o.faults) i start.served.sources old.served.sources faults.sources) rose in
      subst (λ (a : Answer). IsCauseOf name (StreamsReachedLimit trace.line_traces) a old new) (sym (is ∙ ap (λ j. NotRead (OfSource j)) (omega arith))) (tt, from)
  cause a (inr (inl (is, rose))) = subst (λ (a : Answer). IsCauseOf name (StreamsReachedLimit trace.line_traces) a old new) (sym is) (tt, subst (λ (n : ℕ). Rose n new.served.beat.faults) faults.beat rose)
  cause a (inr (inr (inl (is, limit_reached)))) =
      subst (λ (a : Answer). IsCauseOf name (StreamsReachedLimit trace.line_traces) a old new) (sym is) (refl, one_reached_limit (limit_at_one (trace.flusher_ended ∷ keepers) asked most received start.served.sources new.served.sources loops limit_reached))
  cause a (inr (inr (inr (is, none)))) = subst (λ (a : Answer). IsCauseOf name (StreamsReachedLimit trace.line_traces) a old new) (sym is) tt

  -- a run's answer has its cause
  pub served_cause : IsCauseOf name (StreamsReachedLimit trace.line_traces) answer old new
  served_cause = by_written h.written where
    by_uncut : Rose old.seen.output.faults new.seen.output.faults → (answer ≡ NotWritten) ⊎ (run_answer trace ≡ answer) → IsCauseOf name (StreamsReachedLimit trace.line_traces) answer old new
    by_uncut rose (inl is) = subst (λ (a : Answer). IsCauseOf name (StreamsReachedLimit trace.line_traces) a old new) (sym is) rose
    by_uncut rose (inr is) = cause answer (ends answer is)

    by_written : WritesTotals (totals_text (run_totals h.values trace)) (run_answer trace) answer old.seen.output new.seen.output → IsCauseOf name (StreamsReachedLimit trace.line_traces) answer old new
    by_written (inl (is, text)) = cause answer (ends answer (sym is))
    by_written (inr (is, failed)) = by_uncut failed.rose (uncut (run_answer trace) answer is)

keeper_spent : (asked most : ℕ) → IsShort asked most → (k : LoopEnd) (seen turned : ℕ) (door_now : Object) → seen ≤ most → EndsKeeper asked k door_now seen turned → reached_limit k ≡ false → IsSpent door_now.content
keeper_spent asked most short Spent seen turned door_now known h none = h.0
keeper_spent asked most short Failed seen turned door_now known h none = absurd h
keeper_spent asked most short (Enough n) seen turned door_now known h none = let enough = h.1 in let is = h.2 in let few = short h.0 in absurd (omega (arith, enough, is, few, known))
keeper_spent asked most short (LimitReached n) seen turned door_now known h none = absurd (cc)

line_traces_spent : (asked most : ℕ) → IsShort asked most → (streams : Bool) (ls : List LineTrace) (door door_now : Object) → AreLineTraces asked most streams ls door door_now → list_any reached_limit (map (λ l. l.ended) ls) ≡ false → streams ≡ true → IsSpent door_now.content
line_traces_spent asked most short false ls door door_now h none on = absurd (cc)
line_traces_spent asked most short true [] door door_now h none on = absurd h
line_traces_spent asked most short true (l ∷ k ∷ ls) door door_now h none on = absurd h
line_traces_spent asked most short true (l ∷ []) door door_now h none on = by_test (any_reached_limit l.streams) refl where
  ended : reached_limit l.ended ≡ false
  ended = sym (or-false (reached_limit l.ended)) ∙ none

  by_test : (b : Bool) → any_reached_limit l.streams ≡ b → IsSpent door_now.content
  by_test true limit_reached = let is = ap reached_limit (h.limit_reached limit_reached) in absurd (cc)
  by_test false fresh = keeper_spent asked most short l.ended h.seen h.turned door_now h.known (h.ends fresh) ended

module _ (name : List ℕ) (says : ℕ → Type 0) (old new : World) (h : HasServed name says Done old new) where
  abbrev begin : World
  begin = server_begun h.values (settled h.values h.settings old)

  abbrev heard : List LoopEnd
  heard = map (λ r. r.ended) h.trace.receiver_traces

  done : run_answer h.trace ≡ Done
  done = by_written h.written where
    by_written : WritesTotals (totals_text (run_totals h.values h.trace)) (run_answer h.trace) Done old.seen.output new.seen.output → run_answer h.trace ≡ Done
    by_written (inl (is, text)) = sym is
    by_written (inr (is, failed)) = whole_done (run_answer h.trace) (uncut (run_answer h.trace) Done is)

  abbrev wanted : ℕ
  wanted = h.values.sizes.run_flushes

  abbrev reported : ℕ
  reported = h.trace.desk.facts.rounds

  all : AllDone wanted reported (length h.trace.ticked) heard (h.trace.keeper_ended ∷ map (λ l. l.ended) h.trace.line_traces) new.served.sources new.served.beat
  all = all_done wanted reported (length h.trace.ticked) heard h.trace.flusher_ended (h.trace.keeper_ended ∷ map (λ l. l.ended) h.trace.line_traces) begin.served.sources new.served.sources begin.served.beat new.served.beat
      (loops name says Done old new h) h.theorem.run.flushed.ends done

  -- where fewer flushes were made than were asked for, if any were
  all_of : IsShort wanted reported → IsShort wanted (length h.trace.ticked) → AreAllSpent h.values.sizes.receivers (has_streams h.values) new
  all_of short ticks =
      let kept = h.theorem.run.kept in
      let two = both_false (reached_limit h.trace.keeper_ended) _ all.none_reached_limit in
      record {
        sources = λ i below. all.sources short i (omega (arith, below, length-map h.trace.receiver_traces (λ (r : ReceiverTrace). r.ended), h.theorem.run.count));
        beat = beat_spent wanted (length h.trace.ticked) new.served.beat ticks all.beat;
        door = keeper_spent wanted reported short h.trace.keeper_ended kept.seen kept.turned new.served.door kept.known kept.ends two.0;
        streams = line_traces_spent wanted reported short (has_streams h.values) h.trace.line_traces begin.served.streams new.served.streams h.theorem.run.lines_read two.1;
      }

  pub all_spent : wanted ≡ 0 → AreAllSpent h.values.sizes.receivers (has_streams h.values) new
  all_spent none = all_of (λ some. absurd (omega (arith, some, none))) (λ some. absurd (omega (arith, some, none)))

  -- the desk tells no more rounds than there were
  pub short_spent : IsShort wanted (length (rounds_in h.trace)) → AreAllSpent h.values.sizes.receivers (has_streams h.values) new
  short_spent short =
      let is : h.trace.desk.facts.rounds ≡ min (length (rounds_in h.trace)) last_number = ap (λ (numbers : List ℕ). slice_index numbers 8) h.theorem.run.counted in
      let ticks = length-append h.trace.ticked (h.trace.last ∷ []) in
      all_of (λ some. let less = short some in omega (arith, less, is)) (λ some. let less = short some in omega (arith, less, ticks))

  pub rounds_made : 0 < wanted → (length (rounds_in h.trace) ≡ wanted + 1) ⊎ IsSpent new.served.beat.content
  rounds_made some = by_beat_end all.beat where
    by_beat_end : (0 < wanted) × (length h.trace.ticked ≡ wanted) ⊎ IsSpent new.served.beat.content → (length (rounds_in h.trace) ≡ wanted + 1) ⊎ IsSpent new.served.beat.content
    by_beat_end (inl (asked, is)) = inl (length-append h.trace.ticked (h.trace.last ∷ []) ∙ ap (λ n. n + 1) is)
    by_beat_end (inr spent) = inr spent

-- every answer has its cause
pub answer_cause : (name : List ℕ) (says : ℕ → Type 0) (old new : World) (answer : Answer) (h : ServerAccounts name says answer old new) → IsCauseOf name (AStreamTookMost h) answer old new
answer_cause name says old new answer (inl taken) = not_taken name old new (λ a. IsCauseOf name ⊥ a old new) tt answer taken (λ rose. (tt, rose)) (λ rose. (tt, rose)) (λ flaw has. (has, taken.only))
answer_cause name says old new answer (inr (inl not)) = not_begun name old new (λ a. IsCauseOf name ⊥ a old new) tt server_openings IsOpenedToServe answer not (all_served not.values) (λ part closed. closed)
answer_cause name says old new answer (inr (inr served)) = served_cause name says answer old new served

-- a call whose words ask to serve, by settings with these bytes
module _ (words : List (List ℕ)) (bytes : List ℕ) (says : ℕ → Type 0) (old new : World) (asks : AsksFor Serve words old bytes) where
  module _ (values : Settings) (accepted : settings bytes ≡ Ok values) (steady : IsUnhinderedServer old new) where
    by_cause : (stream : Type 0) → ¬ stream → (answer : Answer) → IsCauseOf asks.name stream answer old new → IsServed answer
    by_cause stream none Done h = inl (inl refl)
    by_cause stream none NoMemory h = inl (inr refl)
    by_cause stream none NoForm h = absurd h
    by_cause stream none (Misset flaw) h = let same : Err flaw ≡ Ok values = sym (has_flaw asks.name bytes old asks.content flaw new.settings h.0) ∙ accepted in absurd (cc)
    by_cause stream none (BadScript at flaw) h = absurd h
    by_cause stream none (NotOpened OfSettings) h = absurd (steady.runs.settings h.1)
    by_cause stream none (NotOpened OfScript) h = absurd h.0
    by_cause stream none (NotOpened (OfSource i)) h = absurd (steady.runs.sources i h.1)
    by_cause stream none (NotOpened OfBeat) h = absurd h.0
    by_cause stream none (NotOpened (OfWire i)) h = inr (OfWire i, tt, refl)
    by_cause stream none (NotOpened (OfBackend b)) h = inr (OfBackend b, tt, refl)
    by_cause stream none (NotOpened OfDoor) h = inr (OfDoor, tt, refl)
    by_cause stream none (NotOpened OfStreams) h = inr (OfStreams, tt, refl)
    by_cause stream none (NotRead part) h = absurd (none_failed old new steady.runs part h.0 h.1)
    by_cause stream none NotWritten h = absurd (steady.runs.output h)
    by_cause stream none (Worn turns) h = by_loop h.1 where
      by_loop : OneTookMost old new ⊎ stream → IsServed (Worn turns)
      by_loop (inl (inl (i, most))) = let few = steady.runs.source_turns i in let low = steady.runs.uncapped i in absurd (omega (arith, most, few, low))
      by_loop (inl (inr (inl most))) = let few = steady.runs.beat_turns in absurd (omega (arith, most, few))
      by_loop (inl (inr (inr (inl most)))) = let few = steady.door_turns in absurd (omega (arith, most, few))
      by_loop (inl (inr (inr (inr most)))) = let few = steady.stream_turns in absurd (omega (arith, most, few))
      by_loop (inr limit_reached) = absurd (none limit_reached)

    pub serves : (answer : Answer) (h : ServerAccounts asks.name says answer old new) → ¬ AStreamTookMost h → IsServed answer
    serves answer h none = by_cause (AStreamTookMost h) none answer (answer_cause asks.name says old new answer h)

    module _ (none : NoneFailed old new) where
      -- of a part that has no fault none was counted
      not_failed : (part : Part) → IsOutermost part → ¬ HasFaultOf part old new
      not_failed OfSettings outer = absurd outer
      not_failed OfScript outer = absurd outer
      not_failed (OfSource i) outer = absurd outer
      not_failed OfBeat outer = absurd outer
      not_failed (OfWire i) outer = none.wires i
      not_failed (OfBackend b) outer = none.backs b
      not_failed OfDoor outer = none.door
      not_failed OfStreams outer = none.streams

      is_whole : (stream : Type 0) (answer : Answer) → IsCauseOf asks.name stream answer old new → IsServed answer → IsWhole Done answer
      is_whole stream answer h (inl whole) = whole
      is_whole stream answer h (inr (part, outer, is)) = absurd (not_failed part outer (subst (λ (a : Answer). IsCauseOf asks.name stream a old new) is h).1)

      pub serves_whole : (answer : Answer) (h : ServerAccounts asks.name says answer old new) → ¬ AStreamTookMost h → IsWhole Done answer
      serves_whole answer h no_stream = is_whole (AStreamTookMost h) answer (answer_cause asks.name says old new answer h) (serves answer h no_stream)

  module _ (flaw : SettingsFlaw) (refused : settings bytes ≡ Err flaw) where
    not_accepted : (values : Settings) (now : Object) → IsAccepted values (File asks.name) old.settings now → ⊥
    not_accepted values now taken =
        let same : Ok values ≡ Err flaw = sym (accepted_so asks.name bytes old asks.content values now taken) ∙ refused in
        absurd (cc)

    by_account : (answer : Answer) → ServerAccounts asks.name says answer old new → IsBlocked (Misset flaw) answer
    by_account answer (inl taken) = not_taken asks.name old new (IsBlocked (Misset flaw)) (inl (inr refl)) answer taken (λ rose. inr (inl refl)) (λ rose. inr (inr refl)) same_flaw where
      same_flaw : (other : SettingsFlaw) → IsFlawed other (File asks.name) old.settings new.settings → IsBlocked (Misset flaw) (Misset other)
      same_flaw other has =
          let same : Err other ≡ Err flaw = sym (has_flaw asks.name bytes old asks.content other new.settings has) ∙ refused in
          let one : other ≡ flaw = cc in
          inl (inl (ap (λ f. Misset f) one))
    by_account answer (inr (inl not)) = absurd (not_accepted not.values not.settings not.taken)
    by_account answer (inr (inr served)) = absurd (not_accepted served.values served.settings served.taken)

    pub blocked : (answer : Answer) → AnswersServer (form words) says answer old new → IsBlocked (Misset flaw) answer
    blocked answer h = by_account answer (subst (λ (f : Option Form). AnswersServer f says answer old new) asks.form h)
