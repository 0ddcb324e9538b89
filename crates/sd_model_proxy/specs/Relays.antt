-- What the workers of a proxy do that send lines on, each on its own run of wires: its receivers with the datagrams of their
-- sources, and its reader of lines with the sessions of its door, those together that one read ended.
use Rattle.std.specs.{Prelude.{◌≡◌, ℕ, ◌+◌, ◌≤◌, min, List, length, map, Bool, true, false, [], ◌∷◌, ◌++◌, drop, flat_map, count_by}, List.{AllZip}}
use Rattle.sd_model_text.specs.Lines.{lines}
use Rattle.sd_model_outside.specs.{Outside.{Object, last_count}, Uses.{with_datagrams, IsSpent, AfterSendsOn}}
use Rattle.sd_model_settings.specs.Entries.{Node}
use Rattle.sd_model_serve.specs.{Receiving.{LoopEnd, EndsReceiver, Spent, Failed, Enough, LimitReached, most_turns}, Sessions.{ServesDoor, Visit}}
use Rattle.sd_model_proxy.specs.Routes.{Read, AreBatched, Batched, add_totals, no_totals, sums_of_totals, relay_counts, joined}
use Rattle.sd_model_record.specs.Totals.{Total}
use Rattle.sd_model_stream.specs.Streams.{StreamLine, Line, Long, Stream, stream_lines, IsStreamOf}

-- What a receiver of a proxy did, or its reader of lines: the datagrams that it read, of which a reader of lines has none; its
-- reads, each with the nodes that were up; the packets of their lines to each node; and how it ended.
pub record Relay : Type 0 where
  pub datagrams : List (List ℕ)
  pub reads : List Read
  pub batched : Batched
  pub ended : LoopEnd

-- Its wires, one for each node, got just the lines whose owner is their node among the nodes that were up when they were read, in
-- order, those of one read in packets of at most so many bytes, but for packets whose sends failed.
pub record HasForwarded (most : ℕ) (nodes : List Node) (r : Relay) (wires wires_now : List Object) : Type 0 where
  pub packets : AreBatched most nodes r.reads r.batched
  pub each : length wires ≡ length nodes
  pub sends : AfterSendsOn (λ place. map (λ b. record { packet = joined b.lines; is_failed = b.is_failed }) (r.batched place)) wires wires_now

-- A receiver's datagrams are those that its source, which is else as it was, has given since, in order, and their lines are what it read
-- and sent on its wires. It ended so once its source had taken so many turns, counted up to the last count; no flushes end it.
pub record IsRelay (most : ℕ) (nodes : List Node) (r : Relay) (source source_now : Object) (wires wires_now : List Object) : Type 0 where
  pub given : source.content ≡ with_datagrams r.datagrams source_now.content
  pub read : AllZip (λ datagram r. (r.lines ≡ lines datagram) × (r.long ≡ 0)) r.datagrams r.reads
  pub forwarded : HasForwarded most nodes r wires wires_now
  pub turned : ℕ
  pub turns : source_now.turns ≡ min (source.turns + turned) last_count
  pub many : length r.reads ≤ turned
  pub ends : EndsReceiver 0 r.ended source source_now 0 turned
  pub same : source_now ≡ record source { content = source_now.content; faults = source_now.faults; turns = source_now.turns }

-- what a receiver, or a reader of lines, counted
abbrev pub relay_totals : List Node → Relay → List Total
relay_totals nodes r = add_totals no_totals (relay_counts nodes (length r.datagrams) r.reads r.batched)

-- the lines of a line of a stream: those of a datagram of its bytes; one that is too long has none
abbrev pub lines_of_cut : StreamLine → List (List ℕ)
lines_of_cut (Line bytes) = lines bytes
lines_of_cut Long = []

-- whether a line of a stream is too long
abbrev pub is_long : StreamLine → Bool
is_long (Line bytes) = false
is_long Long = true

-- the lines that each of these reads of a stream ended, where bytes were read before them
abbrev pub lines_ended : (before : List ℕ) → (reads : List (List ℕ)) → List (List StreamLine)
lines_ended before [] = []
lines_ended before (bytes ∷ reads) = drop (length (stream_lines before)) (stream_lines (before ++ bytes)) ∷ lines_ended (before ++ bytes) reads

-- Why the serving of a door ended: it has nothing left; or it took so many turns, which are the most. Its failures don't end it.
abbrev pub EndsServing : LoopEnd → (door door_now : Object) → Type 0
EndsServing Spent door door_now = IsSpent door_now.content
EndsServing Failed door door_now = ⊥
EndsServing (Enough flushes) door door_now = ⊥
EndsServing (LimitReached turns) door door_now = (turns ≡ most_turns) × (door_now.turns ≡ door.turns + turns)

-- The sessions of a door were read as streams, one after another, and given back. The lines that each read ended were sent on its
-- wires; it read no datagram; and it ended so.
pub record IsLineRelay (most : ℕ) (nodes : List Node) (r : Relay) (door door_now : Object) (wires wires_now : List Object) : Type 0 where
  pub visits : List Visit
  pub failures : ℕ
  pub streams : List Stream
  pub served : ServesDoor visits failures door door_now
  pub went : AllZip IsStreamOf visits streams
  pub none : r.datagrams ≡ []
  pub read : AllZip (λ cuts r. (r.lines ≡ flat_map lines_of_cut cuts) × (r.long ≡ count_by is_long cuts)) (flat_map (λ s. lines_ended [] s.reads) streams) r.reads
  pub forwarded : HasForwarded most nodes r wires wires_now
  pub ends : EndsServing r.ended door door_now
