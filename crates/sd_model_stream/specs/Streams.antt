-- The lines of a stream, each read as a datagram is; streams that were read one after another, and what their lines count for.
use Rattle.std.specs.{Prelude.{◌≡◌, ⊤, ℕ, ◌<◌, Bool, true, false, List, [], ◌∷◌, length, flat_map, All, if◌then◌else◌, nat_le, map}, List.{AllByRecursion, concat, list_any, AllZip}}
use Rattle.sd_model_outside.specs.Outside.{Object, IsAtEnd, Reads, Rose}
use Rattle.sd_model_record.specs.DeskHistory.{DeskCall, DeskEvent, Add, AdminFault, Look}
use Rattle.sd_model_serve.specs.{Sessions.{Visit}, Receiving.{LoopEnd, most_turns, Addition, additions_in}}
use Rattle.sd_model_text.specs.{Lists.{split}, Lines.{Sample, samples_of, pieces, bad_of, longest_datagram}}

-- A line of a stream, without its newline: its bytes, or that it has more of them than it may.
pub data StreamLine : Type 0 where
  Line : (bytes : List ℕ) → StreamLine
  Long : StreamLine

-- a list without its last element
abbrev pub but_last : {A : Type 0} → List A → List A
but_last [] = []
but_last (x ∷ []) = []
but_last (x ∷ y ∷ more) = x ∷ but_last (y ∷ more)

-- the lines of a stream: its parts between newlines without the last part
abbrev pub stream_lines : List ℕ → List StreamLine
stream_lines stream = map (λ part. if nat_le (length part) longest_datagram then Line part else Long) (but_last (split 10 stream))

-- the samples of a line; one that is too long has none
abbrev pub samples_of_line : StreamLine → List Sample
samples_of_line (Line bytes) = samples_of bytes
samples_of_line Long = []

-- how many pieces a line has; one that is too long counts as one
abbrev pub pieces_of_line : StreamLine → ℕ
pieces_of_line (Line bytes) = length (pieces bytes)
pieces_of_line Long = 1

-- how many of them are bad, as one that is too long is
abbrev pub bad_of_line : StreamLine → ℕ
bad_of_line (Line bytes) = bad_of bytes
bad_of_line Long = 1

-- How the reading of a stream ended: at its end; since its source failed; after so many reads, which are the most.
pub data StreamEnd : Type 0 where
  AtEnd Failed : StreamEnd
  LimitReached : (turns : ℕ) → StreamEnd

-- A stream as it was read: the bytes of each read, in order, and how that ended.
pub record Stream : Type 0 where
  pub reads : List (List ℕ)
  pub ended : StreamEnd

-- the bytes that were read
abbrev pub bytes_in : Stream → List ℕ
bytes_in s = concat s.reads

-- the lines of streams, one after another
abbrev pub lines_in : List Stream → List StreamLine
lines_in streams = flat_map (λ s. stream_lines (bytes_in s)) streams

-- why the reading ended, after so many reads
abbrev pub EndsStream : StreamEnd → (reads : ℕ) → (source source_now : Object) → Type 0
EndsStream AtEnd reads source source_now = IsAtEnd source_now.content × (source_now.faults ≡ source.faults) × (reads < most_turns)
EndsStream Failed reads source source_now = Rose source.faults source_now.faults × (reads < most_turns)
EndsStream (LimitReached turns) reads source source_now = (turns ≡ most_turns) × (reads ≡ most_turns) × (source_now.faults ≡ source.faults)

-- A stream was so read of its source, at least a byte by each read, and the source is where it was.
pub record ReadsStream (s : Stream) (source source_now : Object) : Type 0 where
  pub some : All (λ bytes. 0 < length bytes) s.reads
  pub read : Reads source.content (bytes_in s) source_now.content
  pub place : source_now.opened_at ≡ source.opened_at
  pub ends : EndsStream s.ended (length s.reads) source source_now

-- the events at the desk of who reads lines: tallies are added, sessions that failed are counted, and the desk is looked at
abbrev pub IsLineEvent : DeskEvent → Type 0
IsLineEvent (Add tally now) = ⊤
IsLineEvent AdminFault = ⊤
IsLineEvent Look = ⊤
IsLineEvent event = ⊥

-- A read of a stream was counted so: as no packet, at a moment that the clock may say.
pub record IsCountOfRead (says : ℕ → Type 0) (a : Addition) : Type 0 where
  pub packets : a.tally.packets ≡ 0
  pub moment : says a.now

-- The calls of who read so many times of streams: each read was counted once, and besides only sessions that failed.
pub record CountsReads (says : ℕ → Type 0) (reads : ℕ) (calls : List DeskCall) : Type 0 where
  pub only : AllByRecursion (λ c. IsLineEvent c.event) calls
  pub each : AllByRecursion (IsCountOfRead says) (additions_in calls)
  pub count : length (additions_in calls) ≡ reads

-- whether the reading of a stream ended since its source failed
abbrev pub ends_by_failure : StreamEnd → Bool
ends_by_failure Failed = true
ends_by_failure ended = false

-- whether it ended after the most reads
abbrev pub stream_is_reached_limit : StreamEnd → Bool
stream_is_reached_limit (LimitReached turns) = true
stream_is_reached_limit ended = false

-- whether any of streams reached the limit
abbrev pub any_reached_limit : List Stream → Bool
any_reached_limit streams = list_any (λ s. stream_is_reached_limit s.ended) streams

-- A session of a door was a stream that was so read, is a fault just where its source failed, and was told nothing.
pub record IsStreamOf (v : Visit) (s : Stream) : Type 0 where
  pub read : ReadsStream s v.asking v.asking_now
  pub fault : v.is_fault ≡ ends_by_failure s.ended
  pub unanswered : v.answered_now ≡ v.answered

-- What a reader of lines did: the sessions of its door, each as the stream that it was; the door's failures; and how it ended.
pub record LineTrace : Type 0 where
  pub visits : List Visit
  pub streams : List Stream
  pub failures : ℕ
  pub ended : LoopEnd
