-- How the loops of a server's workers end; who did what at shards; what callers file there, and a receiver does with its datagrams.
use Rattle.std.specs.{Prelude.{◌≡◌, ℕ, ◌<◌, ◌≤◌, ◌^◌, ⊤, min, List, [], ◌∷◌, length, map, take, drop, flat_map, sum_by, All, get_or}, List.{AllByRecursion, AllZip, range_with_len}}
use Rattle.sd_model_outside.specs.{Outside.{Object, Rose}, Uses.{IsSpent, with_datagrams, Sending, AreRepeated, failures}}
use Rattle.sd_model_text.specs.{Lines.{Sample, pieces, bad_of}, Names.{shard}}
use Rattle.sd_model_shard.specs.{History.{History, part_of, summed_by}, Shard.{Event, Submit, Reply, last_number}}
use Rattle.sd_model_record.specs.{Record.{Tally}, DeskHistory.{DeskCall, DeskEvent, Add, RepeaterFaults, Look}}

-- What ended a loop: nothing was left; a failure; so many flushes, which are enough; so many turns, which are the most.
pub data LoopEnd : Type 0 where
  Spent Failed : LoopEnd
  Enough : (flushes : ℕ) → LoopEnd
  LimitReached : (turns : ℕ) → LoopEnd

-- how many turns a loop takes at most
abbrev pub most_turns : ℕ
most_turns = 2 ^ 62

-- fewer flushes were seen than were asked for, where any were
abbrev pub IsShort : ℕ → ℕ → Type 0
IsShort asked seen = 0 < asked → seen < asked

-- Why a receiver ended, of which so many flushes were asked, once it had seen so many, and its source had taken so many turns.
abbrev pub EndsReceiver : (asked : ℕ) → LoopEnd → (source source_now : Object) → (seen turned : ℕ) → Type 0
EndsReceiver asked Spent source source_now seen turned =
    IsSpent source_now.content × (source_now.faults ≡ source.faults) × IsShort asked seen × (turned < most_turns)
EndsReceiver asked Failed source source_now seen turned = Rose source.faults source_now.faults × IsShort asked seen × (turned < most_turns)
EndsReceiver asked (Enough flushes) source source_now seen turned =
    (0 < asked) × (asked ≤ flushes) × (flushes ≡ seen) × (source_now.faults ≡ source.faults) × (turned < most_turns)
EndsReceiver asked (LimitReached turns) source source_now seen turned = (turns ≡ most_turns) × (turned ≡ most_turns) × (source_now.faults ≡ source.faults)

-- Why the flusher ended, of which so many flushes were asked, once it had made so many.
abbrev pub EndsFlusher : (asked : ℕ) → LoopEnd → (beat beat_now : Object) → (made : ℕ) → Type 0
EndsFlusher asked Spent beat beat_now made = IsSpent beat_now.content × (beat_now.faults ≡ beat.faults) × IsShort asked made
EndsFlusher asked Failed beat beat_now made = Rose beat.faults beat_now.faults × IsShort asked made
EndsFlusher asked (Enough flushes) beat beat_now made = (0 < asked) × (flushes ≡ asked) × (made ≡ flushes) × (beat_now.faults ≡ beat.faults)
EndsFlusher asked (LimitReached turns) beat beat_now made =
    (turns ≡ most_turns) × (made ≡ turns) × (beat_now.faults ≡ beat.faults) × (0 < asked → made ≤ asked)

-- Why the keeper of a door ended, once it had seen so many flushes, and the door had taken so many turns. No failure ends it.
abbrev pub EndsKeeper : (asked : ℕ) → LoopEnd → (door_now : Object) → (seen turned : ℕ) → Type 0
EndsKeeper asked Spent door_now seen turned = IsSpent door_now.content × IsShort asked seen × (turned < most_turns)
EndsKeeper asked Failed door_now seen turned = ⊥
EndsKeeper asked (Enough flushes) door_now seen turned = (0 < asked) × (asked ≤ flushes) × (flushes ≡ seen) × (turned < most_turns)
EndsKeeper asked (LimitReached turns) door_now seen turned = (turns ≡ most_turns) × (turned ≡ most_turns)

-- the number of the caller that flushes; those of receivers are below it
abbrev pub flusher : ℕ
flusher = 100

-- the number of the caller of admin commands
abbrev pub administrator : ℕ
administrator = 101

-- the acts of a caller, in order
abbrev pub acts_by : ℕ → History → History
acts_by who acts = part_of (λ a. a.who) who acts

-- what acts asked for
abbrev pub events_of : History → List Event
events_of acts = map (λ a. a.event) acts

-- what good samples ask of shard i of so many: that those whose keys belong there are taken, in order
abbrev pub asks : ℕ → ℕ → List Sample → List Event
asks shards i samples = map Submit (part_of (λ s. shard s.key shards) i samples)

-- the replies at so many shards, each weighed, added up
abbrev pub summed_in : (Reply → ℕ) → ℕ → (ℕ → History) → ℕ
summed_in weigh shards acts = sum_by (λ i. summed_by weigh (acts i)) (range_with_len 0 shards)

-- An event that each shard was asked for, and what each replied, by the shard's number.
pub record Broadcast : Type 0 where
  pub event : Event
  pub replies : ℕ → Reply

-- what was asked for
abbrev pub events_in : List Broadcast → List Event
events_in asked = map (λ b. b.event) asked

-- what the administrator did at shard i
abbrev pub acts_in : List Broadcast → ℕ → History
acts_in asked i = map (λ b. record { who = administrator; event = b.event; reply = b.replies i }) asked

-- what all shards replied to the n-th event, from 0
abbrev pub replies_at : ℕ → List Broadcast → ℕ → List Reply
replies_at shards asked n = get_or (map (λ b. map b.replies (range_with_len 0 shards)) asked) n []

-- what so many packets and pieces count for, with bad pieces and dropped samples; each number stops at the last count
abbrev pub tally_of : (packets lines bad drops : ℕ) → Tally
tally_of packets lines bad drops =
    record { packets = min packets last_number; lines = min lines last_number; bad = min bad last_number; dropped = min drops last_number }

-- The datagrams that a source has given since were sent on each of the wires, as they came.
pub record PassesOn (read : List (List ℕ)) (sendings : List Sending) (source source_now : Object) (wires wires_now : List Object) : Type 0 where
  pub given : source.content ≡ with_datagrams read source_now.content
  pub repeated : map (λ s. s.packet) sendings ≡ read
  pub every_wire : All (λ s. length s.failed ≡ length wires) sendings
  pub sends : AreRepeated sendings wires wires_now

-- A tally that was added at the desk, and the moment that was told with it.
pub record Addition : Type 0 where
  pub tally : Tally
  pub now : ℕ

-- what an event adds
abbrev pub addition_of : DeskEvent → List Addition
addition_of (Add tally now) = record { tally = tally; now = now } ∷ []
addition_of event = []

-- what calls added, in order
abbrev pub additions_in : List DeskCall → List Addition
additions_in calls = flat_map (λ c. addition_of c.event) calls

-- a receiver's events at the desk: it adds tallies, counts sends that failed, and looks
abbrev pub IsReceiving : DeskEvent → Type 0
IsReceiving (Add tally now) = ⊤
IsReceiving (RepeaterFaults sends) = ⊤
IsReceiving Look = ⊤
IsReceiving event = ⊥

-- A datagram was counted so: as one packet, with its pieces, those that are bad, and drops, at a moment that the clock may say.
pub record IsCountOf (says : ℕ → Type 0) (datagram : List ℕ) (a : Addition) : Type 0 where
  pub drops : ℕ
  pub tally_is : a.tally ≡ tally_of 1 (length (pieces datagram)) (bad_of datagram) drops
  pub moment : says a.now

-- The calls of who read these datagrams: each datagram was counted once, in order, and besides only sends that failed.
pub record CountsDatagrams (says : ℕ → Type 0) (read : List (List ℕ)) (calls : List DeskCall) : Type 0 where
  pub only : AllByRecursion (λ c. IsReceiving c.event) calls
  pub each : AllZip (IsCountOf says) read (additions_in calls)

-- What a receiver did: the datagrams that it read, their sends on its wires, and how it ended.
pub record ReceiverTrace : Type 0 where
  pub read : List (List ℕ)
  pub sendings : List Sending
  pub ended : LoopEnd

-- Each receiver, in order, did what is told of it with the next source and the next so many wires; all after theirs are as they were.
abbrev pub HaveRun : {R : Type 0} → (R → (source source_now : Object) → (wires wires_now : List Object) → Type 0) → (run : ℕ) → List R → (sources sources_now wires wires_now : List Object) → Type 0
HaveRun Did run [] sources sources_now wires wires_now = (sources_now ≡ sources) × (wires_now ≡ wires)
HaveRun Did run (r ∷ rs) [] sources_now wires wires_now = ⊥
HaveRun Did run (r ∷ rs) (s ∷ sources) [] wires wires_now = ⊥
HaveRun Did run (r ∷ rs) (s ∷ sources) (n ∷ sources_now) wires wires_now =
    Did r s n (take run wires) (take run wires_now) × HaveRun Did run rs sources sources_now (drop run wires) (drop run wires_now)
