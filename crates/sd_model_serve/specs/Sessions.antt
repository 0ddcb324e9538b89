-- Sessions by lines, whatever a line asks for; those of a server's admin port; and doors, which serve sessions one after another.
use Rattle.std.specs.{Prelude.{◌≡◌, ◌≢◌, ℕ, ◌+◌, ◌<◌, List, [], ◌∷◌, ◌++◌, length, flat_map, nat_lt, Bool, true, false, map, take, slice_get, Some, Result, Ok, ◌≤◌, if◌then◌else◌, sum_by}, List.{All, AllByRecursion, AllZip}}
use Rattle.sd_model_outside.specs.{Outside.{Object, HasFailedBehind, Rose, Reads, IsAtEnd, given, RoseBy}, Uses.{session_of, with_sessions, with_back}}
use Rattle.sd_model_record.specs.{Admin.{TooLong, longest_line, AdminFault, command, Command, Health, Up, Down}, Replies.{fault_line, AdminReply, reply_text, admin_events, replies_by, replies_text}, Desk.{Facts}, DeskHistory.{DeskCall, SetHealth, Look, Done, Reported}}
use Rattle.sd_model_shard.specs.Shard.{Event}
use Rattle.sd_model_serve.specs.Receiving.{Broadcast, events_in, replies_at}
use Rattle.sd_model_settings.specs.Settings as file
use Rattle.sd_model_record.specs.Admin as admin

-- What a session is about, where this is what is known of a line that was executed: the line itself; what is replied to it; that it
-- was executed whole, and the session goes on; that it asks for the end; and that the reply to it was cut.
pub record Talk (E : Type 0) : Type 1 where
  pub line : E → List ℕ
  pub text : E → List ℕ
  pub goes_on : E → Type 0
  pub quits : E → Type 0
  pub is_cut : E → (sink sink_now : Object) → Type 0

-- How a session ended: by the command; at its source's end; since source or output failed; by a line that is too long.
pub data SessionEnd : Type 0 where
  Quit AtEnd ReadFault WriteFault LineTooLong : SessionEnd

-- A session as it went: the lines replied to whole; the one at which it ended, if any; the bytes read after these; its end.
pub record Dialogue (E : Type 0) : Type 0 where
  pub exchanges : List E
  pub last : List E
  pub rest : List ℕ
  pub ended : SessionEnd

-- no newline is among bytes
abbrev pub HasNoNewline : List ℕ → Type 0
HasNoNewline bytes = All (λ b. b ≢ 10) bytes

-- how many bytes without a newline are too many
abbrev pub too_many : ℕ
too_many = longest_line + 1

-- what is replied to them
abbrev pub too_long_text : List ℕ
too_long_text = fault_line TooLong

-- bytes that may be in one line: no newline is among them, and they aren't too many
abbrev pub FitsLine : List ℕ → Type 0
FitsLine bytes = HasNoNewline bytes × (length bytes < too_many)

-- bytes without a newline that are too many
abbrev pub IsTooLong : List ℕ → Type 0
IsTooLong rest = HasNoNewline rest × (length rest ≡ too_many)

module _ {E : Type 0} where
  -- all the lines of a session that were executed
  abbrev pub lines_in : Dialogue E → List E
  lines_in d = d.exchanges ++ d.last

  module _ (t : Talk E) where
    -- the bytes of lines, each with the newline that ends it
    abbrev pub bytes_of : List E → List ℕ
    bytes_of exchanges = flat_map (λ e. t.line e ++ 10 ∷ []) exchanges

    -- what is replied to lines
    abbrev pub replied : List E → List ℕ
    replied exchanges = flat_map t.text exchanges

    -- the reply to a last line was cut, or the one to bytes that are too many
    abbrev pub WasCut : (last : List E) → (rest : List ℕ) → (sink sink_now : Object) → Type 0
    WasCut [] rest sink sink_now = IsTooLong rest × HasFailedBehind too_long_text sink sink_now
    WasCut (e ∷ []) rest sink sink_now = t.is_cut e sink sink_now
    WasCut (e ∷ next ∷ more) rest sink sink_now = ⊥

    -- A session ended so, at its last line or after all lines, with these bytes read after them; its source had so many faults.
    abbrev pub EndsSession : SessionEnd → (last : List E) → (rest : List ℕ) → (faults : ℕ) → (source_now sink sink_now : Object) → Type 0
    EndsSession Quit last rest faults source_now sink sink_now =
        (e : E) × (last ≡ e ∷ []) × t.quits e × (source_now.faults ≡ faults) × (sink_now ≡ sink)
    EndsSession AtEnd last rest faults source_now sink sink_now =
        (last ≡ []) × FitsLine rest × IsAtEnd source_now.content × (source_now.faults ≡ faults) × (sink_now ≡ sink)
    EndsSession ReadFault last rest faults source_now sink sink_now = (last ≡ []) × FitsLine rest × Rose faults source_now.faults × (sink_now ≡ sink)
    EndsSession WriteFault last rest faults source_now sink sink_now = (source_now.faults ≡ faults) × WasCut last rest sink sink_now
    EndsSession LineTooLong last rest faults source_now sink sink_now =
        (last ≡ []) × IsTooLong rest × (source_now.faults ≡ faults) × (sink_now ≡ given too_long_text sink)

    -- What is seen of the two ends of a session as it went so: its lines, none too long, and then the rest were read; the replies
    -- to the lines that were executed whole were written, before its end; and both ends are where they were.
    pub record HasTalked (d : Dialogue E) (source source_now sink sink_now : Object) : Type 0 where
      pub lines : AllByRecursion t.goes_on d.exchanges
      pub each : AllByRecursion (λ e. FitsLine (t.line e)) (lines_in d)
      pub read : Reads source.content (bytes_of (lines_in d) ++ d.rest) source_now.content
      pub source_place : source_now.opened_at ≡ source.opened_at
      pub sink_place : sink_now.opened_at ≡ sink.opened_at
      pub ends : EndsSession d.ended d.last d.rest source.faults source_now (given (replied d.exchanges) sink) sink_now

-- A line as it was executed: when, what the desk told of itself then, and what was asked of the shards.
pub record Exchange : Type 0 where
  pub line : List ℕ
  pub now : ℕ
  pub facts : Facts
  pub asked : List Broadcast

-- what is replied to it; backends have outlets where the settings say so
abbrev pub replies_of : ℕ → file.Settings → Exchange → List AdminReply
replies_of shards settings e = replies_by (nat_lt 0 settings.transport.outlets) (replies_at shards e.asked) e.facts settings e.now (command e.line)

-- A reply was cut, since the output failed: those before it were written whole, and of it a prefix. Of the events just those were
-- asked for whose replies were written whole, and the one of the reply that was cut.
pub record IsCut (replies : List AdminReply) (events asked : List Event) (old new : Object) : Type 0 where
  pub whole : ℕ
  pub cut : AdminReply
  pub part : slice_get replies whole ≡ Some cut
  pub prefix : asked ≡ take (whole + 1) events
  pub written : HasFailedBehind (reply_text cut) (given (replies_text (take whole replies)) old) new

-- whether a line's command asks for the end
abbrev pub is_quit : Result admin.Command AdminFault → Bool
is_quit (Ok admin.Quit) = true
is_quit answer = false

-- A line was executed whole, at a moment that the clock may say, and doesn't ask for the end.
pub record GoesOn (says : ℕ → Type 0) (e : Exchange) : Type 0 where
  pub all : events_in e.asked ≡ admin_events (command e.line)
  pub goes_on : is_quit (command e.line) ≡ false
  pub now : says e.now

-- The talk of a server's sessions. A line that asks for the end asks nothing of the shards.
abbrev pub admin_talk : ℕ → file.Settings → (says : ℕ → Type 0) → Talk Exchange
admin_talk shards settings says = record {
  line = λ e. e.line;
  text = λ e. replies_text (replies_of shards settings e);
  goes_on = GoesOn says;
  quits = λ e. (is_quit (command e.line) ≡ true) × (e.asked ≡ []);
  is_cut = λ e sink sink_now. IsCut (replies_of shards settings e) (admin_events (command e.line)) (events_in e.asked) sink sink_now × says e.now;
}

-- A session that was served: what was seen of the end that asks and the one that is told, before and after; whether it was a fault.
pub record Visit : Type 0 where
  pub asking : Object
  pub asking_now : Object
  pub answered : Object
  pub answered_now : Object
  pub is_fault : Bool

-- how many of visits were counted as faults
abbrev pub faults_among : List Visit → ℕ
faults_among visits = sum_by (λ v. if v.is_fault then 1 else 0) visits

-- Sessions were taken of a door and given back, one after another, after so many failures of the door. The ends of each had no
-- faults at first, and it is a fault only where one of them failed. Each failure and each session took a turn of the door, and each
-- failure and each visit that is a fault raised the door's faults. The door is where it was, and no session is out.
pub record ServesDoor (visits : List Visit) (failures : ℕ) (door door_now : Object) : Type 0 where
  pub fresh : AllByRecursion (λ v. (v.asking.faults ≡ 0) × (v.answered.faults ≡ 0)) visits
  pub causes : AllByRecursion (λ v. v.is_fault ≡ true → 0 < v.asking_now.faults + v.answered_now.faults) visits
  pub sessions : with_back (map (λ v. session_of v.asking_now v.answered_now) visits) door.content
      ≡ with_sessions (map (λ v. session_of v.asking v.answered) visits) door_now.content
  pub many : door.turns + (failures + length visits) ≤ door_now.turns
  pub place : door_now.opened_at ≡ door.opened_at
  pub none_out : door_now.is_out ≡ false
  pub rises : door.faults ≤ door_now.faults
  pub faults : RoseBy (failures + faults_among visits) door.faults door_now.faults

-- whether a session ended since one of its ends failed
abbrev pub ends_by_fault : SessionEnd → Bool
ends_by_fault ReadFault = true
ends_by_fault WriteFault = true
ends_by_fault ended = false

module _ (shards : ℕ) (settings : file.Settings) (says : ℕ → Type 0) where
  -- a visit of a door's session went so, and is a fault just where the session ended by one
  pub record IsVisitOf (v : Visit) (d : Dialogue Exchange) : Type 0 where
    pub talked : HasTalked (admin_talk shards settings says) d v.asking v.asking_now v.answered v.answered_now
    pub fault : v.is_fault ≡ ends_by_fault d.ended

-- what sessions asked of all shards, one after another
abbrev pub asked_by : List (Dialogue Exchange) → List Broadcast
asked_by dialogues = flat_map (λ d. flat_map (λ e. e.asked) (lines_in d)) dialogues

-- what a command calls of the desk besides: it sets the health, where it says so
abbrev pub health_calls : Result Command AdminFault → List DeskCall
health_calls (Ok (Health Up)) = record { event = SetHealth true; answer = Done } ∷ []
health_calls (Ok (Health Down)) = record { event = SetHealth false; answer = Done } ∷ []
health_calls answer = []

-- a line's calls of the desk: it asks for the facts of its replies, and sets the health, if it says so; a last line calls nothing
abbrev pub line_calls : Exchange → List DeskCall
line_calls e = if is_quit (command e.line) then [] else (record { event = Look; answer = Reported e.facts } ∷ health_calls (command e.line))

-- the calls of sessions, in order
abbrev pub called_in : List (Dialogue Exchange) → List DeskCall
called_in dialogues = flat_map (λ d. flat_map line_calls (lines_in d)) dialogues
